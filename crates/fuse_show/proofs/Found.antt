-- What a walk over a tree writes of what it finds.
use Rattle.std.proofs.Common.{◌≡◌, ◌++◌, ℕ, List, [], codes, refl, sym, ap, subst, append-nil, ◌∙◌}
use Rattle.std.specs.Prelude.{◌⊎◌, Option, Result, Ok, Err, IfErr}
use Rattle.std.specs.declared.io.Error.{Error}
use Rattle.fuse_tree.specs.declared.look.LookFault.{LookFault}
use Rattle.fuse_show.specs.declared.fault.ShowFault.{ShowFault}
use Rattle.fuse_show.specs.declared.fault.ShowFault.TheVariants as show
use Rattle.fuse_show.specs.declared.findings.Finding.{Finding}
use Rattle.fuse_show.specs.declared.verify.VerifyFault.{VerifyFault}
use Rattle.fuse_show.specs.declared.verify.VerifyFault.TheVariants.{Look, Wrong, Memory, Output}
use Rattle.fuse_show.specs.Findings.{line_at, finding_line, unread_line}
use Rattle.fuse_show.specs.Names.{name_text}
use Rattle.fuse_show.specs.Shown.{way_of, IsWritten}
use Rattle.fuse_show.specs.Sinks.{Outputs, Failed, IsPartOf}
use Rattle.fuse_show.specs.Walked.{IsFinding, IsUnread, OnlyWalked, TellsLook, WalkWrites}
use Rattle.fuse_show.proofs.Sinking.{takes_none}

-- a line by its texts
pub line_parts : (path text : List ℕ) → line_at path text ≡ (codes "/" ++ name_text path) ++ ((codes ": " ++ (text ++ [])) ++ codes "\n")
line_parts path text = ap (line_at path) (sym (append-nil text))

module _ {W : Type 0} (written : W → W → Result ℕ Error → List ℕ → Type 0) (flushed : W → W → Result (Unit {0}) Error → Type 0) where
  -- its line was written
  pub found_wrong : (a b : W) (path : List ℕ) (f : Finding)
      → Outputs written flushed a b (way_of {X = Unit {0}} (Ok tt)) (λ bytes. IsWritten (finding_line path f) bytes (Ok tt)) → WalkWrites written flushed a b Wrong
  found_wrong a b path f p = record { bytes = p.bytes; mid = p.mid; takes = p.takes; last = p.last; so = (path, f, p.so) }

  pub found_unread : (a b : W) (path : List ℕ) (e : LookFault)
      → Outputs written flushed a b (way_of {X = Unit {0}} (Ok tt)) (λ bytes. IsWritten (unread_line path) bytes (Ok tt)) → WalkWrites written flushed a b (Look e)
  found_unread a b path e p = record { bytes = p.bytes; mid = p.mid; takes = p.takes; last = p.last; so = (path, p.so) }

  -- or a part of it
  pub found_cut : (a b : W) (line : List ℕ) (e : ShowFault) → IsFinding line ⊎ IsUnread line → e ≡ show.Output
      → Outputs written flushed a b (way_of {X = Unit {0}} (Err e)) (λ bytes. IsWritten line bytes (Err e)) → WalkWrites written flushed a b Output
  found_cut a b line e one is p =
      whole (subst (λ (x : ShowFault). Outputs written flushed a b (way_of {X = Unit {0}} (Err x)) (λ bytes. IsWritten line bytes (Err x))) is p)
    where
      whole : Outputs written flushed a b Failed (λ bytes. IsPartOf bytes line) → WalkWrites written flushed a b Output
      whole q = record { bytes = q.bytes; mid = q.mid; takes = q.takes; last = q.last; so = (line, one, q.so) }

  -- there was no memory for a path
  pub nothing_found : (a : W) (e : VerifyFault) → e ≡ Memory → WalkWrites written flushed a a e
  nothing_found a e is = subst (WalkWrites written flushed a a) (sym is) (record { bytes = []; mid = a; takes = takes_none written a; last = refl; so = refl })

  pub found_memory : {X : Type 0} (a b : W) (r : Result X VerifyFault) (e : VerifyFault) → r ≡ Err e → e ≡ Memory → b ≡ a → IfErr r (WalkWrites written flushed a b)
  found_memory {X = X} a b r e failed is same =
      subst (λ (x : Result X VerifyFault). IfErr x (WalkWrites written flushed a b)) (sym failed)
      (subst (λ (x : W). WalkWrites written flushed a x e) (sym same) (nothing_found a e is))

  -- nothing was written before it
  pub found_after : (a b c : W) (e : VerifyFault) → b ≡ a → WalkWrites written flushed b c e → WalkWrites written flushed a c e
  found_after a b c e same p = subst (λ (x : W). WalkWrites written flushed x c e) same p

-- a walk ends with what is wrong, after looks that went well
pub walked_wrong : {S X : Type 0} (fault_of : S → Option LookFault) (looking failing : S → S → Type 0) (a b : S) (f : VerifyFault) → failing a b
    → ((told : Option LookFault) → TellsLook told f) → OnlyWalked {X = X} fault_of looking failing a b (Err f)
walked_wrong fault_of looking failing a b f fails told = record { well = tt; looks = tt; fails = fails; tells = told (fault_of b) }
