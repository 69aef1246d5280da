-- What a look at a begun mount sees, and what is written of it.
use Rattle.std.proofs.Common.{◌≡◌, ◌∙◌, ℕ, List, [], ap, Option, Some, None, true, IsTrue, inl, inr, refl, sym, subst}
use Rattle.std.specs.Prelude.{◌⊎◌, Result, Ok, Err, IfSome}
use Rattle.std.specs.declared.io.Error.{Error}
use Rattle.sqlite.specs.Effect.{Database}
use Rattle.sqlite.specs.State.{State, HasCleanDisk}
use Rattle.sqlite_wal.specs.Recovery.{Image}
use Rattle.fuse_keeper.specs.declared.fault.StoreFault.{StoreFault}
use Rattle.fuse_keeper.specs.declared.fault.StoreFault.TheVariants as store
use Rattle.fuse_tree.specs.declared.look.LookFault.{LookFault}
use Rattle.fuse_store_tables.specs.Faults.{IsOutside, IsPlain}
use Rattle.fuse_store_tables.specs.Moves.{IsReady}
use Rattle.fuse_store_tables.specs.Saying.{IsTabled}
use Rattle.fuse_store_tree.specs.Holding.{HeldFor}
use Rattle.fuse_store_tree.specs.Looking.{as_look_fault, MayFail}
use Rattle.fuse_store_tree.specs.Knowing.{KnownTables}
use Rattle.fuse_show.specs.declared.fault.ShowFault.{ShowFault}
use Rattle.fuse_show.specs.declared.fault.ShowFault.TheVariants.{Output}
use Rattle.fuse_show.specs.declared.tally.Tally.{Tally}
use Rattle.fuse_show.specs.declared.verify.VerifyFault.{VerifyFault}
use Rattle.fuse_show.specs.declared.verify.VerifyFault.TheVariants as walk
use Rattle.fuse_show.specs.Shown.{way_of, IsWritten}
use Rattle.fuse_show.specs.Sinks.{IsPartOf, Way, Flushed, Failed, Left, Outputs}
use Rattle.fuse_show.specs.Walked.{IsFinding, IsUnread, TellsLook, WalkWrites}
use Rattle.fuse_commands.specs.declared.ending.Ending.{Ending}
use Rattle.fuse_commands.specs.declared.ending.Ending.TheVariants as ending
use Rattle.fuse_commands.specs.Endings.{store_ending}
use Rattle.fuse_files.specs.StoreShown.{SaysNothing, SaysSo, IsUnopened, OutputsAs}
use Rattle.fuse_files.specs.StoreVerified.{IsStoreEnding, IsLineOf, Verdicts}
use Rattle.fuse_files.specs.inner.Showing.{showing_ending}
use Rattle.fuse_files.specs.inner.Verifying.{walk_ending}
use Rattle.fuse_files.proofs.Ends.{says_nothing, tabled_own, plain_so}
use Rattle.fuse_files.proofs.Looks.{sure_after}

-- ---- what is written of it

pub of_store : (f : StoreFault) → IsStoreEnding (store_ending f)
of_store store.Memory = tt
of_store (store.Sql e) = tt
of_store store.NotAStore = tt
of_store (store.Version n) = tt
of_store store.Damaged = tt
of_store store.Guest = tt

-- and one that says nothing of a store that it saw
pub outside_after : (a b : KnownTables) (was is : Option StoreFault) (x : LookFault) → as_look_fault was ≡ None → HasCleanDisk b.tables → IsTrue b.file.is_clean
    → IsReady (HeldFor a.file.bytes) a.tables → MayFail a b was is → as_look_fault is ≡ Some x → SaysNothing (showing_ending is)
outside_after a b was is x none clean good on may told = by is told (sure_after a b was is none clean good on may)
  where
    by : (is : Option StoreFault) → as_look_fault is ≡ Some x → IfSome is IsOutside → SaysNothing (showing_ending is)
    by None told so = absurd (cc)
    by (Some f) told so = says_nothing f so

pub look_of_store : (fault : Option StoreFault) → IsStoreEnding (showing_ending fault)
look_of_store None = tt
look_of_store (Some f) = of_store f

-- the fault of a walk that a look ended
pub told_look : (fault : Option LookFault) (f : VerifyFault) (x : LookFault) → f ≡ walk.Look x → TellsLook fault f → fault ≡ Some x
told_look fault (walk.Look y) x same told = told ∙ cc
told_look fault walk.Wrong x same told = absurd cc
told_look fault walk.Memory x same told = absurd cc
told_look fault walk.Output x same told = absurd cc

module _ {W : Type 0} (written : W → W → Result ℕ Error → List ℕ → Type 0) (flushed : W → W → Result (Unit {0}) Error → Type 0) {Unsaid : Ending → Type 0}
    {Counted : Tally → Type 0} where
  -- nothing
  pub verdict_none : (a : W) (e : Ending) → Unsaid e → OutputsAs written flushed a a (Verdicts Unsaid Counted e)
  verdict_none a e unsaid =
      (Left, record { bytes = []; mid = a; takes = record { writes = []; calls = refl; taken = refl }; last = refl; so = (unsaid, refl) })

  -- a line
  pub verdict_line : (a b : W) (e : Ending) (line : List ℕ) → IsLineOf Unsaid Counted e line
      → Outputs written flushed a b (way_of {X = Unit {0}} (Ok tt)) (λ bytes. IsWritten line bytes (Ok tt)) → OutputsAs written flushed a b (Verdicts Unsaid Counted e)
  verdict_line a b e line is p =
      (Flushed, record { bytes = p.bytes; mid = p.mid; takes = p.takes; last = p.last; so = subst (IsLineOf Unsaid Counted e) (sym p.so) is })

  -- a part of it
  pub verdict_cut : (a b : W) (meant : Ending) (line : List ℕ) (f : ShowFault) → IsLineOf Unsaid Counted meant line → f ≡ Output
      → Outputs written flushed a b (way_of {X = Unit {0}} (Err f)) (λ bytes. IsWritten line bytes (Err f))
      → OutputsAs written flushed a b (Verdicts Unsaid Counted ending.PortFailed)
  verdict_cut a b meant line f one is p =
      cut (subst (λ (x : ShowFault). Outputs written flushed a b (way_of {X = Unit {0}} (Err x)) (λ bytes. IsWritten line bytes (Err x))) is p)
    where
      cut : Outputs written flushed a b Failed (λ bytes. IsPartOf bytes line) → OutputsAs written flushed a b (Verdicts Unsaid Counted ending.PortFailed)
      cut q = (Failed, record { bytes = q.bytes; mid = q.mid; takes = q.takes; last = q.last; so = (refl, meant, line, one, q.so) })

  -- what a walk wrote
  pub verdict_walk : (a b : W) (f : VerifyFault) (fault : Option StoreFault) → Unsaid ending.Memory → ((x : LookFault) → f ≡ walk.Look x → Unsaid (showing_ending fault))
      → WalkWrites written flushed a b f → OutputsAs written flushed a b (Verdicts Unsaid Counted (walk_ending fault f))
  verdict_walk a b (walk.Look x) fault memory unread p =
      (Flushed, record { bytes = p.bytes; mid = p.mid; takes = p.takes; last = p.last; so = inr (inr (unread x refl, p.so)) })
  verdict_walk a b walk.Wrong fault memory unread p =
      (Flushed, record { bytes = p.bytes; mid = p.mid; takes = p.takes; last = p.last; so = inr (inl (refl, p.so)) })
  verdict_walk a b walk.Memory fault memory unread p =
      (Left, record { bytes = p.bytes; mid = p.mid; takes = p.takes; last = p.last; so = (memory, p.so) })
  verdict_walk a b walk.Output fault memory unread p =
      let m = meant p.so.0 p.so.1 p.so.2 in
      (Failed, record { bytes = p.bytes; mid = p.mid; takes = p.takes; last = p.last; so = (refl, m.0, m.1, m.2, m.3) })
    where
      meant : (line : List ℕ) → IsFinding line ⊎ IsUnread line → IsPartOf p.bytes line
          → (e : Ending) × (text : List ℕ) × IsLineOf Unsaid Counted e text × IsPartOf p.bytes text
      meant line (inl found) part = (ending.Damaged, line, inr (inl (refl, found)), part)
      meant line (inr none) part = (ending.Memory, line, inr (inr (memory, none)), part)

  -- more is known of it
  pub verdict_more : {Unsaid' : Ending → Type 0} {Counted' : Tally → Type 0} (a b : W) (e : Ending) → ((f : Ending) → Unsaid f → Unsaid' f)
      → ((t : Tally) → Counted t → Counted' t) → OutputsAs written flushed a b (Verdicts Unsaid Counted e)
      → OutputsAs written flushed a b (Verdicts Unsaid' Counted' e)
  verdict_more {Unsaid' = Unsaid'} {Counted' = Counted'} a b e more right out = (
    out.0,
    record { bytes = out.1.bytes; mid = out.1.mid; takes = out.1.takes; last = out.1.last; so = so out.0 out.1.bytes out.1.so },
  )
    where
      line_of : (meant : Ending) (line : List ℕ) → IsLineOf Unsaid Counted meant line → IsLineOf Unsaid' Counted' meant line
      line_of meant line (inl (is, tally)) = inl (is, (tally.0, right tally.0 tally.1, tally.2))
      line_of meant line (inr (inl found)) = inr (inl found)
      line_of meant line (inr (inr unread)) = inr (inr (more meant unread.0, unread.1))

      so : (way : Way) (bytes : List ℕ) → Verdicts Unsaid Counted e way bytes → Verdicts Unsaid' Counted' e way bytes
      so Flushed bytes is = line_of e bytes is
      so Failed bytes (is, meant, line, one, part) = (is, meant, line, line_of meant line one, part)
      so Left bytes none = (more e none.0, none.1)

-- ---- what its ending says

pub nothing_of_store : (e : Ending) → SaysNothing e → IsStoreEnding e
nothing_of_store ending.Memory so = tt
nothing_of_store (ending.Sql _) so = tt
nothing_of_store _ so = absurd so

pub unopened_of_store : (image : Image) (e : Ending) → IsUnopened image e → IsStoreEnding e
unopened_of_store image e (inl so) = nothing_of_store e so
unopened_of_store image e (inr none) = subst IsStoreEnding (sym none.0) tt

-- of a walk
pub walk_so : (d : Database) → IsTabled d → (fault : Option StoreFault) (f : VerifyFault) → IfSome fault IsPlain → SaysSo d (walk_ending fault f)
walk_so d tabled None (walk.Look x) plain = tabled_own d tabled
walk_so d tabled (Some g) (walk.Look x) plain = plain_so d tabled g plain
walk_so d tabled fault walk.Wrong plain = tabled_own d tabled
walk_so d tabled fault walk.Memory plain = tt
walk_so d tabled fault walk.Output plain = tabled

-- of a line
pub verdict_so : {W : Type 0} {written : W → W → Result ℕ Error → List ℕ → Type 0} {flushed : W → W → Result (Unit {0}) Error → Type 0} {Counted : Tally → Type 0}
    (a b : W) (d : Database) → IsTabled d → (e : Ending) → OutputsAs written flushed a b (Verdicts (λ _. ⊥) Counted e) → SaysSo d e
verdict_so {Counted = Counted} a b d tabled e out = so out.0 out.1.bytes out.1.so
  where
    so : (way : Way) (bytes : List ℕ) → Verdicts (λ _. ⊥) Counted e way bytes → SaysSo d e
    so Flushed bytes (inl done) = subst (SaysSo d) (sym done.0) tabled
    so Flushed bytes (inr (inl found)) = subst (SaysSo d) (sym found.0) (tabled_own d tabled)
    so Flushed bytes (inr (inr unread)) = absurd unread.0
    so Failed bytes failed = subst (SaysSo d) (sym failed.0) tabled
    so Left bytes none = absurd none.0
