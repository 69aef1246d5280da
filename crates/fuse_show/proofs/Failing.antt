-- A look failed before an output was at its end.
use Rattle.std.proofs.Common.{◌≡◌, List, ℕ, [], Some, refl, sym, subst}
use Rattle.std.specs.Prelude.{Result, Ok, Err}
use Rattle.std.specs.declared.io.Error.{Error}
use Rattle.fuse_tree.specs.declared.look.LookFault.{LookFault}
use Rattle.fuse_rows.specs.Rows.{Rows}
use Rattle.fuse_show.specs.declared.fault.ShowFault.{ShowFault}
use Rattle.fuse_show.specs.declared.fault.ShowFault.TheVariants.{Look}
use Rattle.fuse_show.specs.Looks.{ReadOff, ReadUpTo, lies_between, look_fault_in}
use Rattle.fuse_show.specs.inner.Writing.{PutsOut}
use Rattle.fuse_show.proofs.Looking.{up_to_before}
use Rattle.fuse_show.proofs.Sinking.{Took, takes_none, took_cut}

module _ {W S X : Type 0} (written : W → W → Result ℕ Error → List ℕ → Type 0) (clean : S → Type 0) (looking failing : S → S → Type 0) (sees : S → Rows → Type 0) where
  -- what was put before it
  pub look_cut : (a b : W) (s m t : S) (r : Result X ShowFault) (e : LookFault) (P : Rows → List ℕ → Result X ShowFault → Type 0) (B : List ℕ → Type 0)
      → Took written a b B → looking s m → failing m t → r ≡ Err (Look e) → ((xs : List ℕ) → B xs → ReadOff (clean m) (sees s) (λ rows. P rows xs (Err (Look e))))
      → PutsOut written a b r (λ bytes. ReadUpTo clean (lies_between looking failing s t) (sees s) t (look_fault_in r) (λ rows. P rows bytes r))
  look_cut a b s m t r e P B before looks fails is so =
      subst (λ (x : Result X ShowFault). PutsOut written a b x (λ bytes. ReadUpTo clean (lies_between looking failing s t) (sees s) t (look_fault_in x) (λ rows. P rows bytes x))) (sym is)
      (took_cut written {X = X} a b (Look e) B (λ bytes. ReadUpTo clean (lies_between looking failing s t) (sees s) t (Some e) (λ rows. P rows bytes (Err (Look e)))) before refl
      (λ xs p. up_to_before clean looking failing sees s m t (Some e) (λ rows. P rows xs (Err (Look e))) (λ same. absurd cc) looks fails (so xs p)))

  -- nothing was put
  pub look_failed : (a : W) (s t : S) (r : Result X ShowFault) (e : LookFault) (P : Rows → List ℕ → Result X ShowFault → Type 0) → looking s s → failing s t
      → r ≡ Err (Look e) → ((rows : Rows) → P rows [] (Err (Look e)))
      → PutsOut written a a r (λ bytes. ReadUpTo clean (lies_between looking failing s t) (sees s) t (look_fault_in r) (λ rows. P rows bytes r))
  look_failed a s t r e P still fails is so =
      look_cut a a s s t r e P (λ xs. xs ≡ []) (record { bytes = []; takes = takes_none written a; so = refl }) still fails is
      (λ xs p. subst (λ (ys : List ℕ). ReadOff (clean s) (sees s) (λ rows. P rows ys (Err (Look e)))) (sym p) (λ is_clean rows rowed at. so rows))
