-- What is read of a store's promises, and that nothing is changed by it.
use Rattle.std.proofs.Common.{◌≡◌, List, [], ◌∷◌, Result, Ok, inl, inr, refl, sym, subst, ◌∙◌}
use Rattle.sqlite.specs.Order.{Row, column}
use Rattle.sqlite.specs.Effect.{Database}
use Rattle.sqlite.specs.State.{State, HasCleanDisk}
use Rattle.sqlite.specs.declared.types.Value.{Value}
use Rattle.sqlite.proofs.StateLemmas.{survives_then}
use Rattle.sqlite.proofs.InsideLemmas.{keeps_then}
use Rattle.fuse_keeper.specs.declared.fault.StoreFault.{StoreFault}
use Rattle.fuse_keeper.specs.declared.fault.StoreFault.TheVariants.{Memory, Sql, NotAStore, Version, Damaged, Guest as GuestFailed}
use Rattle.fuse_store_tables.specs.Faults.{IsPlain as IsOfTables}
use Rattle.fuse_store_tables.specs.Moves.{LeavesAlone, OnlyReads, RestsAs, ServesAs}
use Rattle.fuse_store_tables.specs.Saying.{HasFirst}
use Rattle.fuse_store_tables.specs.inner.Following.{earlier}
use Rattle.guest_tables.specs.Content.{Holds}
use Rattle.guest_tables.specs.Holding.{GuestHolding, HeldFor}
use Rattle.guest_tables.specs.Layout.{guest_version}
use Rattle.guest_tables.specs.Opening.{IsStored}
use Rattle.guest_tables.specs.Saying.{HasOwn, IsOwn, IsTabled, Says}

-- ---- what is held

-- its content
pub content_rests : (y : GuestHolding) (s : State) (at : RestsAs (HeldFor y) s) → RestsAs (Holds at.holds.0) s
content_rests y s at = record { is_open = at.is_open; autocommit = at.autocommit; holds = at.holds.1; committed = at.committed }

pub stored_rests : (y : GuestHolding) (s : State) (at : RestsAs (HeldFor y) s) → RestsAs (IsStored at.holds.0) s
stored_rests y s at =
    record { is_open = at.is_open; autocommit = at.autocommit; holds = record { holds = at.holds.1; fit = at.holds.2 }; committed = at.committed }

-- after an opening, and after a look
pub held_stored : {X E : Type 0} (a b : State) (x : X) → ServesAs {E = E} IsStored IsStored a b (Ok x) → HasCleanDisk b → (y : GuestHolding) → RestsAs (HeldFor y) a
    → RestsAs (HeldFor y) b
held_stored a b x p clean y at =
    let now = p.done clean at.holds.0 (stored_rests y a at) in
    record { is_open = now.is_open; autocommit = now.autocommit; holds = (at.holds.0, now.holds.holds, at.holds.2, at.holds.3); committed = now.committed }

pub held_looked : {X E : Type 0} (a b : State) (x : X) → ServesAs {E = E} Holds Holds a b (Ok x) → HasCleanDisk b → (y : GuestHolding) → RestsAs (HeldFor y) a
    → RestsAs (HeldFor y) b
held_looked a b x p clean y at =
    let now = p.done clean at.holds.0 (content_rests y a at) in
    record { is_open = now.is_open; autocommit = now.autocommit; holds = (at.holds.0, now.holds, at.holds.2, at.holds.3); committed = now.committed }

-- ---- of any database

pub alone_reads : {X E : Type 0} (a b d : State) (r : Result X E) → LeavesAlone a b → OnlyReads b d r → LeavesAlone a d
alone_reads a b d r p q = record {
  survives = survives_then a b d _ _ _ (λ _ db none. none) (λ _ db none. none) p.survives q.commits.survives;
  autocommit = λ clean. q.outside clean (p.autocommit (earlier b d _ q.commits.survives clean));
  same = λ clean is_open.
      let mid = earlier b d _ q.commits.survives clean in
      let kept = q.commits.kept clean in
      let was = p.same mid (kept.was_open is_open) in
      let committed = kept.committed is_open in
      let seen : d.now ≡ b.committed = elim (q.seen clean is_open) [
        | inl same ↦ same ∙ was.2
        | inr back ↦ back
      ] in (was.0, committed ∙ was.1, seen ∙ sym committed);
}

-- a store of a guest, of its version
own : (rows : List Row) → HasFirst guest_version rows → HasOwn rows
own [] is = absurd is
own (row ∷ rows) is = subst IsOwn (sym is) refl

pub says_plain : (d : Database) (f : StoreFault) → IsTabled d → IsOfTables f → Says d f
says_plain d Memory is plain = tt
says_plain d (Sql e) is plain = tt
says_plain d NotAStore is plain = absurd plain
says_plain d (Version n) is plain = absurd plain
says_plain d GuestFailed is plain = absurd plain
says_plain d Damaged is plain = (is.0.0, is.0.1, own is.0.0 is.0.2)
