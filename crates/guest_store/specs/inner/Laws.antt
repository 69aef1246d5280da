-- The laws of the `impl` of `Keeper` (defined by this project). The proofs are here because an `impl` takes them from definitions alone.
use Rattle.std.proofs.Common.{◌≡◌, ℕ, sym, ap, ◌∙◌}
use Rattle.sqlite.specs.State.{State}
use Rattle.fuse_keeper.specs.Stands.{Records}
use Rattle.fuse_guest.specs.Talk.{Guest}
use Rattle.fuse_guest.specs.GuestModel.{GuestState}
use Rattle.guest_tables.specs.Holding.{GuestHolding}
use Rattle.guest_store.specs.Holding.{records_of}
use Rattle.guest_store.specs.StoreState.{held_as}
use Rattle.guest_store.specs.TableState.{HoldsIn}

-- it holds only one thing
pub one_held : (G : Guest) (s : State) (x y : GuestState) (p q : Records) → HoldsIn G s x p → HoldsIn G s y q → (x ≡ y) × ((i : ℕ) → p i ≡ q i)
one_held G s x y p q a b =
    let same : held_as G a.number a.holding ≡ held_as G b.number b.holding = sym a.read ∙ b.read in (
      a.is_of.rows_are ∙ ap (λ (h : GuestHolding). h.state) same ∙ sym b.is_of.rows_are,
      λ i. a.is_of.records_are i ∙ ap (λ (h : GuestHolding). records_of h.kept i) same ∙ sym (b.is_of.records_are i),
    )
