-- The value of a key, in the one row that shows it.
use Rattle.std.proofs.Common.{◌≡◌, ℕ, List, map, Option, Ok, Err, Result, IfOk, IfErr, sym, ◌∙◌}
use Rattle.std.specs.Prelude.{option_map}
use Rattle.std.specs.Option.{option_to_list}
use Rattle.sqlite.specs.Order.{Row}
use Rattle.sqlite.specs.State.{State}
use Rattle.fuse_keeper.specs.declared.fault.StoreFault.{StoreFault}
use Rattle.fuse_guest.specs.Pairs.{value_for}
use Rattle.fuse_store_tables.specs.Faults.{IsOutside}
use Rattle.guest_tables.specs.Rows.{PairRow, pair_at}
use Rattle.guest_tables.specs.Content.{GuestContent}
use Rattle.guest_tables.specs.Holding.{pairs_in}
use Rattle.guest_tables.specs.Moves.{Inside}
use Rattle.guest_tables.specs.inner.Slices.{shown_value}
use Rattle.guest_tables.proofs.PairHoldings.{steps}

pub value_told : {V : Type 0} (items : V → List ℕ) (r : Result (Option V) StoreFault) (rows : List Row) (a : State) (key : List ℕ)
    → ((c : GuestContent) → Inside c a → rows ≡ map shown_value (option_to_list (pair_at key c.pairs)))
    → IfOk r (λ v. (o : Option PairRow) → rows ≡ map shown_value (option_to_list o) → option_map items v ≡ option_map (λ p. p.value) o)
    → IfOk r (λ v. (c : GuestContent) → Inside c a → option_map items v ≡ value_for (pairs_in c) key)
value_told items (Ok v) rows a key are told = λ c at. told (pair_at key c.pairs) (are c at) ∙ sym (steps.value c a.now key at.holds)
value_told items (Err f) rows a key are told = tt

pub value_untold : {V : Type 0} (r : Result (Option V) StoreFault) (rows : List Row) (a : State) (key : List ℕ)
    → ((c : GuestContent) → Inside c a → rows ≡ map shown_value (option_to_list (pair_at key c.pairs)))
    → IfErr r (λ f. (o : Option PairRow) → rows ≡ map shown_value (option_to_list o) → IsOutside f)
    → IfErr r (λ f. (c : GuestContent) → Inside c a → IsOutside f)
value_untold (Ok v) rows a key are told = tt
value_untold (Err f) rows a key are told = λ c at. told (pair_at key c.pairs) (are c at)
