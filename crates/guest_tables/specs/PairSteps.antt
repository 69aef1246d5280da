-- Steps that change the pairs that a guest's store holds (defined by this project: the guest protocol, 'A life').
use Rattle.std.specs.Prelude.{◌≡◌, ℕ, List, Result, option_map}
use Rattle.sqlite.specs.Effect.{Database}
use Rattle.sqlite.specs.State.{State}
use Rattle.fuse_store_tables.specs.Moves.{Takes}
use Rattle.guest_frames.specs.Frames.{PairContent, IsPair}
use Rattle.fuse_guest.specs.Pairs.{Pairs, ArePairs, put_pair, value_for, without_key, without_range}
use Rattle.guest_tables.specs.Rows.{pair_at}
use Rattle.guest_tables.specs.Content.{GuestContent, Holds, put_value, without_pair, without_pairs_within}
use Rattle.guest_tables.specs.Opening.{IsFitContent}
use Rattle.guest_tables.specs.Holding.{GuestHolding, HeldFor, pairs_in, holding_in}

abbrev pub pair_with : List ℕ → List ℕ → PairContent
pair_with key value = record { key = key; value = value }

-- other pairs, and all else as it was
abbrev pub with_pairs_by : (Pairs → Pairs) → GuestHolding → GuestHolding
with_pairs_by f y = record y { state = record y.state { pairs = f y.state.pairs } }

-- a step within a transaction that makes this of the pairs
abbrev pub Changes : {X E : Type 0} → (Pairs → Pairs) → State → State → Result X E → Type 0
Changes f = Takes HeldFor (λ y. HeldFor (with_pairs_by f y))

-- the steps of the rows are those of the pairs
pub record StepsAreOfPairs : Type 0 where
  pub value : (c : GuestContent) (d : Database) (key : List ℕ) → Holds c d
      → value_for (pairs_in c) key ≡ option_map (λ p. p.value) (pair_at key c.pairs)
  pub put : (c : GuestContent) (d : Database) (key value : List ℕ) → Holds c d
      → holding_in (put_value key value c) ≡ with_pairs_by (put_pair (pair_with key value)) (holding_in c)
  pub delete : (c : GuestContent) (d : Database) (key : List ℕ) → Holds c d
      → holding_in (without_pair key c) ≡ with_pairs_by (without_key key) (holding_in c)
  pub clear : (c : GuestContent) (d : Database) (from to : List ℕ) → Holds c d
      → holding_in (without_pairs_within from to c) ≡ with_pairs_by (without_range from to) (holding_in c)

-- and they leave rows that are in order
pub record StepsFit : Type 0 where
  pub pairs : (c : GuestContent) → IsFitContent c → ArePairs (pairs_in c)
  pub put : (c : GuestContent) (d : Database) (key value : List ℕ) → Holds c d → IsPair (pair_with key value) → IsFitContent c
      → IsFitContent (put_value key value c)
  pub delete : (c : GuestContent) (key : List ℕ) → IsFitContent c → IsFitContent (without_pair key c)
  pub clear : (c : GuestContent) (from to : List ℕ) → IsFitContent c → IsFitContent (without_pairs_within from to c)
