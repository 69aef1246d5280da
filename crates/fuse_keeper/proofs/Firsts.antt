-- The first entries of a group.
use Rattle.std.proofs.Common.{◌≡◌, ℕ, List, [], ◌∷◌, ◌++◌, All, refl, ap, subst}
use Rattle.fuse_keeper.specs.declared.keeper.Done.{Done}
use Rattle.fuse_keeper.specs.Model.{Model}
use Rattle.fuse_keeper.specs.History.{Entry, kept_of, IsUnsettled}
use Rattle.fuse_keeper.specs.Stands.{KeeperContent, Standing, StandsAt, without}
use Rattle.fuse_keeper.specs.Taking.{Took, TakesAll, FirstSaid}
use Rattle.fuse_keeper.proofs.InARow.{taken_is_performed}
use Rattle.fuse_keeper.proofs.Settled.{Stands-handed}

-- the first entries are taken too, with the first results
pub record TakenFirst (M : Model) (before : KeeperContent M) (first : List Entry) (dones : List Done) : Type 0 where
  pub held : KeeperContent M
  pub some : List Done
  pub others : List Done
  pub parts : dones ≡ some ++ others
  pub taken : TakesAll M before first held some

taken_more : (M : Model) → (before : KeeperContent M) (e : Entry) (first : List Entry) (mid : KeeperContent M) (done : Done) (dones : List Done)
    → Took M before e mid done → TakenFirst M mid first dones → TakenFirst M before (e ∷ first) (done ∷ dones)
taken_more M before e first mid done dones took more = record {
  held = more.held;
  some = done ∷ more.some;
  others = more.others;
  parts = ap (λ (ds : List Done). done ∷ ds) more.parts;
  taken = (mid, took, more.taken);
}

pub taken_first : (M : Model) → (before : KeeperContent M) (first later : List Entry) (after : KeeperContent M) (dones : List Done)
    → TakesAll M before (first ++ later) after dones → TakenFirst M before first dones
taken_first M before [] later after dones taken =
    record { held = before; some = []; others = dones; parts = refl; taken = (refl, λ i. refl) }
taken_first M before (e ∷ first) later after [] taken = absurd taken
taken_first M before (e ∷ first) later after (done ∷ dones) taken =
    taken_more M before e first taken.0 done dones taken.1 (taken_first M taken.0 first later after dones taken.2)

pub first_said : (M : Model) → (before : KeeperContent M) (settled : List ℕ) (es first later : List Entry) (after : KeeperContent M) (dones : List Done)
    (at : Standing M)
    → TakesAll M (record before { records = without settled before.records }) es after dones → es ≡ first ++ later → StandsAt M before at
    → All (IsUnsettled (at.settled ++ settled)) (kept_of M.service first) → FirstSaid M at.state at.history first dones
first_said M before settled es first later after dones at all parts so fresh =
    let begun : KeeperContent M = record before { records = without settled before.records } in
    let some = taken_first M begun first later after dones (subst (λ (g : List Entry). TakesAll M begun g after dones) parts all) in
    let performed = taken_is_performed M begun first some.held some.some (record at { settled = at.settled ++ settled })
    (Stands-handed M before.rows before.records at.state at.history at.settled settled so) fresh some.taken in
    record { some = some.some; others = some.others; parts = some.parts; says = performed.answers }
