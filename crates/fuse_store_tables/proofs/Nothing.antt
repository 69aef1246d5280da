-- A step that asks nothing of the database.
use Rattle.std.proofs.Common.{◌≡◌, ℕ, inl, Ok, refl, sym, arith, subst}
use Rattle.std.specs.List.{AllByRecursion}
use Rattle.sqlite.specs.Tree.{Trees}
use Rattle.sqlite.specs.Effect.{Database}
use Rattle.sqlite.specs.State.{State, Survives, KeepsCommit}
use Rattle.fuse_store_tables.specs.declared.version.Layout.TheVariants.{Second}
use Rattle.fuse_store_tables.specs.Layout.{store_schema}
use Rattle.fuse_store_tables.specs.Content.{Content, Holds, HoldsAs, stored, without_pieces}
use Rattle.fuse_store_tables.specs.Moves.{Makes}
use Rattle.fuse_store_tables.specs.inner.Performing.{StaysWithin}
use Rattle.fuse_store_tables.proofs.Laid.{held_in, in_layout}

pub no_step : (a : State) (P : Trees → Type 0) → Survives a a P
no_step a P = record {
  clean = omega arith;
  shield = λ is. is;
  counts = omega arith;
  limit = refl;
  closes = λ clean is_open. inl is_open;
  crash = λ clean db may. inl may;
}

pub still : (a : State) → KeepsCommit a a
still a = record { was_open = λ is. is; committed = λ is. refl }

pub nothing_within : {E : Type 0} (a : State) → StaysWithin {X = Unit {0}} {E = E} a a (Ok tt)
nothing_within a = record { survives = no_step a _; kept = λ clean inside. still a; within = λ clean inside. inside }

-- version 2 has no table of pieces
without_them : (node : ℕ) (c : Content) (d : Database) → c.layout ≡ Second → Holds c d → Holds (without_pieces node c) d
without_them node c d second h =
    let was = held_in Second c d (h, second) in
    let r = was.rows in
    (in_layout Second (without_pieces node c) d second
    (record { schema = was.schema; sound = was.sound; rows = (r.0, (r.1.0, (r.1.1.0, (r.1.1.1.0, (r.1.1.1.1.0, (r.1.1.1.1.1.0, (r.1.1.1.1.1.1.0, (r.1.1.1.1.1.1.1.0, tt)))))))) })).0

pub no_pieces : {E : Type 0} (node : ℕ) (a : State) → ((c : Content) → Holds c a.now → c.layout ≡ Second)
    → Makes {X = Unit {0}} {E = E} (without_pieces node) a a (Ok tt)
no_pieces node a second = record {
  stays = record { survives = no_step a _; kept = λ clean inside. still a };
  within = λ clean inside. inside;
  turns = λ clean c at.
      record { is_open = at.is_open; in_transaction = at.in_transaction; holds = without_them node c a.now (second c at.holds) at.holds };
}
