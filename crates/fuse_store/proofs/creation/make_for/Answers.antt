use Rattle.std.proofs.Common.{ℕ, List, refl, sym, subst, ◌∙◌}
use Rattle.sqlite.specs.Held.{state}
use Rattle.sqlite.proofs.StateLemmas.{survives_weaker}
use Rattle.fuse_store_tables.specs.Layout.{no_schema}
use Rattle.fuse_store_tables.specs.Making.{IsBare, IsNew}
use Rattle.fuse_store_tables.specs.Moves.{ServesAs}
use Rattle.fuse_store_tree.specs.Holding.{HeldFor}
use Rattle.fuse_store.specs.Creating.{IsDataOf, new_holding, volume_for}
use Rattle.fuse_store.proofs.Retelling.{served_so}
use Rattle.fuse_store.proofs.MadeNew.{made_new, made_over, lists_new, was_bare, is_blank, known_ok, alone_serves, none_there, in_one}
use Rattle.fuse_store.proofs.creation.make_for.Goals as goal

pub returns-clause-serves : goal.returns-clause-serves
returns-clause-serves g c = λ file has.
    served_so (IsBare no_schema) (IsNew (volume_for c.args.profile c.args.volume) c.args.from) (IsBare no_schema)
    (λ _. HeldFor file (new_holding c.args.profile c.args.volume.capacity c.args.from))
    (made_new c.new_store_is_tree.ensures c.args.profile c.args.volume c.args.from file c.requires (c.law_of_root.ensures _) has) (state g.S.Store c.args.conn.now)
    (state g.S.Store c.make_store.new.conn) c.make_store.result
    (subst (λ volume. ServesAs (IsBare no_schema) (IsNew volume c.args.from) (state g.S.Store c.args.conn.now) (state g.S.Store c.make_store.new.conn)
    c.make_store.result) c.volume_for.ensures.is c.make_store.ensures.serves)

pub returns-clause-done : goal.returns-clause-done
returns-clause-done g c = λ clean.
    made_over (λ (file : List ℕ). IsDataOf c.args.profile c.args.volume.number file) (λ file. HeldFor file (new_holding c.args.profile c.args.volume.capacity c.args.from))
    (state g.S.Store c.args.conn.now) (state g.S.Store c.make_store.new.conn) c.make_store.result
    (returns-clause-serves g c)
    (was_bare (state g.S.Store c.args.conn.now) c.schema.result.now c.if-not-is_autocommit.ensures.value (c.if-not-is_autocommit.ensures.settled refl)
    c.schema.ensures.live c.schema.ensures.value
    (c.if-not-is_empty.ensures.0 refl)) clean

pub returns-clause-crash : goal.returns-clause-crash
returns-clause-crash g c =
    let a = state g.S.Store c.args.conn.now in
    let b = state g.S.Store c.make_store.new.conn in
    let serves = subst (λ volume. ServesAs (IsBare no_schema) (IsNew volume c.args.from) a b c.make_store.result) c.volume_for.ensures.is c.make_store.ensures.serves in
    survives_weaker a b _ _
    (λ _ db left. record {
      blank = is_blank a c.schema.result.now c.if-not-is_autocommit.ensures.value c.schema.ensures.value (c.if-not-is_empty.ensures.0 refl);
      trees = λ is_open file has.
          let bare = was_bare a c.schema.result.now c.if-not-is_autocommit.ensures.value (c.if-not-is_autocommit.ensures.settled refl) c.schema.ensures.live
          c.schema.ensures.value (c.if-not-is_empty.ensures.0 refl) is_open in
          let new = made_new c.new_store_is_tree.ensures c.args.profile c.args.volume c.args.from file c.requires (c.law_of_root.ensures _) has tt a.now bare.holds in
          let it = left tt bare in
          (it.0, new.made it.0 it.1, it.2);
    }) serves.survives

pub returns-clause-lists : goal.returns-clause-lists
returns-clause-lists g c =
    let a = state g.S.Store c.args.conn.now in
    let b = state g.S.Store c.make_store.new.conn in
    lists_new (volume_for c.args.profile c.args.volume) c.args.from a b c.make_store.result
    (subst (λ volume. ServesAs (IsBare no_schema) (IsNew volume c.args.from) a b c.make_store.result) c.volume_for.ensures.is c.make_store.ensures.serves)
    (was_bare a c.schema.result.now c.if-not-is_autocommit.ensures.value (c.if-not-is_autocommit.ensures.settled refl) c.schema.ensures.live
    c.schema.ensures.value (c.if-not-is_empty.ensures.0 refl))

pub returns-clause-blank : goal.returns-clause-blank
returns-clause-blank g c =
    known_ok c.make_store.result (is_blank (state g.S.Store c.args.conn.now) c.schema.result.now c.if-not-is_autocommit.ensures.value
    c.schema.ensures.value (c.if-not-is_empty.ensures.0 refl))

pub returns-clause-untouched : goal.returns-clause-untouched
returns-clause-untouched g c = λ outside made.
    absurd (made (is_blank (state g.S.Store c.args.conn.now) c.schema.result.now c.if-not-is_autocommit.ensures.value
    c.schema.ensures.value (c.if-not-is_empty.ensures.0 refl)))

pub returns-clause-taken : goal.returns-clause-taken
returns-clause-taken g c = λ clean outside has.
    none_there (state g.S.Store c.args.conn.now).now.schema (sym c.schema.ensures.value ∙ c.if-not-is_empty.ensures.0 refl) has

-- ---- a database that has tables

pub returns-then-not-is_empty-clause-serves : goal.returns-then-not-is_empty-clause-serves
returns-then-not-is_empty-clause-serves g c = λ file has.
    alone_serves (IsBare no_schema) (λ _. HeldFor file (new_holding c.args.profile c.args.volume.capacity c.args.from)) (state g.S.Store c.args.conn.now) (state g.S.Store c.refuse_store.new.conn)
    c.refuse_store.result c.refuse_store.ensures.alone

pub returns-then-not-is_empty-clause-crash : goal.returns-then-not-is_empty-clause-crash
returns-then-not-is_empty-clause-crash g c =
    survives_weaker (state g.S.Store c.args.conn.now) (state g.S.Store c.refuse_store.new.conn) _ _ (λ _ db none. absurd none)
    c.refuse_store.ensures.alone.survives

pub returns-then-not-is_empty-clause-ended : goal.returns-then-not-is_empty-clause-ended
returns-then-not-is_empty-clause-ended g c = λ clean outside. c.refuse_store.ensures.alone.autocommit clean

pub returns-then-not-is_empty-clause-untouched : goal.returns-then-not-is_empty-clause-untouched
returns-then-not-is_empty-clause-untouched g c = λ outside made. c.refuse_store.ensures.alone

-- ---- in a transaction

pub returns-then-not-is_autocommit-clause-untouched : goal.returns-then-not-is_autocommit-clause-untouched
returns-then-not-is_autocommit-clause-untouched g c = λ outside made.
    in_one (state g.S.Store c.args.conn.now).in_transaction c.if-not-is_autocommit.ensures.value outside

pub returns-then-not-is_autocommit-clause-taken : goal.returns-then-not-is_autocommit-clause-taken
returns-then-not-is_autocommit-clause-taken g c = λ clean outside has.
    in_one (state g.S.Store c.args.conn.now).in_transaction c.if-not-is_autocommit.ensures.value outside
