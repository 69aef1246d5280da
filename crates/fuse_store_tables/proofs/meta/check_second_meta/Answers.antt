use Rattle.std.proofs.Common.{Ok, Err, ◌∙◌}
use Rattle.std.specs.Prelude.{⊤}
use Rattle.sqlite.specs.Held.{state}
use Rattle.fuse_store_tables.specs.Content.{Content}
use Rattle.fuse_store_tables.specs.Opening.{MetaOf, profile_in}
use Rattle.fuse_store_tables.proofs.Checks.{query_failed, query_told, checks_failed}
use Rattle.fuse_store_tables.proofs.meta.check_second_meta.Goals as goal

abbrev IsOfProfile : Content → Type 0
IsOfProfile k = MetaOf (profile_in k) k

pub returns-in_err-rows-clause-checks : goal.returns-in_err-rows-clause-checks
returns-in_err-rows-clause-checks g c =
    query_failed (λ _. ⊤) IsOfProfile (state g.S.Store c.args.conn.now) (state g.S.Store c.select_meta.new.conn) _ c.from_residual.result
    c.from_residual.ensures.1 c.in_err-rows.ensures.laid c.in_err-rows.ensures.reads c.in_err-rows.ensures.within

pub returns-in_err-check_profile-clause-checks : goal.returns-in_err-check_profile-clause-checks
returns-in_err-check_profile-clause-checks g c =
    let a = state g.S.Store c.args.conn.now in
    let b = state g.S.Store c.select_meta.new.conn in
    checks_failed (λ _. ⊤) (λ _. ⊤) IsOfProfile IsOfProfile a b _ c.from_residual-in_err-check_profile.result
    c.from_residual-in_err-check_profile.ensures.1 (λ k any is. (tt, is))
    (query_told {Y = Unit {0}} (λ _. ⊤) IsOfProfile a b _ (Err _) c.in_ok-rows.ensures.laid c.in_ok-rows.ensures.reads c.in_ok-rows.ensures.within
    (λ clean. tt) (λ clean k at any is. c.in_err-check_profile.ensures.fault k (c.layout_of-layout.ensures.laid k at.holds) (c.as_slice.ensures.value ∙ c.in_ok-rows.ensures.shows clean k at) is)
    c.in_err-check_profile.ensures.plain)

pub returns-clause-checks : goal.returns-clause-checks
returns-clause-checks g c =
    query_told (λ _. ⊤) IsOfProfile (state g.S.Store c.args.conn.now) (state g.S.Store c.select_meta.new.conn) _ (Ok _) c.in_ok-rows.ensures.laid
    c.in_ok-rows.ensures.reads c.in_ok-rows.ensures.within
    (λ clean k at any. c.in_ok-check_profile.ensures.whole k (c.layout_of-layout.ensures.laid k at.holds) (c.as_slice.ensures.value ∙ c.in_ok-rows.ensures.shows clean k at)) (λ clean. tt) tt
