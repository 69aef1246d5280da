use Rattle.std.proofs.Common.{◌≡◌, Ok, Err, length, sym, ap, arith, ◌∙◌}
use Rattle.std.specs.Prelude.{⊤}
use Rattle.sqlite.specs.Held.{state}
use Rattle.fuse_store_tables.specs.Content.{Content}
use Rattle.fuse_store_tables.specs.Opening.{MetaOf, profile_in, AreAbove, LotsAreBelow, HasSecondMeta}
use Rattle.fuse_store_tables.specs.inner.Checking.{IsMetaIn, profile_by}
use Rattle.fuse_store_tables.specs.inner.Following.{earlier}
use Rattle.fuse_store_tables.proofs.Checks.{checks_then, checks_as, checks_failed, checks_told}
use Rattle.fuse_store_tables.proofs.Profiles.{known_in, counted_by}
use Rattle.fuse_store_tables.proofs.numbers.check_second.Goals as goal

abbrev IsOfProfile : Content → Type 0
IsOfProfile k = MetaOf (profile_in k) k

pub returns-in_err-meta-clause-checks : goal.returns-in_err-meta-clause-checks
returns-in_err-meta-clause-checks g c =
    checks_failed (λ _. ⊤) (λ _. ⊤) IsOfProfile HasSecondMeta (state g.S.Store c.args.conn.now) (state g.S.Store c.check_second_meta.new.conn) _
    c.from_residual.result c.from_residual.ensures.1 (λ k is all. (tt, all.0)) c.in_err-meta.ensures.checks

pub returns-in_err-check_numbers-clause-checks : goal.returns-in_err-check_numbers-clause-checks
returns-in_err-check_numbers-clause-checks g c =
    let a = state g.S.Store c.args.conn.now in
    let b = state g.S.Store c.check_second_meta.new.conn in
    let d = state g.S.Store c.check_numbers.new.conn in
    checks_failed (λ _. ⊤) (λ _. ⊤) (λ k. IsOfProfile k × AreAbove k) HasSecondMeta a d _ c.from_residual-in_err-check_numbers.result
    c.from_residual-in_err-check_numbers.ensures.1 (λ k is all. (tt, (all.0, all.1)))
    (checks_then (λ _. ⊤) (IsMetaIn c.as_slice.result.now 4) IsOfProfile AreAbove a b d _ (Err _) c.in_ok-meta.ensures.checks
    (λ clean k at known is. known_in c.as_slice.result.now 4 k (omega arith) is (c.as_slice.ensures.value ∙ c.in_ok-meta.ensures.shows clean k at))
    c.in_err-check_numbers.ensures)

pub returns-in_err-check_lots-clause-checks : goal.returns-in_err-check_lots-clause-checks
returns-in_err-check_lots-clause-checks g c =
    let a = state g.S.Store c.args.conn.now in
    let b = state g.S.Store c.check_second_meta.new.conn in
    let d = state g.S.Store c.check_numbers.new.conn in
    let e = state g.S.Store c.check_lots.new.conn in
    let numbers =
    checks_then (λ _. ⊤) (IsMetaIn c.as_slice.result.now 4) IsOfProfile AreAbove a b d _ (Ok _) c.in_ok-meta.ensures.checks
    (λ clean k at known is. known_in c.as_slice.result.now 4 k (omega arith) is (c.as_slice.ensures.value ∙ c.in_ok-meta.ensures.shows clean k at))
    c.in_ok-check_numbers.ensures in
    checks_failed (λ _. ⊤) (λ _. ⊤) (λ k. (IsOfProfile k × AreAbove k) × LotsAreBelow k) HasSecondMeta a e _ c.from_residual-in_err-check_lots.result
    c.from_residual-in_err-check_lots.ensures.1 (λ k is all. (tt, ((all.0, all.1), all.2)))
    (checks_then (λ _. ⊤) (IsMetaIn c.as_slice-2.result.now 11) (λ k. IsOfProfile k × AreAbove k) LotsAreBelow a d e _ (Err _) numbers
    (λ clean k at known is. known_in c.as_slice-2.result.now 11 k (omega arith) is.0 (c.as_slice-2.ensures.value
    ∙ c.in_ok-meta.ensures.shows (earlier b d _ c.in_ok-check_numbers.ensures.reads.commits.survives clean) k at)) c.in_err-check_lots.ensures)

pub returns-clause-checks : goal.returns-clause-checks
returns-clause-checks g c =
    let a = state g.S.Store c.args.conn.now in
    let b = state g.S.Store c.check_second_meta.new.conn in
    let d = state g.S.Store c.check_numbers.new.conn in
    let e = state g.S.Store c.check_lots.new.conn in
    let numbers =
    checks_then (λ _. ⊤) (IsMetaIn c.as_slice.result.now 4) IsOfProfile AreAbove a b d _ (Ok _) c.in_ok-meta.ensures.checks
    (λ clean k at known is. known_in c.as_slice.result.now 4 k (omega arith) is (c.as_slice.ensures.value ∙ c.in_ok-meta.ensures.shows clean k at))
    c.in_ok-check_numbers.ensures in
    let all =
    checks_as (λ _. ⊤) (λ _. ⊤) (λ k. (IsOfProfile k × AreAbove k) × LotsAreBelow k) HasSecondMeta a e (Ok _)
    (λ k is. (tt, (λ h. (h.0.0, h.0.1, h.1)), (λ h. ((h.0, h.1), h.2))))
    (checks_then (λ _. ⊤) (IsMetaIn c.as_slice-2.result.now 11) (λ k. IsOfProfile k × AreAbove k) LotsAreBelow a d e _ (Ok _) numbers
    (λ clean k at known is. known_in c.as_slice-2.result.now 11 k (omega arith) is.0 (c.as_slice-2.ensures.value
    ∙ c.in_ok-meta.ensures.shows (earlier b d _ c.in_ok-check_numbers.ensures.reads.commits.survives clean) k at)) c.in_ok-check_lots.ensures) in
    checks_told (λ _. ⊤) HasSecondMeta a e _ _ all

pub returns-clause-profile : goal.returns-clause-profile
returns-clause-profile g c = λ clean k at.
    let b = state g.S.Store c.check_second_meta.new.conn in
    let d = state g.S.Store c.check_numbers.new.conn in
    let e = state g.S.Store c.check_lots.new.conn in
    let long : c.in_ok-meta.meta.len ≡ length c.in_ok-meta.meta.items = omega (arith, c.in_ok-meta.meta.ok) in
    let first = earlier b d _ c.in_ok-check_numbers.ensures.reads.commits.survives (earlier d e _ c.in_ok-check_lots.ensures.reads.commits.survives clean) in
    c.profile_by.ensures ∙ ap profile_by (c.len.ensures ∙ long) ∙ counted_by c.in_ok-meta.meta.items k (c.in_ok-meta.ensures.shows first k at)
    (c.in_ok-meta.ensures.checks.whole first k at tt)

pub returns-clause-more : goal.returns-clause-more
returns-clause-more g c = λ clean everyday.
    let b = state g.S.Store c.check_second_meta.new.conn in
    let d = state g.S.Store c.check_numbers.new.conn in
    let e = state g.S.Store c.check_lots.new.conn in
    let long : c.in_ok-meta.meta.len ≡ length c.in_ok-meta.meta.items = omega (arith, c.in_ok-meta.meta.ok) in
    let first = earlier b d _ c.in_ok-check_numbers.ensures.reads.commits.survives (earlier d e _ c.in_ok-check_lots.ensures.reads.commits.survives clean) in (
      c.in_ok-meta.meta.items,
      c.in_ok-meta.ensures.tells first,
      λ eleven. absurd (let clash = sym (c.profile_by.ensures ∙ ap profile_by (c.len.ensures ∙ long ∙ eleven)) ∙ everyday in cc),
    )
