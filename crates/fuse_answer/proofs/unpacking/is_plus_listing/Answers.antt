use Rattle.std.proofs.Common.{sym, refl, arith}
use Rattle.std.proofs.lemmas.Bool.{eqb-false}
use Rattle.fuse_answer.proofs.Listings.{plus_rest, plus_more, plus_shorter, not_plus}
use Rattle.fuse_answer.proofs.unpacking.is_plus_listing.Goals as goal

pub returns-in_default : goal.returns-in_default
returns-in_default c =
    let some = eqb-false _ 0 (sym c.loop-rest-test.ensures) in (
      λ no. absurd cc,
      λ h. absurd (not_plus c.layouts_stand.ensures c.loop-rest.rest.now (c.in_default.ensures.none refl) (omega (arith, some))
          (c.loop-rest.invariant.less h)),
    )

pub loop-rest-smaller : goal.loop-rest-smaller
loop-rest-smaller c =
    let s = c.in-Some.ensures.laid in
    plus_shorter c.layouts_stand.ensures s.0 _ _ s.1

pub loop-rest-preserved : goal.loop-rest-preserved
loop-rest-preserved c =
    let s = c.in-Some.ensures.laid in
    record {
      more = λ h. c.loop-rest.invariant.more (plus_more s.0 _ _ s.1 h);
      less = λ h. plus_rest c.layouts_stand.ensures s.0 _ _ s.1 (c.loop-rest.invariant.less h);
    }
