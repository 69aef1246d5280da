use Rattle.std.proofs.Common.{sym, arith}
use Rattle.std.proofs.lemmas.Bool.{eqb-false}
use Rattle.fuse_answer.proofs.Listings.{listing_rest, listing_more, not_listing}
use Rattle.fuse_answer.proofs.unpacking.is_listing.Goals as goal

pub returns-in_default : goal.returns-in_default
returns-in_default c =
    let some = eqb-false _ 0 (sym c.loop-rest-test.ensures) in (
      λ no. absurd cc,
      λ h. absurd (not_listing c.layouts_stand.ensures c.loop-rest.rest.now (sym c.in_default.ensures.prefix) (omega (arith, some))
          (c.loop-rest.invariant.less h)),
    )

pub loop-rest-preserved : goal.loop-rest-preserved
loop-rest-preserved c =
    let s = c.in-Some.ensures.laid in
    record {
      more = λ h. c.loop-rest.invariant.more (listing_more _ _ _ s h);
      less = λ h. listing_rest c.layouts_stand.ensures _ _ _ s (c.loop-rest.invariant.less h);
    }
