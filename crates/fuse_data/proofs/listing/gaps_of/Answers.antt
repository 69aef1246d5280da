use Rattle.fuse_data.proofs.Listings.{space_of, gaps_of_all}
use Rattle.fuse_data.proofs.listing.gaps_of.Goals as goal

pub push_gap-requires : goal.push_gap-requires
push_gap-requires c = c.in_ok-claims.ensures.claimed.high

pub returns-clause-gaps : goal.returns-clause-gaps
returns-clause-gaps c = gaps_of_all c.args.listed.now _ _ _ _ c.in_ok-claims.ensures.claimed c.in_ok-push_gap.ensures

pub returns-clause-space : goal.returns-clause-space
returns-clause-space c = space_of c.args.listed.now _ _ _ _ c.in_ok-claims.ensures.claimed c.in_ok-push_gap.ensures

pub returns-clause-by_place : goal.returns-clause-by_place
returns-clause-by_place c = c.in_ok-claims.ensures.claimed.by_place

pub returns-clause-within : goal.returns-clause-within
returns-clause-within c = c.in_ok-claims.ensures.claimed.within
