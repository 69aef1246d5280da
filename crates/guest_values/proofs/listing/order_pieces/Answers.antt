use Rattle.guest_values.proofs.ByPlaces.{sorted_by_place}
use Rattle.guest_values.proofs.listing.order_pieces.Goals as goal

pub returns-clause-by_place : goal.returns-clause-by_place
returns-clause-by_place c placed apart = sorted_by_place c.args.pieces.now.items c.sort_by_place.new.pieces.items c.sort_by_place.ensures.same c.sort_by_place.ensures.rise placed apart
