-- What PAIRS lists.
use Rattle.std.proofs.Common.{List, refl, arith}
use Rattle.std.proofs.lemmas.List.Recursion.{is_sum_by}
use Rattle.guest_frames.specs.Frames.{PairContent}
use Rattle.fuse_guest.specs.Laws.{IsPageOf}
use Rattle.fuse_guest.specs.Telling.{pair_size, told_of}
use Rattle.fuse_guest.proofs.Filling.{total, tells}

pub full : (all : List PairContent) → IsPageOf (told_of pair_size all) all
full all =
    let t = tells pair_size all in
    let sum = is_sum_by (total pair_size) pair_size refl (λ p ps. refl) (told_of pair_size all) in
    record { rest = t.rest; first = t.first; some = t.one; full = λ p later is. omega (arith, t.full p later is, sum) }
