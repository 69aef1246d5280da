use Rattle.std.proofs.Common.{◌<◌, ◌+◌, inl, inr, take, sym, ap, subst, ◌∙◌, arith}
use Rattle.std.proofs.lemmas.List.{length-take-le}
use Rattle.fuse_rows.specs.inner.ChunkBytes.{bytes_of_chunk, joined_chunks, IsPlace, CutsAt}
use Rattle.fuse_rows.proofs.Joined.{cut_kept, cut_parted, parted_same}
use Rattle.fuse_rows.proofs.chunks.cut_at.Goals.{then-place-limit-via-then-place-limit, then-place-limit-via-else-place-limit+then-place-eq0}
use Rattle.fuse_rows.proofs.chunks.cut_at.Goals as goal

pub returns-then-place-limit-clause-at : goal.returns-then-place-limit-clause-at
returns-then-place-limit-clause-at c =
    let is = subst (λ cs. IsPlace (take c.args.limit cs) c.args.at c.place_of-place.result) c.deref.ensures.value c.place_of-place.ensures in
    cut_kept c.args.chunks.now.items c.args.limit c.args.at c.place_of-place.result c.requires is
    (elim c.then-place-limit.branch [
      | then-place-limit-via-then-place-limit w ↦ inl w.if-place-limit.true
      | then-place-limit-via-else-place-limit+then-place-eq0 w ↦ inr w.if-place-eq0.true
    ])

pub returns-clause-at : goal.returns-clause-at
returns-clause-at c =
    let cs = c.args.chunks.now.items in
    let place = c.place_of-place.result in
    let is = subst (λ cs. IsPlace (take c.args.limit cs) c.args.at place) c.deref.ensures.value c.place_of-place.ensures in
    let within : place.index < c.args.limit = omega (arith, is.index, length-take-le c.args.limit cs c.requires, c.if-place-limit.false) in
    let halves = c.in_ok-parts.parts.items in
    subst (λ ds. CutsAt cs ds c.args.limit c.args.at (record { index = place.index + 1; limit = c.args.limit + 1; beyond = 0 })) (sym c.in_ok-replace.ensures.ok)
    (cut_parted cs c.args.limit c.args.at place c.requires is c.index.result.now halves within
    (c.in_ok-parts.ensures.parts ∙ ap (λ x. take place.left (bytes_of_chunk x)) c.index.ensures) (c.in_ok-parts.ensures.whole ∙ ap bytes_of_chunk c.index.ensures)
    c.in_ok-parts.ensures.two)

pub returns-clause-same : goal.returns-clause-same
returns-clause-same c =
    let cs = c.args.chunks.now.items in
    let place = c.place_of-place.result in
    let is = subst (λ cs. IsPlace (take c.args.limit cs) c.args.at place) c.deref.ensures.value c.place_of-place.ensures in
    let within : place.index < c.args.limit = omega (arith, is.index, length-take-le c.args.limit cs c.requires, c.if-place-limit.false) in
    let halves = c.in_ok-parts.parts.items in
    ap joined_chunks c.in_ok-replace.ensures.ok
    ∙ parted_same cs c.args.limit c.args.at place c.requires is c.index.result.now halves within
    (c.in_ok-parts.ensures.parts ∙ ap (λ x. take place.left (bytes_of_chunk x)) c.index.ensures) (c.in_ok-parts.ensures.whole ∙ ap bytes_of_chunk c.index.ensures)
    c.in_ok-parts.ensures.two
