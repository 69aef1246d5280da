use Rattle.std.proofs.Common.{map, length, ap, refl, arith}
use Rattle.std.proofs.lemmas.List.{length-map}
use Rattle.fuse_guest.specs.Telling.{bare_if}
use Rattle.guest_tables.specs.Scanned.{owned_content}
use Rattle.guest_tables.specs.inner.Slices.{shown_pair}
use Rattle.guest_tables.proofs.PairColumns.{none_yet, row_at, taken_as, told_page, took_more, took_less, took_all, less_room}
use Rattle.guest_tables.proofs.taking.take_rows.Goals as goal

pub rows-preserved : goal.rows-preserved
rows-preserved c =
    let k = c.args.keys_alone in
    let less = less_room c.args.limit (owned_content c.in_ok-pair.pair) c.rows.held c.take_pair.new.held
    (taken_as c.args.limit (owned_content c.in_ok-pair.pair) (owned_content c.in_ok-pair.pair) c.rows.held c.take_pair.new.held _ _ refl c.if-not-branch.false
    c.in_ok-take_pair.ensures.takes) in (
      refl,
      refl,
      refl,
      omega (arith, c.rows-test.true),
      (λ page is.
          let r = row_at k c.args.rows.now c.rows.at c.index-rows-at.result page is c.rows-test.true c.index-rows-at.is in
          took_more c.args.limit c.rows.at (map (bare_if k) page) (bare_if k r.0) c.args.held.now c.rows.held c.take_pair.new.held r.3 r.2
          (c.rows.invariant.4 page is)
          (taken_as c.args.limit (owned_content c.in_ok-pair.pair) (bare_if k r.0) c.rows.held c.take_pair.new.held _ _
          (c.in_ok-pair.ensures.value r.0 r.1) c.if-not-branch.false c.in_ok-take_pair.ensures.takes)),
      omega (arith, less, c.rows.invariant.5),
      (λ some. omega (arith, less, c.rows.invariant.5)),
    )

pub rows-init : goal.rows-init
rows-init c = (
  refl,
  refl,
  refl,
  omega arith,
  (λ page is. none_yet c.args.limit (map (bare_if c.args.keys_alone) page) c.args.held.now),
  omega arith,
  (λ some. absurd (omega (arith, some))),
)

pub returns-in_err-pair-clause-fault : goal.returns-in_err-pair-clause-fault
returns-in_err-pair-clause-fault c =
    told_page c.args.keys_alone c.args.rows.now _ c.from_residual.result c.from_residual.ensures.1
    (λ page is.
    let r = row_at c.args.keys_alone c.args.rows.now c.rows.at c.index-rows-at.result page is c.rows-test.true c.index-rows-at.is in
    c.in_err-pair.ensures.fault r.0 r.1)

pub returns-then-not-branch-clause-takes : goal.returns-then-not-branch-clause-takes
returns-then-not-branch-clause-takes c page is =
    let k = c.args.keys_alone in
    let r = row_at k c.args.rows.now c.rows.at c.index-rows-at.result page is c.rows-test.true c.index-rows-at.is in
    took_less c.args.limit c.rows.at (map (bare_if k) page) (bare_if k r.0) c.args.held.now c.rows.held c.take_pair.new.held r.3 r.2
    (c.rows.invariant.4 page is)
    (taken_as c.args.limit (owned_content c.in_ok-pair.pair) (bare_if k r.0) c.rows.held c.take_pair.new.held _ _
    (c.in_ok-pair.ensures.value r.0 r.1) c.if-not-branch.true c.in_ok-take_pair.ensures.takes)

pub returns-clause-takes : goal.returns-clause-takes
returns-clause-takes c page is =
    let k = c.args.keys_alone in
    took_all c.args.limit c.rows.at (map (bare_if k) page) c.args.held.now c.rows.held
    (omega (arith, c.rows-test.false, ap length is, length-map page (shown_pair k), length-map page (bare_if k))) (c.rows.invariant.4 page is)
