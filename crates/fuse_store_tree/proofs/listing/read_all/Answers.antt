use Rattle.std.proofs.Common.{◌≡◌, ◌++◌, Ok, Err, refl, ap, sym, arith, ◌∙◌}
use Rattle.sqlite.specs.Held.{state}
use Rattle.fuse_store_tables.specs.declared.version.Layout.TheVariants.{Third}
use Rattle.fuse_store_tables.specs.Content.{HoldsIn}
use Rattle.fuse_store_tables.specs.inner.Following.{earlier, open_told, open_then, open_fails, rests_told, rests_then, rests_failed}
use Rattle.fuse_store_tree.specs.Listings.{extents_above}
use Rattle.fuse_store_tree.proofs.AtRest.{rests_none, open_none}
use Rattle.fuse_store_tree.proofs.OnlyReading.{reads_none, reads_told, reads_then, reads_failed}
use Rattle.fuse_store_tree.proofs.ListedRows.{nothing_more, none_above}
use Rattle.fuse_store_tree.proofs.listing.read_all.Goals as goal

pub slices-init : goal.slices-init
slices-init g c =
    let a = state g.S.Store c.args.conn.now in
    record {
      low = omega arith;
      rests = rests_none (HoldsIn Third) a 0;
      stays = open_none a 0;
      reads = reads_none a (Ok 0);
      extents = λ clean k at fits. ap (λ l. l ++ extents_above 0 k.pieces) c.new-extents.ensures.items;
    }

pub slices-preserved : goal.slices-preserved
slices-preserved g c =
    let a = state g.S.Store c.args.conn.now in
    let b = state g.S.Store c.slices.conn in
    let d = state g.S.Store c.read_slice.new.conn in
    let was = c.slices.invariant in
    let now = c.in-Ok.ensures in
    let n = c.in-Ok.next in
    record {
      low = now.on.1;
      rests = rests_told (HoldsIn Third) a d n (Ok 0) (rests_then (HoldsIn Third) a b d 0 (Ok n) was.rests now.rests);
      stays = open_told a d n (Ok 0) (open_then a b d 0 (Ok n) was.stays now.reads.commits.survives now.open);
      reads = reads_told a d n (Ok 0) (reads_then a b d 0 (Ok n) was.reads now.reads);
      extents = λ clean k at fits.
          let mid = earlier b d _ now.reads.commits.survives clean in
          now.extents clean k (was.rests.done mid k at) fits ∙ was.extents mid k at fits;
    }

pub returns-in-Err-clause-rests : goal.returns-in-Err-clause-rests
returns-in-Err-clause-rests g c =
    let d = state g.S.Store c.read_slice.new.conn in
    rests_failed (HoldsIn Third) (state g.S.Store c.args.conn.now) d c.in-Err.fault c.in-Err.fault
    (rests_then (HoldsIn Third) (state g.S.Store c.args.conn.now) (state g.S.Store c.slices.conn) d 0 (Err c.in-Err.fault) c.slices.invariant.rests
    c.in-Err.ensures.rests)

pub returns-in-Err-clause-open : goal.returns-in-Err-clause-open
returns-in-Err-clause-open g c =
    let d = state g.S.Store c.read_slice.new.conn in
    open_fails (state g.S.Store c.args.conn.now) d c.in-Err.fault (Err c.in-Err.fault) refl
    (open_then (state g.S.Store c.args.conn.now) (state g.S.Store c.slices.conn) d 0 (Err c.in-Err.fault) c.slices.invariant.stays
    c.in-Err.ensures.reads.commits.survives c.in-Err.ensures.open)

pub returns-in-Err-clause-reads : goal.returns-in-Err-clause-reads
returns-in-Err-clause-reads g c =
    let d = state g.S.Store c.read_slice.new.conn in
    reads_failed (state g.S.Store c.args.conn.now) d c.in-Err.fault (Err c.in-Err.fault) refl
    (reads_then (state g.S.Store c.args.conn.now) (state g.S.Store c.slices.conn) d 0 (Err c.in-Err.fault) c.slices.invariant.reads c.in-Err.ensures.reads)

pub returns-in-Err-clause-fault : goal.returns-in-Err-clause-fault
returns-in-Err-clause-fault g c clean k at fits =
    let mid = earlier (state g.S.Store c.slices.conn) (state g.S.Store c.read_slice.new.conn) _ c.in-Err.ensures.reads.commits.survives clean in
    c.in-Err.ensures.fault clean k (c.slices.invariant.rests.done mid k at) fits

pub returns-clause-rests : goal.returns-clause-rests
returns-clause-rests g c = rests_told (HoldsIn Third) (state g.S.Store c.args.conn.now) (state g.S.Store c.slices.conn) 0 _ c.slices.invariant.rests

pub returns-clause-open : goal.returns-clause-open
returns-clause-open g c = open_told (state g.S.Store c.args.conn.now) (state g.S.Store c.slices.conn) 0 _ c.slices.invariant.stays

pub returns-clause-reads : goal.returns-clause-reads
returns-clause-reads g c = reads_told (state g.S.Store c.args.conn.now) (state g.S.Store c.slices.conn) 0 _ c.slices.invariant.reads

pub returns-clause-extents : goal.returns-clause-extents
returns-clause-extents g c clean k at fits =
    sym (nothing_more c.slices.extents.items) ∙ ap (λ l. c.slices.extents.items ++ l) (sym (none_above c.slices.slot k.pieces c.slices-test.false))
    ∙ c.slices.invariant.extents clean k at fits
