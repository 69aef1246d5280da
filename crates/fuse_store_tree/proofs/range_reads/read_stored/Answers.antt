use Rattle.std.proofs.Common.{◌≡◌, ◌+◌, ◌++◌, ◌∙◌, List, ℕ, refl, ap, sym, subst, arith, length}
use Rattle.fuse_store_tree.specs.Pieces.{byte_in}
use Rattle.fuse_store_tree.specs.inner.Laws.{read_then, still_read}
use Rattle.fuse_store_tree.specs.inner.Reading.{range_of, IsSound}
use Rattle.fuse_store_tree.proofs.Ranges.{range_more}
use Rattle.fuse_store_tree.proofs.BlockParts.{block_of_range, none_held, range_next}
use Rattle.fuse_store_tree.proofs.range_reads.read_stored.Goals as goal

pub parts-init : goal.parts-init
parts-init g c = record {
  at = refl;
  len = refl;
  done = omega arith;
  long = ap length c.new-out.ensures.items;
  rows = refl;
  pieces = refl;
  held = none_held (g.C.Contents.file c.args.contents.now) c.args.stored.held c.requires.held;
  reads = still_read (g.C.Contents.file c.args.contents.now);
  value = λ read node k shows sound. c.new-out.ensures.items;
}

pub parts-preserved : goal.parts-preserved
parts-preserved g c =
    let before = c.parts.invariant in
    let f = g.C.Contents.file c.parts.contents in
    let h = g.C.Contents.file c.append_block.new.contents in
    let most = c.first_count-count.ensures.most in
    let test = c.parts-test.true in
    record {
      at = refl;
      len = refl;
      done = omega (arith, most, test, before.done);
      long = c.in-Ok.ensures.long ∙ ap (λ n. n + c.first_count-count.result) before.long;
      rows = c.in-Ok.ensures.rows ∙ before.rows;
      pieces = c.in-Ok.ensures.pieces ∙ before.pieces;
      held = c.in-Ok.ensures.held;
      reads = read_then (g.C.Contents.file c.args.contents.now) f h before.reads c.in-Ok.ensures.reads;
      value = λ read node k shows sound.
          range_next f.bytes h.bytes k node c.args.at c.parts.done c.first_count-count.result c.parts.out.items c.append_block.new.out.items c.in-Ok.ensures.reads.same sound
          (before.value (c.in-Ok.ensures.reads.clean read) node k shows)
          (c.in-Ok.ensures.value read node k (rw (before.rows, before.pieces) (block_of_range node c.args.at c.args.len c.parts.done _ _ k (omega (arith, test)) shows)) sound);
    }

pub returns-in-Err-clause-fault : goal.returns-in-Err-clause-fault
returns-in-Err-clause-fault g c read node k shows sound =
    let before = c.parts.invariant in
    let test = c.parts-test.true in
    c.in-Err.ensures.fault read node k (rw (before.rows, before.pieces) (block_of_range node c.args.at c.args.len c.parts.done _ _ k (omega (arith, test)) shows)) sound

pub returns-in-Err-clause-reads : goal.returns-in-Err-clause-reads
returns-in-Err-clause-reads g c =
    read_then (g.C.Contents.file c.args.contents.now) (g.C.Contents.file c.parts.contents) (g.C.Contents.file c.append_block.new.contents)
    c.parts.invariant.reads c.in-Err.ensures.reads

pub returns-clause-value : goal.returns-clause-value
returns-clause-value g c read node k shows sound =
    let before = c.parts.invariant in
    let test = c.parts-test.false in
    before.value read node k shows sound ∙ ap (range_of (byte_in (g.C.Contents.file c.parts.contents).bytes k node) c.args.at)
    (let e : c.parts.done ≡ c.args.len = omega (arith, test, before.done) in e)
