use Rattle.std.proofs.Common.{refl, ap, ◌∙◌}
use Rattle.sqlite.specs.Held.{state}
use Rattle.fuse_store_tree.specs.Knowing.{knowing, meta_of}
use Rattle.fuse_store_tree.specs.inner.Knowing.{meta_in}
use Rattle.fuse_store_tree.specs.inner.Laws.{still_read, well_still}
use Rattle.fuse_store_tree.proofs.Described.{inside_of}
use Rattle.fuse_store_tree.proofs.Few.{eleven, minor_fits, readahead_fits}
use Rattle.fuse_store_tree.proofs.Once.{meta_back}
use Rattle.fuse_store_tree.proofs.Turning.{content_in}
use Rattle.fuse_store_tree.proofs.look.TableLook.find_meta.Goals as goal

pub returns-in-Some-clause-looks : goal.returns-in-Some-clause-looks
returns-in-Some-clause-looks g c = well_still (knowing c.args.self.now.known (state g.S.Store c.args.self.now.conn) (g.C.Contents.file c.args.self.now.contents)) c.args.self.now.fault c.args.self.now.last

pub returns-in-Some-clause-reads : goal.returns-in-Some-clause-reads
returns-in-Some-clause-reads g c = still_read (g.C.Contents.file c.args.self.now.contents)

pub returns-in-Ok-clause-looks : goal.returns-in-Ok-clause-looks
returns-in-Ok-clause-looks g c = record {
  looked = c.in-Ok.ensures.looks;
  file = still_read (g.C.Contents.file c.args.self.now.contents);
  same = refl;
  knows = λ clean file rows (x, at, is) known.
      c.in-Ok.ensures.value clean at.holds.0 (inside_of file x (state g.S.Store c.args.self.now.conn) at) ∙ ap meta_in at.holds.2.counters
      ∙ meta_back x.rows x.next_lot at.holds.2.number ∙ ap meta_of is;
  recalls = λ clean file rows sees recalls. recalls;
}

pub returns-in-Ok-clause-value : goal.returns-in-Ok-clause-value
returns-in-Ok-clause-value g c clean file rows (x, at, is) known =
    c.in-Ok.ensures.value clean at.holds.0 (inside_of file x (state g.S.Store c.args.self.now.conn) at) ∙ ap meta_in at.holds.2.counters
    ∙ meta_back x.rows x.next_lot at.holds.2.number ∙ ap meta_of is

pub returns-in-Ok-clause-reads : goal.returns-in-Ok-clause-reads
returns-in-Ok-clause-reads g c = still_read (g.C.Contents.file c.args.self.now.contents)

pub returns-in-Err-clause-fault : goal.returns-in-Err-clause-fault
returns-in-Err-clause-fault g c clean file y at =
    let a = (state g.S.Store c.args.self.now.conn) in
    c.in-Err.ensures.fault clean at.holds.held.0 (content_in file y a at) (eleven file y a.now at.holds) (minor_fits file y a.now at.holds)
    (readahead_fits file y a.now at.holds)

pub returns-in-Err-clause-reads : goal.returns-in-Err-clause-reads
returns-in-Err-clause-reads g c = still_read (g.C.Contents.file c.args.self.now.contents)
