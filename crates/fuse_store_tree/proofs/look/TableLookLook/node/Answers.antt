use Rattle.std.proofs.Common.{refl, sym, ap, subst, ◌∙◌}
use Rattle.sqlite.specs.Held.{state}
use Rattle.fuse_rows.specs.Rows.{Rows, row_at}
use Rattle.fuse_tree.specs.Rowed.{IsRowed}
use Rattle.fuse_store_tree.specs.Knowing.{knowing}
use Rattle.fuse_store_tree.specs.inner.Laws.{still_read}
use Rattle.fuse_store_tree.proofs.Described.{inside_of, row_told}
use Rattle.fuse_store_tree.proofs.Turning.{content_in}
use Rattle.fuse_store_tree.proofs.Sure.{failed_so}
use Rattle.fuse_store_tree.proofs.look.TableLookLook.node.Goals as goal

pub returns-in-Ok-clause-row : goal.returns-in-Ok-clause-row
returns-in-Ok-clause-row g c (clean, read) rows rowed (((x, at, is), knows), recalls) =
    let file = (g.C.Contents.file c.args.self.now.contents).bytes in
    c.in-Ok.ensures.value clean at.holds.0 (inside_of file x (state g.S.Store c.args.self.now.conn) at) at.holds.2.fits
    ∙ row_told x file at.holds.0 (subst IsRowed (sym is) rowed) at.holds.2 c.args.number
    ∙ ap (λ (r : Rows). row_at r c.args.number) is

pub returns-in-Ok-clause-looks : goal.returns-in-Ok-clause-looks
returns-in-Ok-clause-looks g c = record {
  looked = c.in-Ok.ensures.looks;
  file = still_read (g.C.Contents.file c.args.self.now.contents);
  same = refl;
  knows = λ clean file rows sees knows. knows;
  recalls = λ clean file rows (x, at, is) before rowed.
      c.in-Ok.ensures.value clean at.holds.0 (inside_of file x (state g.S.Store c.args.self.now.conn) at) at.holds.2.fits
      ∙ row_told x file at.holds.0 (subst IsRowed (sym is) rowed) at.holds.2 c.args.number
      ∙ ap (λ (r : Rows). row_at r c.args.number) is;
}

pub returns-in-Err-clause-fails : goal.returns-in-Err-clause-fails
returns-in-Err-clause-fails g c =
    let a = knowing c.args.self.now.known (state g.S.Store c.args.self.now.conn) (g.C.Contents.file c.args.self.now.contents) in
    let b = knowing c.fail.new.self.known (state g.S.Store c.find_node.new.conn) (g.C.Contents.file c.args.self.now.contents) in
    rw (c.fail.ensures.conn, c.fail.ensures.contents)
    (failed_so a b c.args.self.now.fault c.fail.new.self.fault c.in-Err.fault c.fail.ensures.kept c.in-Err.ensures.fails (still_read (g.C.Contents.file c.args.self.now.contents)) c.in-Err.ensures.plain
    (λ clean read y at. c.in-Err.ensures.fault clean at.holds.held.0 (content_in (g.C.Contents.file c.args.self.now.contents).bytes y (state g.S.Store c.args.self.now.conn) at) at.holds.held.2.fits))
