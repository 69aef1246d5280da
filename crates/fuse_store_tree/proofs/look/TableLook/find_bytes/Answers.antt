use Rattle.std.proofs.Common.{refl, sym, ap, subst, ◌∙◌}
use Rattle.sqlite.specs.Held.{state}
use Rattle.fuse_rows.specs.Rows.{Rows, row_at, bytes_at}
use Rattle.fuse_tree.specs.Rowed.{IsRowed}
use Rattle.fuse_store_tree.specs.inner.Reading.{bytes_told}
use Rattle.fuse_store_tree.proofs.Described.{inside_of, row_told, bytes_are}
use Rattle.fuse_store_tree.proofs.Few.{sizes_fit}
use Rattle.fuse_store_tree.proofs.Looks.{map_ok, map_err}
use Rattle.fuse_store_tree.proofs.Steps.{on_ok}
use Rattle.fuse_store_tree.proofs.Turning.{content_in}
use Rattle.fuse_store_tree.proofs.look.TableLook.find_bytes.Goals as goal

pub returns-in-Some-clause-looks : goal.returns-in-Some-clause-looks
returns-in-Some-clause-looks g c =
    on_ok c.find_sized.result _ _ (λ looked. record {
      looked = looked;
      file = c.find_sized.ensures.reads;
      same = refl;
      knows = λ clean file rows sees knows. knows;
      recalls = λ clean file rows sees recalls. recalls;
    }) c.find_sized.ensures.looks

pub returns-in-None-clause-looks : goal.returns-in-None-clause-looks
returns-in-None-clause-looks g c =
    on_ok c.find_bytes.result _ _ (λ looked. record {
      looked = looked;
      file = c.find_bytes.ensures.reads;
      same = refl;
      knows = λ clean file rows sees knows. knows;
      recalls = λ clean file rows sees recalls. recalls;
    }) c.find_bytes.ensures.looks

pub returns-in-Some-clause-value : goal.returns-in-Some-clause-value
returns-in-Some-clause-value g c clean read =
    let file = (g.C.Contents.file c.find_sized.new.contents).bytes in
    map_ok c.find_sized.result _ _ (λ v value rows rowed (x, at, is) recalls.
    let of_tree = subst IsRowed (sym is) rowed in
    let told = row_told x file at.holds.0 of_tree at.holds.2 c.args.node ∙ ap (λ (r : Rows). row_at r c.args.node) is
    ∙ c.in-Some.ensures.value rows rowed recalls in
    value at.holds.0 (inside_of file x (state g.S.Store c.args.self.now.conn) at) (at.holds.2.fits, at.holds.2.pieces)
    ∙ sym (ap (λ o. bytes_told file o at.holds.0 c.args.node c.args.offset c.args.len) told)
    ∙ bytes_are x file at.holds.0 of_tree at.holds.2 c.args.node c.args.offset c.args.len
    ∙ ap (λ (r : Rows). bytes_at r c.args.node c.args.offset c.args.len) is) (c.find_sized.ensures.value clean read)

pub returns-in-None-clause-value : goal.returns-in-None-clause-value
returns-in-None-clause-value g c clean read =
    let file = (g.C.Contents.file c.find_bytes.new.contents).bytes in
    map_ok c.find_bytes.result _ _ (λ v value rows rowed (x, at, is) recalls.
    value at.holds.0 (inside_of file x (state g.S.Store c.args.self.now.conn) at) (at.holds.2.fits, at.holds.2.pieces)
    ∙ bytes_are x file at.holds.0 (subst IsRowed (sym is) rowed) at.holds.2 c.args.node c.args.offset c.args.len
    ∙ ap (λ (r : Rows). bytes_at r c.args.node c.args.offset c.args.len) is) (c.find_bytes.ensures.value clean read)

pub returns-in-Some-clause-fault : goal.returns-in-Some-clause-fault
returns-in-Some-clause-fault g c clean read =
    let a = state g.S.Store c.args.self.now.conn in
    let file = (g.C.Contents.file c.find_sized.new.contents).bytes in
    map_err c.find_sized.result _ _ (λ f fault y at. fault at.holds.held.0 (content_in file y a at) (at.holds.held.2.fits, at.holds.held.2.pieces))
    (c.find_sized.ensures.fault clean read)

pub returns-in-None-clause-fault : goal.returns-in-None-clause-fault
returns-in-None-clause-fault g c clean read =
    let a = state g.S.Store c.args.self.now.conn in
    let file = (g.C.Contents.file c.find_bytes.new.contents).bytes in
    map_err c.find_bytes.result _ _ (λ f fault y at. fault at.holds.held.0 (content_in file y a at) (at.holds.held.2.fits, at.holds.held.2.pieces)
    (sizes_fit file y a.now at.holds c.args.node)) (c.find_bytes.ensures.fault clean read)
