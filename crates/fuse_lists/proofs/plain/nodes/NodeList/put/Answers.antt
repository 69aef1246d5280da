use Rattle.std.proofs.Common.{◌≡◌, ◌==◌, ◌∙◌, Some, None, sym, ap}
use Rattle.std.specs.Prelude.{position}
use Rattle.fuse_lists.specs.inner.NumbersOnce.{are_distinct}
use Rattle.fuse_rows.specs.Rows.{put_node}
use Rattle.fuse_lists.proofs.Placed.{row_in_place, row_there, row_last, once_last, no_place}
use Rattle.fuse_lists.proofs.plain.nodes.NodeList.put.Goals as goal

pub invariant_of-self : goal.invariant_of-self
invariant_of-self c =
    let at : position (λ f. f.row.node == c.args.row.node) c.self.inside.nodes.items ≡ Some c.in-Some.place =
    ap (position (λ f. f.row.node == c.args.row.node)) (sym c.as_slice.ensures.value) ∙ sym c.in-Some.ensures in
    (row_in_place c.args.row c.self.inside.nodes.items c.in-Some.place c.index_mut-full.result.now c.self.invariant at c.index_mut-full.ensures.value).once

pub returns-in-Some-clause-ok : goal.returns-in-Some-clause-ok
returns-in-Some-clause-ok c =
    let at : position (λ f. f.row.node == c.args.row.node) c.self.inside.nodes.items ≡ Some c.in-Some.place =
    ap (position (λ f. f.row.node == c.args.row.node)) (sym c.as_slice.ensures.value) ∙ sym c.in-Some.ensures in
    (row_in_place c.args.row c.self.inside.nodes.items c.in-Some.place c.index_mut-full.result.now c.self.invariant at c.index_mut-full.ensures.value).changed
    ∙ sym (row_there c.args.row c.self.inside.nodes.items c.in-Some.place c.index_mut-full.result.now at) ∙ ap (put_node c.args.row) c.self.view_is

pub invariant_of-self-2 : goal.invariant_of-self-2
invariant_of-self-2 c =
    let none : position (λ f. f.row.node == c.args.row.node) c.self.inside.nodes.items ≡ None =
    ap (position (λ f. f.row.node == c.args.row.node)) (sym c.as_slice.ensures.value) ∙ sym c.in_default.ensures in
    ap are_distinct c.in_ok-push.ensures.items
    ∙ once_last c.self.inside.nodes.items (record { row = c.args.row; content = _ }) c.self.invariant
    (no_place (λ f. f.row.node == c.args.row.node) c.self.inside.nodes.items none)

pub returns-clause-ok : goal.returns-clause-ok
returns-clause-ok c =
    let none : position (λ f. f.row.node == c.args.row.node) c.self.inside.nodes.items ≡ None =
    ap (position (λ f. f.row.node == c.args.row.node)) (sym c.as_slice.ensures.value) ∙ sym c.in_default.ensures in
    c.in_ok-push.ensures.items
    ∙ rw (c.new-content.ensures) (row_last c.args.row c.self.inside.nodes.items none ∙ ap (put_node c.args.row) c.self.view_is)
