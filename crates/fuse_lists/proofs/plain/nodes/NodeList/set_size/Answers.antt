use Rattle.std.proofs.Common.{◌≡◌, ◌==◌, ◌∙◌, Some, None, refl, map, sym, ap}
use Rattle.std.specs.Prelude.{position}
use Rattle.std.proofs.lemmas.Result.{on_ok_weaker}
use Rattle.fuse_rows.specs.Rows.{at_node, body_sized}
use Rattle.fuse_lists.proofs.Placed.{content_in_place, no_content}
use Rattle.fuse_lists.proofs.plain.nodes.NodeList.set_size.Goals as goal

pub returns-in_default-clause-ok : goal.returns-in_default-clause-ok
returns-in_default-clause-ok c =
    let none : position (λ f. f.row.node == c.args.number) c.self.inside.nodes.items ≡ None =
    ap (position (λ f. f.row.node == c.args.number)) (sym c.as_slice.ensures.value) ∙ sym c.in_default.ensures in
    sym c.self.view_is ∙ no_content c.args.number (body_sized c.args.size) c.self.inside.nodes.items none
    ∙ ap (map (at_node c.args.number (body_sized c.args.size))) c.self.view_is

pub invariant_of-self : goal.invariant_of-self
invariant_of-self c =
    let at : position (λ f. f.row.node == c.args.number) c.self.inside.nodes.items ≡ Some c.in-Some.place =
    ap (position (λ f. f.row.node == c.args.number)) (sym c.as_slice.ensures.value) ∙ sym c.in-Some.ensures in
    (content_in_place c.args.number
    (λ body. c.set_size.new.self) c.self.inside.nodes.items c.in-Some.place c.index_mut-full.result.now c.set_size.new.self c.self.invariant at
    c.index_mut-full.ensures.value refl).once

pub returns-clause-ok : goal.returns-clause-ok
returns-clause-ok c =
    let at : position (λ f. f.row.node == c.args.number) c.self.inside.nodes.items ≡ Some c.in-Some.place =
    ap (position (λ f. f.row.node == c.args.number)) (sym c.as_slice.ensures.value) ∙ sym c.in-Some.ensures in
    on_ok_weaker c.set_size.result
    (λ is. (content_in_place c.args.number
    (body_sized c.args.size) c.self.inside.nodes.items c.in-Some.place c.index_mut-full.result.now c.set_size.new.self c.self.invariant at
    c.index_mut-full.ensures.value is).changed
    ∙ ap (map (at_node c.args.number (body_sized c.args.size))) c.self.view_is) c.set_size.ensures.ok
