use Rattle.std.proofs.Common.{◌≡◌, ◌++◌, ℕ, List, subst, sym, ap, ◌∙◌}
use Rattle.fuse_wire.specs.Layout.{Lays, form}
use Rattle.fuse_answer.specs.Bodies.{entry_parts, open_parts, entry_bytes, open_bytes}
use Rattle.fuse_answer.specs.FurtherAnswers.{create_parts, create_bytes}
use Rattle.fuse_answer.proofs.Forms.{form-append}
use Rattle.fuse_answer.proofs.further.CreateOut.body_of.Goals as goal

pub returns-clause-laid : goal.returns-clause-laid
returns-clause-laid c =
    let ps = entry_parts c.args.self.now.entry in
    let qs = open_parts c.args.self.now.open in
    let entry = c.in_ok-body.body.items in
    let open_body = c.in_ok-open.open.items in
    let whole : c.put_bytes.new.out.items ≡ entry ++ open_body = c.in_ok-put_bytes.ensures.ok ∙ ap (λ (x : List ℕ). entry ++ x) c.as_slice.ensures.value in
    subst (Lays (ps ++ qs)) (sym whole) (c.layouts_stand.ensures.joined ps qs entry open_body c.in_ok-body.ensures.laid c.in_ok-open.ensures.laid)

pub returns-clause-bytes : goal.returns-clause-bytes
unfolding create_bytes entry_bytes open_bytes
returns-clause-bytes c =
    let ps = entry_parts c.args.self.now.entry in
    let qs = open_parts c.args.self.now.open in
    c.in_ok-put_bytes.ensures.ok ∙ ap (λ (x : List ℕ). c.in_ok-body.body.items ++ x) (c.as_slice.ensures.value ∙ c.in_ok-open.ensures.bytes)
    ∙ ap (λ (x : List ℕ). x ++ form qs) c.in_ok-body.ensures.bytes ∙ sym (form-append ps qs)

pub returns-clause-size : goal.returns-clause-size
returns-clause-size c = c.layouts_stand.ensures.len (create_parts c.args.self.now) c.put_bytes.new.out.items (returns-clause-laid c)
