use Rattle.std.proofs.Common.{◌≡◌, ◌++◌, List, ℕ, [], subst, sym, ap, length, ◌∙◌, rules}
use Rattle.fuse_wire.specs.Layout.{Lays, form}
use Rattle.fuse_wire.specs.Written.{laid}
use Rattle.fuse_answer.specs.Bodies.{attr_parts}
use Rattle.fuse_answer.proofs.Forms.{form-append, has-form, has-append}
use Rattle.fuse_answer.proofs.records.Attr.body_after.Goals as goal

pub returns-clause-bytes : goal.returns-clause-bytes
returns-clause-bytes c =
    let ps = laid c.args.first.now in
    let qs = attr_parts c.args.self.now in
    let empty : c.in_ok-body.body.items ≡ [] = search rules in
    let prefix = c.in_ok-put_fields.ensures.ok ∙ ap (λ (x : List ℕ). x ++ form ps) empty in
    c.in_ok-put.ensures.ok ∙ ap (λ (x : List ℕ). x ++ form qs) prefix ∙ sym (form-append ps qs)

pub returns-clause-size : goal.returns-clause-size
returns-clause-size c =
    let ps = laid c.args.first.now in
    let qs = attr_parts c.args.self.now in
    ap length (returns-clause-bytes c) ∙ c.layouts_stand.ensures.form_len (ps ++ qs)

pub returns-clause-laid : goal.returns-clause-laid
returns-clause-laid c =
    let ps = laid c.args.first.now in
    let qs = attr_parts c.args.self.now in
    let has = has-append ps qs (has-form ps c.requires c.in_ok-put_fields.ensures.fits) c.in_ok-put.ensures.fits in
    subst (Lays (ps ++ qs)) (sym (returns-clause-bytes c)) (c.layouts_stand.ensures.formed (ps ++ qs) has)
