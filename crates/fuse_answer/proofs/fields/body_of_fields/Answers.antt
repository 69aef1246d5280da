use Rattle.std.proofs.Common.{◌≡◌, ◌++◌, List, ℕ, [], subst, sym, ap, length, ◌∙◌, rules}
use Rattle.fuse_wire.specs.Layout.{Lays, form}
use Rattle.fuse_wire.specs.Written.{laid}
use Rattle.fuse_answer.proofs.Forms.{has-form}
use Rattle.fuse_answer.proofs.fields.body_of_fields.Goals as goal

pub returns-clause-bytes : goal.returns-clause-bytes
returns-clause-bytes c =
    let empty : c.in_ok-body.body.items ≡ [] = search rules in
    c.in_ok-put_fields.ensures.ok ∙ ap (λ (x : List ℕ). x ++ form (laid c.args.fields.now)) empty

pub returns-clause-size : goal.returns-clause-size
returns-clause-size c = ap length (returns-clause-bytes c) ∙ c.layouts_stand.ensures.form_len (laid c.args.fields.now)

pub returns-clause-laid : goal.returns-clause-laid
returns-clause-laid c =
    let ps = laid c.args.fields.now in
    subst (Lays ps) (sym (returns-clause-bytes c)) (c.layouts_stand.ensures.formed ps (has-form ps c.requires c.in_ok-put_fields.ensures.fits))
