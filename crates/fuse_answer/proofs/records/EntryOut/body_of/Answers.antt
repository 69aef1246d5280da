use Rattle.std.proofs.Common.{◌≡◌, ◌++◌, List, ℕ, [], length, sym, ap, subst, ◌∙◌, rules}
use Rattle.fuse_wire.specs.Layout.{Lays}
use Rattle.fuse_answer.specs.Bodies.{entry_bytes, entry_parts}
use Rattle.fuse_answer.proofs.Forms.{entry_len, entry_laid}
use Rattle.fuse_answer.proofs.records.EntryOut.body_of.Goals as goal

pub returns-clause-bytes : goal.returns-clause-bytes
returns-clause-bytes c =
    let empty : c.in_ok-body.body.items ≡ [] = search rules in
    c.in_ok-put.ensures.bytes ∙ ap (λ (x : List ℕ). x ++ entry_bytes c.args.self.now) empty

pub returns-clause-size : goal.returns-clause-size
returns-clause-size c = ap length (returns-clause-bytes c) ∙ entry_len c.layouts_stand.ensures c.args.self.now

pub returns-clause-laid : goal.returns-clause-laid
returns-clause-laid c =
    subst (Lays (entry_parts c.args.self.now)) (sym (returns-clause-bytes c))
    (entry_laid c.layouts_stand.ensures c.args.self.now c.in_ok-put.ensures.fits)
