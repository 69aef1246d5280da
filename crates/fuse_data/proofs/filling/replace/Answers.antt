use Rattle.std.proofs.Common.{◌≡◌, ℕ, ◌∷◌, ◌++◌, suc, take, drop, ap, ◌∙◌, arith}
use Rattle.std.proofs.lemmas.List.{set_split}
use Rattle.fuse_data.proofs.filling.replace.Goals as goal

pub returns-else-filling-2-clause-ok : goal.returns-else-filling-2-clause-ok
returns-else-filling-2-clause-ok c =
    let gaps = c.args.gaps.now.items in
    let next : suc c.args.filling.at ≡ c.args.filling.after = omega arith in
    set_split gaps c.args.filling.at c.args.filling.gap (omega arith) ∙ ap (λ (n : ℕ). take c.args.filling.at gaps ++ c.args.filling.gap ∷ drop n gaps) next
