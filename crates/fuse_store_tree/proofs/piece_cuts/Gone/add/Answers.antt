use Rattle.std.proofs.Common.{[], ◌++◌, ◌∷◌, ap, refl, ◌∙◌}
use Rattle.fuse_store_tree.proofs.Remembering.{remembers_more, remembers_one, remembers_zeros}
use Rattle.fuse_store_tree.proofs.piece_cuts.Gone.add.Goals as goal

pub returns-then-piece-eq0-clause-remembers : goal.returns-then-piece-eq0-clause-remembers
returns-then-piece-eq0-clause-remembers c = remembers_zeros c.args.piece c.args.self.now c.if-piece-eq0.true

pub returns-then-len-ge-MOST_GONE-clause-remembers : goal.returns-then-len-ge-MOST_GONE-clause-remembers
returns-then-len-ge-MOST_GONE-clause-remembers c = remembers_more _ c.args.self.now _ refl refl

pub returns-clause-remembers : goal.returns-clause-remembers
returns-clause-remembers c =
    remembers_one c.args.piece c.args.self.now _ c.if-piece-eq0.false (c.in_ok-push.ensures.items ∙ ap (λ e. c.args.self.now.extents.items ++ e ∷ []) c.extent_of.ensures.is) refl
