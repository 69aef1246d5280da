use Rattle.fuse_store_tree.proofs.store_data.shows.Goals as goal

pub returns-then-has-clause-shown : goal.returns-then-has-clause-shown
returns-then-has-clause-shown g c = λ apart. let both = c.has.ensures.0 c.if-has.true in (both.0, both.1, c.is_apart_but.ensures.some apart)
