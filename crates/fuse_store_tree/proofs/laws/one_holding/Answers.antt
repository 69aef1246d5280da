use Rattle.fuse_store_tree.proofs.Once as once
use Rattle.fuse_store_tree.proofs.laws.one_holding.Goals as goal

pub returns : goal.returns
returns c = λ file x y d one two. once.one_holding file x y d one two c.rows_of_trees.ensures c.rows_tell_state.ensures
