use Rattle.fuse_store_tree.proofs.Asides.{empty_by}
use Rattle.fuse_store_tree.proofs.store_data.Data.has_written.Goals as goal

pub returns : goal.returns
returns g c = λ none. empty_by c.args.self.now.written.items c.as_slice-written.result.now c.as_slice-written.ensures.value none
