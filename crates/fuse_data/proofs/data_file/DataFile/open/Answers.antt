use Rattle.fuse_data.proofs.Listings.{listed_in_use}
use Rattle.fuse_data.proofs.data_file.DataFile.open.Goals as goal

pub returns-in-Ok-clause-in_use : goal.returns-in-Ok-clause-in_use
returns-in-Ok-clause-in_use g c = listed_in_use c.args.listed.now c.in-Ok.space c.in-Ok.ensures.space
