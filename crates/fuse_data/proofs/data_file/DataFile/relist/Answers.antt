use Rattle.fuse_data.proofs.Listings.{listed_in_use}
use Rattle.fuse_data.proofs.data_file.DataFile.relist.Goals as goal

pub returns-clause-in_use : goal.returns-clause-in_use
returns-clause-in_use g c = listed_in_use c.args.listed.now c.in_ok-self.field-0 c.in_ok-self.ensures.space
