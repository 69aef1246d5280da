use Rattle.guest_tables.proofs.ReadRows.{contents_read}
use Rattle.guest_tables.proofs.laws.contents_are_read.Goals as goal

pub returns : goal.returns
returns c = contents_read
