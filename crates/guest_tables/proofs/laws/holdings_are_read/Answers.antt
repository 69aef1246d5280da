use Rattle.guest_tables.proofs.ReadRows.{holdings_read}
use Rattle.guest_tables.proofs.laws.holdings_are_read.Goals as goal

pub returns : goal.returns
returns c = holdings_read
