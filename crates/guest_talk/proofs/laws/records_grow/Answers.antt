use Rattle.guest_talk.proofs.Records.{records_grow}
use Rattle.guest_talk.proofs.laws.records_grow.Goals as goal

pub returns : goal.returns
returns c = records_grow
