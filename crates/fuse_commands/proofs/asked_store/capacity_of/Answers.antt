use Rattle.std.specs.Str.Parse.{ParsesUnsigned, ExplainsUnsignedError, HasUnsignedDigitsIfOk}
use Rattle.fuse_commands.proofs.Asked.{is_read}
use Rattle.fuse_commands.proofs.asked_store.capacity_of.Goals as goal

pub returns : goal.returns
returns g =
    is_read (λ text r. ParsesUnsigned 64 10 text r × ExplainsUnsignedError 10 text r × HasUnsignedDigitsIfOk text r) (λ text r parsed. parsed.0) _
    g.get_one.result g.get_one.ensures.none g.get_one.ensures.value
