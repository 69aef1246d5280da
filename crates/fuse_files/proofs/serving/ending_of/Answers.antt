use Rattle.std.proofs.Common.{sym, ap, ◌∙◌}
use Rattle.fuse_commands.specs.Endings.{status_of}
use Rattle.fuse_files.proofs.Usage.{no_usage}
use Rattle.fuse_files.proofs.serving.ending_of.Goals as goal

pub returns-clause-usage : goal.returns-clause-usage
returns-clause-usage c = λ two. no_usage c.args.fault (ap status_of (sym c.of.ensures) ∙ two)
