use Rattle.clap.specs.Simple.{app_of}
use Rattle.fuse_commands.proofs.arguments.parse.Goals as goal

pub returns-in-Some : goal.returns-in-Some
returns-in-Some g c = record {
  app = app_of c.version-command.result;
  matches = c.in_ok-matches.matches;
  so = c.in_ok-matches.ensures.matches;
  asks = c.in-Some.ensures;
}
