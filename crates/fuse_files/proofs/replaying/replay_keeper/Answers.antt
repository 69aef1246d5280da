use Rattle.std.proofs.Common.{Some, ap, ◌∙◌}
use Rattle.sqlite.specs.Files.{over_files}
use Rattle.fuse_store.specs.TableKeeper.{keeper_told}
use Rattle.fuse_commands.specs.Output.{shows_seen}
use Rattle.fuse_files.specs.StoreReplays.{streams}
use Rattle.fuse_files.proofs.Shown.{replayed_as}
use Rattle.fuse_files.proofs.replaying.replay_keeper.Goals as goal

pub returns-clause-ran : goal.returns-clause-ran
returns-clause-ran g c =
    let p = g.P.Profiled.PROFILE in
    record {
      keeper' = c.run_replay-ending.new.keeper;
      replays = record {
        replayed =
            replayed_as p (keeper_told p over_files g.E.Disk c.args.keeper) (keeper_told p over_files g.E.Disk c.run_replay-ending.new.keeper) c.args.moment
            (streams (g.R.Read.remaining c.args.reader) (g.W.Write.contents c.args.writer.now) (g.W.Write.contents c.run_replay-ending.new.writer))
            c.run_replay-ending.result c.shows_seen-shown.result (c.shows_seen-shown.ensures ∙ ap shows_seen c.PROFILE.ensures)
            c.run_replay-ending.ensures.replayed;
        faulted = c.run_replay-ending.ensures.faulted;
        kept = c.run_replay-ending.ensures.kept;
      };
      files = c.close_store.result.0;
      disk = c.close_store.result.1;
      closed = c.close_store.ensures.closes;
      left_is = ap Some c.left_of.ensures;
    }
