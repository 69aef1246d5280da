use Rattle.std.proofs.Common.{ap, ◌∙◌, inl, inr}
use Rattle.fuse_commands.specs.Output.{shows_seen}
use Rattle.fuse_files.specs.StoreReplays.{streams}
use Rattle.fuse_files.specs.ListReplays.{lists_told}
use Rattle.fuse_files.proofs.Shown.{replayed_as}
use Rattle.fuse_files.proofs.replaying.replay_lists.Goals as goal

pub returns-in-Ok-clause-ran : goal.returns-in-Ok-clause-ran
returns-in-Ok-clause-ran g c =
    let p = g.P.Profiled.PROFILE in
    inl (record {
      keeper = c.in-Ok.keeper;
      keeper' = c.run_replay.new.keeper;
      stands = c.in-Ok.ensures.stands;
      replays = record {
        replayed =
            replayed_as p (lists_told p c.in-Ok.keeper) (lists_told p c.run_replay.new.keeper) c.args.moment
            (streams (g.R.Read.remaining c.args.reader) (g.W.Write.contents c.args.writer.now) (g.W.Write.contents c.run_replay.new.writer))
            c.run_replay.result c.shows_seen-shown.result (c.shows_seen-shown.ensures ∙ ap shows_seen c.PROFILE.ensures)
            c.run_replay.ensures.replayed;
        faulted = c.run_replay.ensures.faulted;
        kept = c.run_replay.ensures.kept;
      };
    })
