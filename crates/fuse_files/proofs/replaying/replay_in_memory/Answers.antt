use Rattle.std.proofs.Common.{◌⊎◌, sym, subst}
use Rattle.fuse_init.specs.declared.profile.Profile.{Profile}
use Rattle.fuse_files.specs.ListReplays.{IsReplayedAnew, NotReplayedAnew}
use Rattle.fuse_files.specs.StoreReplays.{Streams}
use Rattle.fuse_files.proofs.replaying.replay_in_memory.Goals as goal

pub returns-in-Plain-clause-ran : goal.returns-in-Plain-clause-ran
returns-in-Plain-clause-ran g c =
    let streams : Streams = record {
      input = g.R.Read.remaining c.args.reader;
      written = g.W.Write.contents c.args.writer.now;
      written' = g.W.Write.contents c.replay_lists.new.writer;
    } in
    subst (λ (p : Profile). IsReplayedAnew p c.args.kind c.args.moment streams c.replay_lists.result ⊎ NotReplayedAnew streams c.replay_lists.result)
    (sym c.in-Plain.is) c.replay_lists.ensures.ran

pub returns-in-Everyday-clause-ran : goal.returns-in-Everyday-clause-ran
returns-in-Everyday-clause-ran g c =
    let streams : Streams = record {
      input = g.R.Read.remaining c.args.reader;
      written = g.W.Write.contents c.args.writer.now;
      written' = g.W.Write.contents c.replay_lists-in-Everyday.new.writer;
    } in
    subst (λ (p : Profile). IsReplayedAnew p c.args.kind c.args.moment streams c.replay_lists-in-Everyday.result
    ⊎ NotReplayedAnew streams c.replay_lists-in-Everyday.result)
    (sym c.in-Everyday.is) c.replay_lists-in-Everyday.ensures.ran
