use Rattle.std.proofs.Common.{◌⊎◌, ◌≤◌, sym, subst}
use Rattle.std.specs.Prelude.{IfSome}
use Rattle.std.specs.Io.KnownBytes.{Appends}
use Rattle.fuse_init.specs.declared.profile.Profile.{Profile}
use Rattle.fuse_tree.specs.TheTree.{tree_of}
use Rattle.fuse_commands.specs.Endings.{status_of}
use Rattle.fuse_commands.specs.Simulating.{SimulatedFrom}
use Rattle.fuse_files.specs.StoreReplays.{Streams}
use Rattle.fuse_files.specs.StoreSimulations.{IsSimulated, NotSimulated, AreSure, WereBlank, new_state}
use Rattle.fuse_files.proofs.simulating.simulate_store.Goals as goal

pub returns-in-Plain-clause-ran : goal.returns-in-Plain-clause-ran
returns-in-Plain-clause-ran g c =
    let streams : Streams = record {
      input = g.R.Read.remaining c.args.reader;
      written = g.W.Write.contents c.args.writer.now;
      written' = g.W.Write.contents c.simulate_under.new.writer;
    } in
    subst (λ (p : Profile). (IsSimulated p c.args.kind g.D.Disk g.D.Crashing.crashed streams c.simulate_under.result × WereBlank g.D.Disk c.args.files.0)
    ⊎ NotSimulated g.D.Disk c.args.files.0 streams c.simulate_under.result)
    (sym c.in-Plain.is) c.simulate_under.ensures.ran

pub returns-in-Plain-clause-simulated : goal.returns-in-Plain-clause-simulated
returns-in-Plain-clause-simulated g c =
    subst (λ (p : Profile). AreSure g.D.Disk → IfSome (g.R.Read.remaining c.args.reader) (λ script. status_of c.simulate_under.result ≤ 1
    → SimulatedFrom (tree_of p) (new_state p c.args.kind) (Appends (g.W.Write.contents c.args.writer.now) (g.W.Write.contents c.simulate_under.new.writer))
    script c.simulate_under.result)) (sym c.in-Plain.is) c.simulate_under.ensures.simulated

pub returns-in-Everyday-clause-ran : goal.returns-in-Everyday-clause-ran
returns-in-Everyday-clause-ran g c =
    let streams : Streams = record {
      input = g.R.Read.remaining c.args.reader;
      written = g.W.Write.contents c.args.writer.now;
      written' = g.W.Write.contents c.simulate_under-in-Everyday.new.writer;
    } in
    subst (λ (p : Profile). (IsSimulated p c.args.kind g.D.Disk g.D.Crashing.crashed streams c.simulate_under-in-Everyday.result × WereBlank g.D.Disk c.args.files.0)
    ⊎ NotSimulated g.D.Disk c.args.files.0 streams c.simulate_under-in-Everyday.result)
    (sym c.in-Everyday.is) c.simulate_under-in-Everyday.ensures.ran

pub returns-in-Everyday-clause-simulated : goal.returns-in-Everyday-clause-simulated
returns-in-Everyday-clause-simulated g c =
    subst (λ (p : Profile). AreSure g.D.Disk → IfSome (g.R.Read.remaining c.args.reader) (λ script. status_of c.simulate_under-in-Everyday.result ≤ 1
    → SimulatedFrom (tree_of p) (new_state p c.args.kind)
    (Appends (g.W.Write.contents c.args.writer.now) (g.W.Write.contents c.simulate_under-in-Everyday.new.writer))
    script c.simulate_under-in-Everyday.result)) (sym c.in-Everyday.is) c.simulate_under-in-Everyday.ensures.simulated
