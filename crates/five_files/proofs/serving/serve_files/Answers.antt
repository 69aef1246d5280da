use Rattle.fuse_session.specs.Done.{life_of}
use Rattle.fuse_session.specs.Serving.{exchange}
use Rattle.five_files.specs.Serving.{files_told}
use Rattle.five_files.proofs.Staying.{lived_same}
use Rattle.five_files.proofs.serving.serve_files.Goals as goal

pub returns-clause-files : goal.returns-clause-files
returns-clause-files g c =
    let run = life_of c.serve.ensures.session in
    record {
      run = run;
      stay = λ s h t stands none again. lived_same (files_told c.serve.new.keeper) (record { state = s; history = h; settled = t })
          (exchange run.broken.work) run.broken.answer (run.broken.life (record { honest = tt; clean = λ _. tt }) s h t stands none again);
    }
