use Rattle.std.proofs.Common.{Some, ap}
use Rattle.fuse_files.proofs.serving.serve_keeper.Goals as goal

pub returns-clause-ran : goal.returns-clause-ran
returns-clause-ran g c = record {
  keeper' = c.run_serve-ending.new.keeper;
  served = c.run_serve-ending.ensures.served;
  profile_is = ap Some c.PROFILE.ensures;
  left = c.close_store.result.0;
  disk = c.close_store.result.1;
  closed = c.close_store.ensures.closes;
  left_is = ap Some c.left_of.ensures;
}
