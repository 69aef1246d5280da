use Rattle.fuse_store_files.proofs.crashing.crash_store.Goals as goal

pub returns-clause-crashed : goal.returns-clause-crashed
returns-clause-crashed g c = record { tables = c.crash_files.ensures.crashed; contents = c.crash_data.ensures.crashed }
