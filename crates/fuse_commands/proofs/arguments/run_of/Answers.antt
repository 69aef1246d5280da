use Rattle.clap.specs.Matches.{found_of}
use Rattle.fuse_commands.proofs.Runs.{asked}
use Rattle.fuse_commands.proofs.arguments.run_of.Goals as goal

pub returns-in-dump-default : goal.returns-in-dump-default
returns-in-dump-default c =
    asked c.args.matches.now (found_of c.in_ok-found.field-0.1.now) _ c.in_ok-found.field-0.0.now c.dump_run.result c.in_ok-found.ensures.name c.in_ok-found.ensures.rows
    c.in-dump-default.is-dump-0 c.dump_run.ensures

pub returns-in-decode-default : goal.returns-in-decode-default
returns-in-decode-default c =
    asked c.args.matches.now (found_of c.in_ok-found.field-0.1.now) _ c.in_ok-found.field-0.0.now c.decode_run.result c.in_ok-found.ensures.name c.in_ok-found.ensures.rows
    c.in-decode-default.is-decode-0 c.decode_run.ensures

pub returns-in-check-default : goal.returns-in-check-default
returns-in-check-default c =
    asked c.args.matches.now (found_of c.in_ok-found.field-0.1.now) _ c.in_ok-found.field-0.0.now c.check_run.result c.in_ok-found.ensures.name c.in_ok-found.ensures.rows
    c.in-check-default.is-check-0 c.check_run.ensures

pub returns-in-replay-default : goal.returns-in-replay-default
returns-in-replay-default c =
    asked c.args.matches.now (found_of c.in_ok-found.field-0.1.now) _ c.in_ok-found.field-0.0.now c.replay_run.result c.in_ok-found.ensures.name c.in_ok-found.ensures.rows
    c.in-replay-default.is-replay-0 c.replay_run.ensures

pub returns-in-serve-default : goal.returns-in-serve-default
returns-in-serve-default c =
    asked c.args.matches.now (found_of c.in_ok-found.field-0.1.now) _ c.in_ok-found.field-0.0.now c.serve_run.result c.in_ok-found.ensures.name c.in_ok-found.ensures.rows
    c.in-serve-default.is-serve-0 c.serve_run.ensures

pub returns-in-simulate-default : goal.returns-in-simulate-default
returns-in-simulate-default c =
    asked c.args.matches.now (found_of c.in_ok-found.field-0.1.now) _ c.in_ok-found.field-0.0.now c.simulate_run.result c.in_ok-found.ensures.name c.in_ok-found.ensures.rows
    c.in-simulate-default.is-simulate-0 c.simulate_run.ensures

pub returns-in-store-default : goal.returns-in-store-default
returns-in-store-default c =
    asked c.args.matches.now (found_of c.in_ok-found.field-0.1.now) _ c.in_ok-found.field-0.0.now c.store_run.result c.in_ok-found.ensures.name c.in_ok-found.ensures.rows
    c.in-store-default.is-store-0 c.store_run.ensures

pub returns-in-ls-default : goal.returns-in-ls-default
returns-in-ls-default c =
    asked c.args.matches.now (found_of c.in_ok-found.field-0.1.now) _ c.in_ok-found.field-0.0.now c.list_run.result c.in_ok-found.ensures.name c.in_ok-found.ensures.rows
    c.in-ls-default.is-ls-0 c.list_run.ensures

pub returns-in-cat-default : goal.returns-in-cat-default
returns-in-cat-default c =
    asked c.args.matches.now (found_of c.in_ok-found.field-0.1.now) _ c.in_ok-found.field-0.0.now c.cat_run.result c.in_ok-found.ensures.name c.in_ok-found.ensures.rows
    c.in-cat-default.is-cat-0 c.cat_run.ensures

pub returns-in-verify-default : goal.returns-in-verify-default
returns-in-verify-default c =
    asked c.args.matches.now (found_of c.in_ok-found.field-0.1.now) _ c.in_ok-found.field-0.0.now c.verify_run.result c.in_ok-found.ensures.name
    c.in_ok-found.ensures.rows c.in-verify-default.is-verify-0 c.verify_run.ensures
