use Rattle.std.proofs.Common.{sym, ◌∙◌}
use Rattle.fuse_commands.proofs.Firmness.{begun_firm}
use Rattle.fuse_commands.proofs.serve.run_serve.Goals as goal

pub returns-clause-same : goal.returns-clause-same
returns-clause-same g c = (g.met.K.Keeper.counted).then c.args.keeper.now c.send_notices.new.keeper c.serve-served.new.keeper 0 0
    c.send_notices.ensures.same c.serve-served.ensures.unopened

pub returns-clause-firm : goal.returns-clause-firm
returns-clause-firm g c going rows records held honest firm =
    let s = c.serve-served.ensures.session in
    s.firm (sym s.store ∙ going) honest (begun_firm _ _ c.args.begin c.in_default.ensures.ok (s.honest honest) rows records held firm)
