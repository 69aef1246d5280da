use Rattle.std.proofs.Common.{subst, IfOk, IfErr}
use Rattle.fuse_store_files.specs.inner.Connections.{EndsAsStore, IsClosedAs, IsCopiedTo, IsUncopied}
use Rattle.fuse_store_files.proofs.Closed.{closes}
use Rattle.fuse_store_files.proofs.closing.close_store.Goals as goal

pub returns-clause-closes : goal.returns-clause-closes
returns-clause-closes g c =
    let left = c.close_connection.result in
    let same = c.into_parts-conn.ensures.conn in
    closes g.E.Disk g.met.E.Disk.seen_may_stay g.P.Profiled.PROFILE c.args.keeper (subst EndsAsStore same c.close_connection.ensures.ended) left (subst (λ conn. IfOk left (IsClosedAs conn)) same c.close_connection.ensures.closed)
    (subst (λ conn. IfErr left (IsUncopied conn)) same c.close_connection.ensures.unclosed)
    (subst (λ conn. IfOk left (IsCopiedTo conn)) same c.close_connection.ensures.copied)
    c.into_parts-conn.result.disk c.into_parts-conn.ensures.disk

pub returns-clause-copied : goal.returns-clause-copied
returns-clause-copied g c = subst (λ conn. IfOk c.close_connection.result (IsCopiedTo conn)) c.into_parts-conn.ensures.conn c.close_connection.ensures.copied
