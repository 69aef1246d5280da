use Rattle.std.proofs.Common.{length, sym, ap, arith}
use Rattle.fuse_answer.specs.FirstEntry.{entries_left}
use Rattle.fuse_answer.proofs.Listings.{entries_none, entries_some}
use Rattle.fuse_answer.proofs.unpacking.DirentsIterator.next.Goals as goal

pub returns-in_err-dirent-clause-steps : goal.returns-in_err-dirent-clause-steps
unfolding entries_left
returns-in_err-dirent-clause-steps c =
    let none = entries_none (length c.args.self.now.rest.now) c.args.self.now.rest.now (sym c.in_err-dirent.ensures.prefix) in
    rw c.from_residual.ensures (none, none)

pub returns-clause-steps : goal.returns-clause-steps
unfolding entries_left
returns-clause-steps c = entries_some _ _ c.in_ok-dirent.rest.now c.args.self.now.rest.now (omega arith) (sym c.in_ok-dirent.ensures.prefix)

pub returns-clause-goes : goal.returns-clause-goes
unfolding entries_left
returns-clause-goes c =
    let some = entries_some (length c.args.self.now.rest.now) _ c.in_ok-dirent.rest.now c.args.self.now.rest.now (omega arith)
    (sym c.in_ok-dirent.ensures.prefix) in
    record { on = λ _. (tt, tt, omega (arith, ap length some)); keeps = tt; rests = λ _. tt }
