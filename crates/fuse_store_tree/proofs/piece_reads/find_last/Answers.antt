use Rattle.std.proofs.Common.{sym, subst, ◌∙◌}
use Rattle.sqlite.specs.Held.{state}
use Rattle.fuse_store_tree.proofs.Looks.{map_ok, map_err}
use Rattle.fuse_store_tree.proofs.LastPieces.{none_shown, last_shown, keeps_sum, told_so}
use Rattle.fuse_store_tree.proofs.piece_reads.find_last.Goals as goal

pub returns-in-Ok-None-clause-value : goal.returns-in-Ok-None-clause-value
returns-in-Ok-None-clause-value g c clean k at fits =
    none_shown c.args.node c.args.block k fits (rw c.in-Ok-None.field-0-is at (c.in-Ok-None.ensures.found clean k at))

pub returns-in-Ok-Some-clause-value : goal.returns-in-Ok-Some-clause-value
returns-in-Ok-Some-clause-value g c clean =
    map_ok c.read_last.result _ _ (λ r told k at fits.
    let last = last_shown c.args.node c.args.block k c.in-Ok-Some.row fits (rw c.in-Ok-Some.field-0-is at (c.in-Ok-Some.ensures.found clean k at)) in
    told_so c.args.node c.args.block k r last.0 last.1 (told last.0 last.1.of (keeps_sum k last.0 fits last.1.there) last.2)) c.read_last.ensures.value

pub returns-in-Ok-Some-clause-fault : goal.returns-in-Ok-Some-clause-fault
returns-in-Ok-Some-clause-fault g c clean =
    map_err c.read_last.result _ _ (λ f told k at fits.
    let last = last_shown c.args.node c.args.block k c.in-Ok-Some.row fits (rw c.in-Ok-Some.field-0-is at (c.in-Ok-Some.ensures.found clean k at)) in
    told last.0 last.1.of (keeps_sum k last.0 fits last.1.there) last.1.begins last.2) c.read_last.ensures.fault
