use Rattle.std.proofs.Common.{◌≡◌, List, ◌++◌, refl, sym, ap}
use Rattle.sqlite.specs.declared.types.Value.{Value}
use Rattle.sqlite.specs.Order.{column}
use Rattle.fuse_rows.specs.declared.rows.NodeRow.{NodeRow}
use Rattle.fuse_store_tables.specs.Content.{HasWidths, node_columns}
use Rattle.fuse_store_tables.proofs.NodeColumns.{told_back, number_in, same_fields}
use Rattle.fuse_store_tables.proofs.columns.node_at.Goals as goal

pub returns-in_err-written-clause-fault : goal.returns-in_err-written-clause-fault
returns-in_err-written-clause-fault c =
    told_back (λ (n : NodeRow) (more : List Value). HasWidths n) (λ n more. c.args.row.now ≡ node_columns c.args.layout n ++ more) _
    c.from_residual-in_err-written.result c.from_residual-in_err-written.ensures.1 c.in_err-written.ensures.fault

pub returns-clause-value : goal.returns-clause-value
returns-clause-value c n more fits has same is =
    let row = c.args.row.now in
    let all = node_columns c.args.layout n ++ more in
    same_fields n c.args.node c.in_ok-mode.mode c.in_ok-uid.uid c.in_ok-gid.gid c.in_ok-rdev.rdev c.in_ok-size.size c.in_ok-up.up c.in_ok-subdirs.subdirs
    c.in_ok-atime.atime c.in_ok-mtime.mtime c.in_ok-ctime.ctime c.in_ok-written.written (sym same)
    (number_in row all 0 c.in_ok-mode.mode n.mode is c.in_ok-mode.ensures.value refl)
    (number_in row all 1 c.in_ok-uid.uid n.uid is c.in_ok-uid.ensures.value refl)
    (number_in row all 2 c.in_ok-gid.gid n.gid is c.in_ok-gid.ensures.value refl)
    (number_in row all 3 c.in_ok-rdev.rdev n.rdev is c.in_ok-rdev.ensures.value refl)
    (number_in row all 4 c.in_ok-size.size n.size is c.in_ok-size.ensures.value refl)
    (c.in_ok-atime.ensures.value n.atime fits.atime.secs (ap (λ r. column r 5) is) (ap (λ r. column r 6) is))
    (c.in_ok-mtime.ensures.value n.mtime fits.mtime.secs (ap (λ r. column r 7) is) (ap (λ r. column r 8) is))
    (c.in_ok-ctime.ensures.value n.ctime fits.ctime.secs (ap (λ r. column r 9) is) (ap (λ r. column r 10) is))
    (number_in row all 11 c.in_ok-up.up n.up is c.in_ok-up.ensures.value refl)
    (number_in row all 12 c.in_ok-subdirs.subdirs n.subdirs is c.in_ok-subdirs.ensures.value refl)
    (c.in_ok-written.ensures.value n more has is)
