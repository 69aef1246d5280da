use Rattle.std.proofs.Common.{ℕ, Bool, List, if◌then◌else◌, ap, ap₂, ◌∙◌}
use Rattle.sqlite_wal.specs.Recovery.{Image}
use Rattle.fuse_store_files.proofs.Fresh.{fresh_seen, fresh_alone, some_weaker}
use Rattle.fuse_store_files.proofs.files.connect.Goals as goal

pub returns-in-Err-clause-left : goal.returns-in-Err-clause-left
returns-in-Err-clause-left g c =
    some_weaker c.in-Err.left.1 _ _
    (λ it all.
    let files = all.0 in
    let log = all.1 in
    let db = all.2 in
    let which = λ (is_log : Bool). if is_log then g.S.Start.log else g.S.Start.db in
    record {
      left = record {
        files = files;
        held = ap₂ (λ (a b : List ℕ). let i : Image = record { log = a; db = b } in i) (fresh_seen _ _ _ log.1 ∙ ap which log.0) (fresh_seen _ _ _ db.1 ∙ ap which db.0);
        alone = λ i left. ap₂ (λ (a b : List ℕ). let i : Image = record { log = a; db = b } in i) (fresh_alone _ _ _ _ _ log.1 left.0 ∙ ap which log.0) (fresh_alone _ _ _ _ _ db.1 left.1 ∙ ap which db.0);
        kept = λ clean. (all.3 clean).1;
      };
      cause = λ clean. (all.3 clean).0;
    })
    c.in-Err.ensures.cause
