use Rattle.std.proofs.Common.{subst, arith}
use Rattle.std.proofs.lemmas.Bool.{and_parts, and_from}
use Rattle.sqlite_wal.specs.Recovery.{Image}
use Rattle.sqlite_wal.specs.Files.{outcomes}
use Rattle.sqlite_wal.specs.Reads.{AreClean}
use Rattle.sqlite_pool.proofs.StateLemmas.{clean_is, may_leave_is}
use Rattle.sqlite_trees.specs.View.{IsClean}
use Rattle.sqlite_trees.proofs.Doubt.{no_doubt}
use Rattle.sqlite_store.specs.FileStore.{view}
use Rattle.std.proofs.Common.{◌∙◌}
use Rattle.fuse_store_files.proofs.Finding.{holds_some}
use Rattle.fuse_store_files.proofs.crashing.crash_files.Goals as goal

pub returns-clause-crashed : goal.returns-clause-crashed
returns-clause-crashed g c =
    let store = c.into_store.result in
    let log = c.crash_once.ensures in
    let db = c.crash_once-2.ensures in
    let same = c.close-files.ensures in
    let there = λ (clean : AreClean g.D.Disk c.crash_once.new.self c.crash_once-2.new.self).
    let now = and_parts _ _ clean in
    let was : AreClean g.D.Disk c.close-files.result.log c.close-files.result.db = and_from _ _ (log.clean now.0) (db.clean now.1) in
    subst (λ p. AreClean g.D.Disk p.0 p.1) same was in
    let image : Image = record { log = g.D.Disk.seen c.crash_once.new.self; db = g.D.Disk.seen c.crash_once-2.new.self } in
    record {
      ended = store;
      its_own = c.into_store.ensures.quiet.outcomes;
      log = subst (λ p. g.D.Crashing.crashed p.0 c.crash_once.new.self) same log.crashed;
      db = subst (λ p. g.D.Crashing.crashed p.1 c.crash_once-2.new.self) same db.crashed;
      honest = λ clean.
          let none : IsClean (view store) = no_doubt _ (clean_is store.pool ∙ there clean) in
          omega (arith, none, c.into_store.ensures.quiet.clean);
      holds = λ clean.
          let none : IsClean (view store) = no_doubt _ (clean_is store.pool ∙ there clean) in
          let may = may_leave_is store.pool image (there clean) (subst (λ p. outcomes g.D.Disk p.0 p.1 image) same (log.left, db.left)) in
          let h = holds_some store image may (c.into_store.ensures.numbered none) (c.into_store.ensures.sound none) in
          record { trees = h.trees; held = h.held; so = c.into_store.ensures.quiet.outcomes h.trees h.so };
    }
