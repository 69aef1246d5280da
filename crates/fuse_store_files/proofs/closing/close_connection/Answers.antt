use Rattle.std.proofs.Common.{◌≡◌, IsTrue, ap, subst, sym, ◌∙◌, arith}
use Rattle.sqlite_wal.specs.Recovery.{Image}
use Rattle.sqlite_wal.specs.Files.{outcomes}
use Rattle.sqlite_wal.specs.Reads.{AreClean}
use Rattle.sqlite_wal.proofs.StateLemmas.{open_from}
use Rattle.sqlite_pool.proofs.StateLemmas.{clean_if_left, clean_is, may_leave_is}
use Rattle.sqlite_trees.specs.View.{View, IsClean}
use Rattle.sqlite_trees.proofs.Doubt.{clean_of as sure, no_doubt}
use Rattle.sqlite_store.specs.FileStore.{state, view}
use Rattle.sqlite.specs.Closing.{HoldsAlone}
use Rattle.sqlite.proofs.Theorems.{copied}
use Rattle.fuse_store_files.proofs.Finding.{holds_some}
use Rattle.fuse_store_files.proofs.closing.close_connection.Goals as goal

pub returns-in-Ok-clause-ended : goal.returns-in-Ok-clause-ended
returns-in-Ok-clause-ended g c =
    let store = c.into_store-store.result in
    record {
      ended = store;
      its_own = c.into_store-store.ensures.quiet.outcomes;
      before = λ clean sound left may.
          holds_some c.args.conn.store left may (sym c.into_store-store.ensures.undone.numbered ∙ c.into_store-store.ensures.numbered clean) sound;
      leaves = λ left may.
          let clean : IsClean (view store) = no_doubt _ (clean_if_left store.pool left may) in
          let h = holds_some store left may (c.into_store-store.ensures.numbered clean) (c.into_store-store.ensures.sound clean) in
          record { trees = h.trees; held = h.held; so = c.into_store-store.ensures.quiet.outcomes h.trees h.so };
      honest = λ clean. omega (arith, clean, c.into_store-store.ensures.quiet.clean);
    }

pub returns-in-Err-clause-ended : goal.returns-in-Err-clause-ended
returns-in-Err-clause-ended g c =
    let store = c.into_store-store.result in
    record {
      ended = store;
      its_own = c.into_store-store.ensures.quiet.outcomes;
      before = λ clean sound left may.
          holds_some c.args.conn.store left may (sym c.into_store-store.ensures.undone.numbered ∙ c.into_store-store.ensures.numbered clean) sound;
      leaves = λ left may.
          let clean : IsClean (view store) = no_doubt _ (clean_if_left store.pool left may) in
          let h = holds_some store left may (c.into_store-store.ensures.numbered clean) (c.into_store-store.ensures.sound clean) in
          record { trees = h.trees; held = h.held; so = c.into_store-store.ensures.quiet.outcomes h.trees h.so };
      honest = λ clean. omega (arith, clean, c.into_store-store.ensures.quiet.clean);
    }

pub returns-in-Err-clause-unclosed : goal.returns-in-Err-clause-unclosed
returns-in-Err-clause-unclosed g c = record {
  leaves = λ db may.
      c.into_store-store.ensures.quiet.outcomes db (c.rollback.ensures.quiet.outcomes db (c.checkpoint.ensures.quiet.outcomes db may));
  holds = λ numbered left may.
      let store = c.into_store-store in
      let last = c.checkpoint.new.self in
      let clean : IsClean (view last) = no_doubt _ (clean_if_left last.pool left may) in
      let early : IsClean (view store.result) = omega (arith, clean, c.checkpoint.ensures.quiet.clean, c.rollback.ensures.quiet.clean) in
      let h = holds_some last left may numbered
      (λ db found. store.ensures.sound early db (c.rollback.ensures.quiet.outcomes db (c.checkpoint.ensures.quiet.outcomes db found))) in
      record {
        trees = h.trees;
        held = h.held;
        so = store.ensures.quiet.outcomes h.trees (c.rollback.ensures.quiet.outcomes h.trees (c.checkpoint.ensures.quiet.outcomes h.trees h.so));
      };
  honest = λ clean.
      omega (arith, clean, c.checkpoint.ensures.quiet.clean, c.rollback.ensures.quiet.clean, c.into_store-store.ensures.quiet.clean);
}

pub returns-in-Ok-clause-closed : goal.returns-in-Ok-clause-closed
returns-in-Ok-clause-closed g c =
    let before = c.rollback.new.self in
    let last = c.checkpoint.new.self in
    let q = c.checkpoint.ensures.quiet in
    let first = c.into_store-store.ensures in
    record {
      leaves = λ clean image may.
          let sure_now = subst (λ p. AreClean g.D.Disk p.0 p.1) c.close.ensures clean in
          let none : IsClean (view last) = no_doubt _ (clean_is last.pool ∙ sure_now) in
          let middle : IsClean (view before) = omega (arith, none, q.clean) in
          let early : IsClean (view c.into_store-store.result) = omega (arith, middle, c.rollback.ensures.quiet.clean) in
          let numbered : IsTrue (view last).is_numbered =
          ap (λ (v : View). v.is_numbered) (c.checkpoint.ensures.same (c.in-Ok.ensures.open none)) ∙ (c.rollback.ensures.undone.kept middle).numbered
          ∙ first.numbered early in
          let h = holds_some last image (may_leave_is last.pool image sure_now (subst (λ p. outcomes g.D.Disk p.0 p.1 image) c.close.ensures may)) numbered
          (λ db found. first.sound early db (c.rollback.ensures.quiet.outcomes db (q.outcomes db found))) in
          record { trees = h.trees; held = h.held; so = first.quiet.outcomes h.trees (c.rollback.ensures.quiet.outcomes h.trees (q.outcomes h.trees h.so)) };
      honest = λ clean.
          let sure_now = subst (λ p. AreClean g.D.Disk p.0 p.1) c.close.ensures clean in
          let none : IsClean (view last) = no_doubt _ (clean_is last.pool ∙ sure_now) in
          omega (arith, none, q.clean, c.rollback.ensures.quiet.clean, first.quiet.clean);
    }

pub returns-in-Ok-clause-copied : goal.returns-in-Ok-clause-copied
returns-in-Ok-clause-copied g c = λ honest.
    let back = c.into_store-store.result in
    let before = c.rollback.new.self in
    let last = c.checkpoint.new.self in
    let q = c.checkpoint.ensures.quiet in
    let stays = g.met.D.Disk.seen_may_stay in
    let sure_now = subst (λ p. AreClean g.D.Disk p.0 p.1) c.close.ensures honest in
    let none : IsClean (view last) = no_doubt _ (clean_is last.pool ∙ sure_now) in
    let clean : IsClean (view before) = omega (arith, q.clean) in
    let early : IsClean (view back) = omega (arith, c.rollback.ensures.quiet.clean) in
    let h = open_from (state before) c.in-Ok.ensures.ready (sure (view before).is_clean clean) in
    let second = c.rollback.ensures.undone.kept clean in
    let first = c.into_store-store.ensures.undone.kept early in
    let on = c.in-Ok.ensures.open none in
    let same = c.checkpoint.ensures.same on in
    let numbered : IsTrue (view last).is_numbered = ap (λ (v : View). v.is_numbered) same ∙ second.numbered ∙ c.into_store-store.ensures.numbered early in
    let committed : (view last).committed ≡ (view c.args.conn.store).committed = ap (λ (v : View). v.committed) same ∙ second.committed h ∙ first.committed (second.was_open h) in
    let each = λ (image : Image) (may : outcomes g.D.Disk c.close.result.log c.close.result.db image).
    subst (HoldsAlone image) committed (copied last stays on numbered
    (λ db found. c.into_store-store.ensures.sound early db (c.rollback.ensures.quiet.outcomes db (q.outcomes db found)))
    (c.in-Ok.ensures.moved (c.rollback.ensures.logged (second.was_open h))) image
    (may_leave_is last.pool image sure_now (subst (λ p. outcomes g.D.Disk p.0 p.1 image) c.close.ensures may))) in
    record {
      was_clean = omega (arith, c.into_store-store.ensures.quiet.clean);
      was_open = first.was_open (second.was_open h);
      seen = each _ (stays _, stays _);
      left = each;
    }
