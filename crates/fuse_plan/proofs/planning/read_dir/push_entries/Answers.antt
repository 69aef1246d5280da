use Rattle.std.proofs.Common.{map, sym}
use Rattle.std.proofs.lemmas.List.Elements.{All-push}
use Rattle.fuse_answer.specs.Entries.{directory_entry_of, IsNamed}
use Rattle.fuse_plan.specs.inner.PlanListing.{listed_child, IsShown}
use Rattle.fuse_plan.proofs.Shown.{all_at, one_more}
use Rattle.fuse_plan.proofs.planning.read_dir.push_entries.Goals as goal

pub returns-in_err-dirent-clause-shown : goal.returns-in_err-dirent-clause-shown
returns-in_err-dirent-clause-shown c all =
    absurd (c.in_err-dirent.ensures.shown (all_at IsShown c.args.children.now c.loop-child.child-index c.child-item.result all c.loop-child-test.true
    (sym c.child-item.is)))

pub loop-child-preserved : goal.loop-child-preserved
loop-child-preserved c =
    let before = c.loop-child.invariant in
    let dirents = c.loop-child.dirents.items in
    let one = c.in_ok-dirent.ensures in
    record {
      named = rw c.in_ok-push.ensures.items (All-push (λ d. IsNamed (directory_entry_of d)) dirents c.in_ok-dirent.dirent before.named one.named);
      entries = one_more directory_entry_of listed_child c.args.children.now c.loop-child.child-index c.child-item.result
          (map directory_entry_of c.args.dirents.now.items) dirents c.push.new.self.items c.in_ok-dirent.dirent c.loop-child-test.true (sym c.child-item.is)
          c.in_ok-push.ensures.items before.entries one.entry;
    }
