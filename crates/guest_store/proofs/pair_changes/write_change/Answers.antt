use Rattle.std.proofs.Common.{ap, sym, subst}
use Rattle.sqlite.specs.Held.{state}
use Rattle.guest_frames.specs.Borrowed.{change_content}
use Rattle.guest_frames.specs.Frames.{ChangeContent, IsChange}
use Rattle.fuse_guest.specs.Pairs.{pairs_after}
use Rattle.guest_tables.specs.PairSteps.{Changes}
use Rattle.guest_store.proofs.pair_changes.write_change.Goals as goal

pub returns-in-Put : goal.returns-in-Put
returns-in-Put g c =
    subst (λ (x : ChangeContent). Changes (λ ps. pairs_after ps x) (state g.S.Store c.args.conn.now) (state g.S.Store c.put_pair.new.conn) c.put_pair.result)
    (sym (ap change_content c.in-Put.is)) (c.put_pair.ensures.held (subst IsChange (ap change_content c.in-Put.is) c.requires))

pub returns-in-Delete : goal.returns-in-Delete
returns-in-Delete g c =
    subst (λ (x : ChangeContent). Changes (λ ps. pairs_after ps x) (state g.S.Store c.args.conn.now) (state g.S.Store c.delete_pair.new.conn) c.delete_pair.result)
    (sym (ap change_content c.in-Delete.is)) c.delete_pair.ensures.held

pub returns-in-Clear : goal.returns-in-Clear
returns-in-Clear g c =
    subst (λ (x : ChangeContent). Changes (λ ps. pairs_after ps x) (state g.S.Store c.args.conn.now) (state g.S.Store c.clear_pairs.new.conn) c.clear_pairs.result)
    (sym (ap change_content c.in-Clear.is)) c.clear_pairs.ensures.held
