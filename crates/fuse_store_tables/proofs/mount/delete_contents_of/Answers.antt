use Rattle.std.proofs.Common.{◌≡◌, ◌+◌, refl, sym, ap, subst, ◌∙◌, arith, ◌<◌, map, take, length, slice_index_or, add-one, take_all, Ok, Err}
use Rattle.sqlite.specs.Held.{state}
use Rattle.sqlite.specs.Order.{column}
use Rattle.fuse_store_tables.specs.inner.Columns.{number_in, number_of_row, shown_number}
use Rattle.fuse_store_tables.specs.inner.Steps.{without_contents, without_contents_of}
use Rattle.fuse_store_tables.proofs.ContentsOf.{with_more, shown_at}
use Rattle.fuse_store_tables.proofs.Joining.{makes_then, makes_none, makes_same}
use Rattle.fuse_store_tables.proofs.Within.{within_then, within_told}
use Rattle.fuse_store_tables.proofs.mount.delete_contents_of.Goals as goal

pub returns-in-Err-remove_contents-clause-made : goal.returns-in-Err-remove_contents-clause-made
returns-in-Err-remove_contents-clause-made g c =
    let so_far = without_contents_of (map number_of_row (take c.nodes.at c.args.nodes.now)) in
    let last = without_contents c.in-Ok.node in
    makes_none (λ k. last (so_far k)) (without_contents_of (map number_of_row c.args.nodes.now)) _ _ c.in-Err-remove_contents.error c.into.result
    (makes_then so_far last _ (state g.S.Store c.nodes.conn) _ c.nodes.at (Err c.in-Err-remove_contents.error) c.nodes.invariant.2
    c.in-Err-remove_contents.ensures.made)

pub returns-in-Err-clause-fault : goal.returns-in-Err-clause-fault
returns-in-Err-clause-fault g c ns same =
    let n = slice_index_or ns c.nodes.at 0 in
    let row : c.index-nodes-at.result ≡ shown_number n =
    c.index-nodes-at.is ∙ subst (λ rows. c.nodes.at < length rows → slice_index_or rows c.nodes.at c.index-nodes-at.result ≡ shown_number n) (sym same)
    (shown_at ns c.nodes.at c.index-nodes-at.result) c.nodes-test.true in
    c.in-Err.ensures.fault n (subst (λ r. 0 < length r) (sym row) (omega arith)) (ap (λ r. column r 0) row)

pub nodes-preserved : goal.nodes-preserved
nodes-preserved g c =
    let nodes = c.args.nodes.now in
    let so_far = without_contents_of (map number_of_row (take c.nodes.at nodes)) in
    let last = without_contents c.in-Ok.node in
    let a = state g.S.Store c.args.conn.now in
    let d = state g.S.Store c.remove_contents.new.conn in
    let both = makes_then so_far last a (state g.S.Store c.nodes.conn) d c.nodes.at (Ok _) c.nodes.invariant.2
    c.in-Ok-remove_contents.ensures.made in (
      refl,
      omega (arith, c.nodes-test.true),
      makes_same (λ k. last (so_far k)) (without_contents_of (map number_of_row (take (c.nodes.at + 1) nodes))) a d _
          (c.nodes.at + 1)
          (λ k. rw add-one (ap (λ n. without_contents n (so_far k)) (sym (ap number_in c.in-Ok.ensures.value))
          ∙ ap (λ r. without_contents (number_of_row r) (so_far k)) (c.index-nodes-at.is)
          ∙ sym (with_more nodes c.nodes.at c.index-nodes-at.result k c.nodes-test.true))) both,
      within_told a d _ (Ok (c.nodes.at + 1)) (within_then a (state g.S.Store c.nodes.conn) d _ (Ok _) c.nodes.invariant.3
          c.in-Ok-remove_contents.ensures.within),
    )

pub returns-clause-made : goal.returns-clause-made
returns-clause-made g c =
    makes_same (without_contents_of (map number_of_row (take c.nodes.at c.args.nodes.now))) (without_contents_of (map number_of_row c.args.nodes.now))
    (state g.S.Store c.args.conn.now) (state g.S.Store c.nodes.conn) c.nodes.at tt
    (λ k. ap (λ l. without_contents_of (map number_of_row l) k) (take_all c.nodes.at c.args.nodes.now c.nodes-test.false)) c.nodes.invariant.2
