use Rattle.std.proofs.Common.{◌≡◌, ℕ, List, take, length, All}
use Rattle.fuse_keeper.specs.History.{History, Includes, IsUnsettled, ids_in, kept_of}
use Rattle.fuse_keeper.specs.Model.{IsOfGoodState}
use Rattle.fuse_keeper.specs.Stands.{Stands, AreThese, PerformedBy, without}
use Rattle.fuse_keeper.specs.Group.{entries_of, ids_of}
use Rattle.fuse_keeper.specs.Taking.{TakesAll}
use Rattle.fuse_keeper.specs.Plain.{mapped}
use Rattle.fuse_keeper.specs.inner.Overlay.{over, record_ids}
use Rattle.fuse_keeper.proofs.group.take_all.Given as goal

abbrev pub invariant-loop-one : goal.invariant-loop-one
invariant-loop-one g l = record {
  performed : (s : g.F.FileSystem.model.State) (h : History) (t : List ℕ)
      → Stands g.F.FileSystem.model (g.F.FileSystem.held l.rows) (without (ids_of l.settled) (mapped l.records)) s h t
      → All (IsUnsettled t) (kept_of g.F.FileSystem.model.service (entries_of l.group))
      → PerformedBy g.F.FileSystem.model (AreThese g.F.FileSystem.model (g.F.FileSystem.held l.draft.rows)
      (over l.draft.added.items (without (ids_of l.settled) (mapped l.records)))) (record { state = s; history = h; settled = t })
      (entries_of (take l.one-index l.group)) l.dones.items;
  taken : TakesAll g.F.FileSystem.model (record { rows = g.F.FileSystem.held l.rows; records = without (ids_of l.settled) (mapped l.records) })
      (entries_of (take l.one-index l.group))
      (record { rows = g.F.FileSystem.held l.draft.rows; records = over l.draft.added.items (without (ids_of l.settled) (mapped l.records)) }) l.dones.items;
  count : length l.dones.items ≡ l.one-index;
  ready : g.F.FileSystem.is_ready l.draft.rows;
  rowed : IsOfGoodState g.F.FileSystem.model (g.F.FileSystem.held l.rows) → IsOfGoodState g.F.FileSystem.model (g.F.FileSystem.held l.draft.rows);
  ids : Includes (ids_in (kept_of g.F.FileSystem.model.service (entries_of (take l.one-index l.group)))) (record_ids l.draft.added.items);
}
