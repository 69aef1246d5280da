use Rattle.std.specs.Prelude.{◌≡◌, ◌==◌, find, drop}
use Rattle.fuse_lists.proofs.plain.handles.found.Given as goal

abbrev pub invariant-loop-handle : goal.invariant-loop-handle
invariant-loop-handle l = find (λ h. h.fh == l.fh) (drop l.handle-index l.handles) ≡ find (λ h. h.fh == l.fh) l.handles
