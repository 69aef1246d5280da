use Rattle.std.proofs.Common.{length, ◌≡◌, ℕ, List, Option, Some, None, Result, Ok, Err, inr, refl, sym, ap, subst, ◌∙◌, arith}
use Rattle.std.specs.Io.KnownBytes.{Keeps, IsAtEnd, prepend_known}
use Rattle.fuse_request.specs.Framing.{HeldBytes, HasNone}
use Rattle.fuse_commands.specs.declared.ending.Ending.{Ending}
use Rattle.fuse_commands.specs.declared.messages.Placed.{Placed}
use Rattle.fuse_commands.specs.inner.Messages.{left_in, EndsSo, GivesPlaced}
use Rattle.fuse_commands.proofs.Known.{keeps_same, keeps_then, keeps_consumes, gives_prefix, all_held}
use Rattle.fuse_commands.proofs.Faults.{faulty}
use Rattle.fuse_commands.proofs.messages.Messages.next.Goals as goal

pub loop-bytes-init : goal.loop-bytes-init
loop-bytes-init g c = record { left = keeps_same (left_in g.R.Read.remaining c.args.self.now); place = refl; work = omega arith }

pub returns-in-Ok-Some-clause-next : goal.returns-in-Ok-Some-clause-next
returns-in-Ok-Some-clause-next g c =
    let gives = rw c.in-Ok-Some.field-0-is at c.in-Ok-Some.ensures.next in
    let placed = c.loop-bytes.invariant.place in
    let rest = g.R.Read.remaining c.loop-bytes.self.pieces.reader in
    record {
      message = gives.message;
      left =
          keeps_consumes (left_in g.R.Read.remaining c.args.self.now)
          (left_in g.R.Read.remaining c.loop-bytes.self) _ _ c.loop-bytes.invariant.left
          (gives_prefix c.loop-bytes.self.framer.bytes c.next.new.self.bytes _ rest gives.rest);
      here = omega (arith, c.fed.ensures, c.held.ensures, placed);
      place = omega (arith, gives.at, placed);
    }

pub returns-in-Err-clause-next : goal.returns-in-Err-clause-next
returns-in-Err-clause-next g c =
    faulty (left_in g.R.Read.remaining c.args.self.now) c.loop-bytes.self.framer c.next.new.self (g.R.Read.remaining c.loop-bytes.self.pieces.reader) _
    c.in-Err.fault c.of_stream.result
    c.cut_steps.ensures c.loop-bytes.invariant.left c.loop-bytes.invariant.place c.in-Err.ensures.next c.of_stream.ensures

-- the end of the input
ends_here : (a new : Option (List ℕ)) (held : List ℕ) (rest : Option (List ℕ)) (at at' place : ℕ) (result : Result (Option Placed) Ending)
    → Keeps a (prepend_known held rest) → IsAtEnd rest → HasNone held → place ≡ at → EndsSo place held result → GivesPlaced a new at at' result
ends_here a new held rest at at' place (Ok (Some placed)) kept end none here h = absurd (let e = h.0 in cc)
ends_here None new held rest at at' place (Ok None) kept end none here h = tt
ends_here (Some xs) new held rest at at' place (Ok None) kept end none here h = all_held (Some xs) held rest kept end ∙ h.1
ends_here None new held rest at at' place (Err ending) kept end none here h = inr (record { fault = h.0; same = h.1; here = tt })
ends_here (Some xs) new held rest at at' place (Err ending) kept end none here h =
    let is : xs ≡ held = all_held (Some xs) held rest kept end in
    inr (record { fault = h.0; same = h.1; here = rw (is, sym here) (none, h.2) })

pub returns-then-not-branch-clause-next : goal.returns-then-not-branch-clause-next
returns-then-not-branch-clause-next g c =
    let read = c.in_ok-read.ensures in
    let stopped = read.end c.if-not-branch.true in
    let quiet = rw c.in-Ok-None.field-0-is at c.in-Ok-None.ensures.next in
    let kept = keeps_then (left_in g.R.Read.remaining c.args.self.now) (left_in g.R.Read.remaining c.loop-bytes.self)
    (left_in g.R.Read.remaining c.read.new.self) c.loop-bytes.invariant.left (rw (ap (λ (h : HeldBytes). h.bytes) quiet.2) at read.left) in
    ends_here (left_in g.R.Read.remaining c.args.self.now) _ c.read.new.self.framer.bytes (g.R.Read.remaining c.read.new.self.pieces.reader) _ _
    c.read.new.self.framer.at c.end.result kept stopped.1 (subst HasNone (sym (stopped.0 ∙ ap (λ (h : HeldBytes). h.bytes) quiet.2)) quiet.0)
    (read.place ∙ ap (λ (h : HeldBytes). h.at) quiet.2 ∙ c.loop-bytes.invariant.place) c.end.ensures

pub loop-bytes-preserved : goal.loop-bytes-preserved
loop-bytes-preserved g c =
    let read = c.in_ok-read.ensures in
    let quiet = rw c.in-Ok-None.field-0-is at c.in-Ok-None.ensures.next in
    record {
      left = keeps_then (left_in g.R.Read.remaining c.args.self.now) (left_in g.R.Read.remaining c.loop-bytes.self)
          (left_in g.R.Read.remaining c.read.new.self) c.loop-bytes.invariant.left (rw (ap (λ (h : HeldBytes). h.bytes) quiet.2) at read.left);
      place = read.place ∙ ap (λ (h : HeldBytes). h.at) quiet.2 ∙ c.loop-bytes.invariant.place;
      work = omega (arith, read.work, ap (λ (h : HeldBytes). length h.bytes) quiet.2, c.loop-bytes.invariant.work);
    }
