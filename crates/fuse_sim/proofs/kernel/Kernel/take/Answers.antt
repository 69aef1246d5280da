use Rattle.std.proofs.Common.{◌≡◌, ℕ, List, Vec, Some, Ok, Err, get_or, length, sym, ap, subst, ◌∙◌, arith}
use Rattle.std.specs.Global.{Global}
use Rattle.fuse_wire.specs.Opcodes.{silent}
use Rattle.fuse_request.specs.Act.{Asked, opcode_of}
use Rattle.fuse_request.specs.AskedSize.{size_asked}
use Rattle.fuse_request.specs.Places.{asked_at}
use Rattle.fuse_answer.specs.Replies.{Told, Answers, FirstFault}
use Rattle.fuse_answer.specs.declared.reply.BadAnswer.{BadAnswer}
use Rattle.fuse_sim.specs.declared.kernel.TakeFault.TheVariants.{BadAnswer as Bad}
use Rattle.fuse_sim.specs.Pending.{requests_in, borne, owner, others, TakenOf}
use Rattle.fuse_sim.specs.KeptMessages.{IsOwed, ArePending}
use Rattle.fuse_sim.specs.inner.Marking.{StandsFirst}
use Rattle.fuse_sim.proofs.Pendings.{Found, found}
use Rattle.fuse_sim.proofs.kernel.Kernel.take.Goals as goal

found_in : (pending slice : List (Vec ℕ Global)) (unique place : ℕ) (m : Vec ℕ Global) → ArePending pending → slice ≡ pending
    → StandsFirst unique (requests_in slice) (Some place) → m ≡ get_or pending place m
    → Found pending unique place m.items
found_in pending slice unique place m p same first here =
    found pending unique place m p (subst (λ x. StandsFirst unique (requests_in x) (Some place)) same first) here

pub asks-opcode-requires : goal.asks-opcode-requires
asks-opcode-requires c =
    let f = found_in _ _ _ _ c.index.result.now c.self.invariant c.as_slice.ensures.value c.in-Some.ensures c.index.ensures in
    subst IsOwed (sym c.as_slice-2.ensures.value) f.owed

pub read_answer-requires : goal.read_answer-requires
read_answer-requires c =
    let f = found_in _ _ _ _ c.index.result.now c.self.invariant c.as_slice.ensures.value c.in-Some.ensures c.index.ensures in
    ap silent (c.asks-opcode.ensures.opcode ∙ ap (λ (m : List ℕ). opcode_of (asked_at m).act) c.as_slice-2.ensures.value) ∙ f.owed.loud

pub remove-taken-requires : goal.remove-taken-requires
remove-taken-requires c =
    let f = found_in _ _ _ _ c.index.result.now c.self.invariant c.as_slice.ensures.value c.in-Some.ensures c.index.ensures in
    let there = f.there in
    let same = ap length c.as_slice.ensures.value in
    omega (arith, c.as_slice.ensures.len)

pub invariant_of-self : goal.invariant_of-self
invariant_of-self c =
    let f = found_in _ _ _ _ c.index.result.now c.self.invariant c.as_slice.ensures.value c.in-Some.ensures c.index.ensures in
    subst ArePending (sym c.remove-taken.ensures.items) f.others_pending

-- the owner of the answer is the request that was found
owner_of : (pending : List (Vec ℕ Global)) (old : List Asked) (answer : List ℕ) (unique : ℕ) (one : Asked) → requests_in pending ≡ old → unique ≡ borne answer
    → owner unique (requests_in pending) ≡ Some one → owner (borne answer) old ≡ Some one
owner_of pending old answer unique one view same is = ap (owner (borne answer)) (sym view) ∙ ap (λ (u : ℕ). owner u (requests_in pending)) (sym same) ∙ is

-- what was asked is what the request asks for
record Same (one : Asked) (opcode size : ℕ) : Type 0 where
  pub opcode_is : opcode ≡ opcode_of one.act
  pub size_is : size ≡ size_asked one.act

same_asked : (m slice : List ℕ) (one : Asked) (opcode size : ℕ) → opcode ≡ opcode_of (asked_at slice).act → size ≡ size_asked (asked_at slice).act
    → slice ≡ m → asked_at m ≡ one → Same one opcode size
same_asked m slice one opcode size opcode_is size_is same is =
    let says : asked_at slice ≡ one = ap asked_at same ∙ is in
    record { opcode_is = opcode_is ∙ ap (λ (r : Asked). opcode_of r.act) says; size_is = size_is ∙ ap (λ (r : Asked). size_asked r.act) says }

taken_by : (old new : List Asked) (answer : List ℕ) (one : Asked) (opcode size : ℕ) (told : Told) → owner (borne answer) old ≡ Some one → Same one opcode size
    → Answers opcode size told answer → new ≡ others (borne answer) old
    → TakenOf (owner (borne answer) old) old new answer (Ok tt)
taken_by old new answer one opcode size told is same answers left =
    subst (λ o. TakenOf o old new answer (Ok tt)) (sym is) ((told, rw (← same.opcode_is, ← same.size_is) answers), left)

refused_by : (old new : List Asked) (answer : List ℕ) (one : Asked) (opcode size : ℕ) (fault : BadAnswer) → owner (borne answer) old ≡ Some one
    → Same one opcode size → FirstFault opcode size answer fault
    → ((told : Told) → Answers opcode size told answer → ⊥) → TakenOf (owner (borne answer) old) old new answer (Err (Bad fault))
refused_by old new answer one opcode size fault is same first never =
    subst (λ o. TakenOf o old new answer (Err (Bad fault))) (sym is) (
      rw (← same.opcode_is, ← same.size_is) first,
      λ told answers. never told (rw (same.opcode_is, same.size_is) answers),
    )

pub returns-in-Ok-clause-taken : goal.returns-in-Ok-clause-taken
returns-in-Ok-clause-taken c = λ _.
    let f = found_in _ _ _ _ c.index.result.now c.self.invariant c.as_slice.ensures.value c.in-Some.ensures c.index.ensures in
    let same = same_asked _ _ f.one _ _ c.asks-opcode.ensures.opcode c.asks-opcode.ensures.size c.as_slice-2.ensures.value f.is_one in
    let left = ap requests_in c.remove-taken.ensures.items ∙ f.left ∙ ap (λ (u : ℕ). others u (requests_in c.self.inside.pending.items)) c.u64_at.ensures
    ∙ ap (others (borne c.args.answer.now)) c.self.view_is in
    taken_by c.args.self.now _ c.args.answer.now f.one _ _ _
    (owner_of _ _ c.args.answer.now _ f.one c.self.view_is c.u64_at.ensures f.owner_is) same c.in-Ok.ensures.found left

pub returns-in-Err-clause-taken : goal.returns-in-Err-clause-taken
returns-in-Err-clause-taken c = λ _.
    let f = found_in _ _ _ _ c.index.result.now c.self.invariant c.as_slice.ensures.value c.in-Some.ensures c.index.ensures in
    let same = same_asked _ _ f.one _ _ c.asks-opcode.ensures.opcode c.asks-opcode.ensures.size c.as_slice-2.ensures.value f.is_one in
    refused_by c.args.self.now c.args.self.now c.args.answer.now f.one _ _ c.in-Err.fault
    (owner_of _ _ c.args.answer.now _ f.one c.self.view_is c.u64_at.ensures f.owner_is) same c.in-Err.ensures.fault c.in-Err.ensures.only
