-- Turns that end, and whole sessions.
use Rattle.std.proofs.Common.{◌≡◌, ◌↔◌, inl, inr, ◌<◌, ◌+◌, ◌==◌, not, ℕ, ◌∷◌, Bool, true, false, List, [], ◌++◌, length, take, drop, Option, Some, None, refl, sym, ap, subst, ◌∙◌}
use Rattle.std.proofs.Common.{arith}
use Rattle.std.specs.Prelude.{IfSome}
use Rattle.std.proofs.lemmas.List.{append-nil, take-append-drop}
use Rattle.std.specs.Io.KnownBytes.{Consumes}
use Rattle.fuse_request.specs.declared.framer.FrameFault.{FrameFault}
use Rattle.fuse_request.specs.Stream.{cut, joined, CutJoins}
use Rattle.fuse_request.specs.Framing.{HeldBytes}
use Rattle.fuse_keeper.specs.History.{HistoriesGrow}
use Rattle.fuse_keeper.specs.Stands.{StillStands}
use Rattle.fuse_keeper.specs.Model.{Model}
use Rattle.fuse_keeper.specs.KeeperState.{KeeperState, IsFirm}
use Rattle.fuse_session.specs.declared.counts.SessionCounts.{SessionCounts}
use Rattle.fuse_session.specs.declared.ended.Ended.{Ended}
use Rattle.fuse_session.specs.declared.ended.Ended.TheVariants.{End, Destroyed, Turns, Frame, ZeroUnique, PortFailed, Store, Memory}
use Rattle.fuse_session.specs.declared.group.Next.{Next}
use Rattle.fuse_session.specs.declared.group.Progress.{Progress}
use Rattle.fuse_session.specs.declared.group.Next.TheVariants.{Destroyed as ByDestroy, ZeroUnique as ByZero}
use Rattle.fuse_session.specs.Port.{PortState, IsQuiet}
use Rattle.fuse_session.specs.Passage.{Passage, passage}
use Rattle.fuse_session.specs.Counting.{plus, none_counted}
use Rattle.fuse_session.specs.inner.Counting.{plus_if, IsBelow}
use Rattle.fuse_session.specs.inner.Moves.{FailedBy}
use Rattle.fuse_session.specs.inner.Receiving.{IsOpen, IsHearing, Heard, Comes, NotHeard}
use Rattle.fuse_session.specs.declared.port.Received.{Received as Receipt}
use Rattle.fuse_session.specs.declared.port.Received.TheVariants.{End as ByEnd, Failed as ReceiveFailed}
use Rattle.fuse_session.specs.Transcript.{PortEvent, Received}
use Rattle.fuse_session.specs.Deeds.{Deeds, Hears}
use Rattle.fuse_session.proofs.Doing.{no_deeds, then_did, one_heard}
use Rattle.std.proofs.lemmas.Bool.{eqb-true, eqb-false}
use Rattle.fuse_session.specs.Serving.{TookTurn, ProcessedAll, Waiting, nothing_waits, Whole, Run, lasts}
use Rattle.fuse_session.specs.inner.Turn.{waits}
use Rattle.fuse_session.specs.Ends.{Rested, Halted, EndsAs, EndsNot, IsGoodRest, FaultOf, receive_failed, counts_at}
use Rattle.fuse_session.specs.Ended.{ended_store, IsIntact}
use Rattle.fuse_session.specs.inner.Finishing.{ended_port, FinishedBy, IsFault}
use Rattle.fuse_session.proofs.Bytes.{consumes_none}
use Rattle.fuse_session.proofs.Replies.{replied_none}
use Rattle.fuse_session.proofs.Groups.{broken_none, firm_leaves}
use Rattle.fuse_session.proofs.Looking.{looked_none}
use Rattle.fuse_session.proofs.Turns.{turned_quiet, turned_life}
use Rattle.fuse_session.proofs.Growing.{hearing_replied, whole_more, halted_more, whole_none, whole_heard, halted_heard, life_heard}

-- ---- nothing was heard

-- bytes came by one receive
pub record ByOne (became : List PortEvent → Type 0) (p q : PortState) : Type 0 where
  pub received : List ℕ
  pub came : Consumes p.coming q.coming received
  pub result : Receipt
  pub once : became (Received result received ∷ [])

abbrev pub came_by : (e : Ended) (became : List PortEvent → Type 0) (p q : PortState) (h : HeldBytes) → NotHeard e became p q h → ByOne became p q
came_by End became p q h n = record { received = []; came = n.0.bytes; result = ByEnd; once = n.0.once }
came_by (Frame f) became p q h n = record { received = []; came = n.0.bytes; result = ByEnd; once = n.0.once }
came_by PortFailed became p q h n = record { received = []; came = n.bytes; result = ReceiveFailed; once = n.once }
came_by Memory became p q h n = record { received = n.0; came = n.1.bytes; result = n.1.result; once = n.1.once }
came_by Destroyed became p q h n = absurd n
came_by Turns became p q h n = absurd n
came_by (ZeroUnique at) became p q h n = absurd n
came_by (Store fault) became p q h n = absurd n

pub life_unheard : (M : Model) → StillStands M → (holds : KeeperState M) (did : Deeds → Type 0) (became : List PortEvent → Type 0) (p q : PortState) (ids : List ℕ) (h : HeldBytes)
    (e : Ended) → ended_store e ≡ false
    → ((result : Receipt) (bytes : List ℕ) → became (Received result bytes ∷ []) → Hears did bytes (one_heard result bytes))
    → NotHeard e became p q h → IsHearing p q → Run (passage holds holds p q did) (waits ids h) e
life_unheard M still holds did became p q ids h e inexact alone n hearing =
    let by = came_by e became p q h n in
    record {
      received = by.received;
      came = by.came;
      broken = broken_none M holds holds (Hears did by.received) p q ids (cut (h.bytes ++ by.received)).0 e inexact
          (one_heard by.result by.received) (alone by.result by.received by.once) refl refl (hearing_replied p q hearing)
          (looked_none M holds (IsIntact holds e)) (λ rows records held. held) (λ firm s g t so. firm_leaves M still holds s g t firm so);
    }

whole_unheard : (M : Model) → (holds : KeeperState M) (did : Deeds → Type 0) (p q : PortState) (ids : List ℕ) (h : HeldBytes) (result : Receipt)
    → Hears did [] (one_heard result []) → IsOpen h → Consumes p.coming q.coming [] → IsHearing p q
    → Whole (passage holds holds p q did) (waits ids h) (waits ids h) none_counted
whole_unheard M holds did p q ids h result none ready came hearing =
    let is : cut (h.bytes ++ []) ≡ ([], h.bytes) = ap cut (append-nil h.bytes) ∙ ready.none in
    record {
      received = [];
      came = came;
      rest_is = sym (ap (λ (x : List (List ℕ) × List ℕ). x.1) is);
      at = omega (arith, ap (λ (x : List (List ℕ) × List ℕ). length (joined x.0)) is);
      turned = subst (λ f. TookTurn (passage holds holds p q (Hears did [])) ids ids f true none_counted) (sym (ap (λ (x : List (List ℕ) × List ℕ). x.0) is))
          (turned_quiet M holds (Hears did []) p q ids (one_heard result []) none refl refl refl (hearing_replied p q hearing));
    }

pub ends_unheard : (M : Model) → (holds : KeeperState M) (did : Deeds → Type 0) (became : List PortEvent → Type 0) (p q : PortState) (ids : List ℕ) (h : HeldBytes)
    (e : Ended) (turns : ℕ) → ((result : Receipt) (bytes : List ℕ) → became (Received result bytes ∷ []) → Hears did bytes (one_heard result bytes))
    → IsOpen h → NotHeard e became p q h → IsHearing p q → EndsAs (passage holds holds p q did) (waits ids h) turns e none_counted
ends_unheard M holds did became p q ids h End turns alone ready n hearing = (
  (n.0.has_ended, omega (arith, n.0.ends)),
  record { after = waits ids h; whole = whole_unheard M holds did p q ids h ByEnd (alone ByEnd [] n.0.once) ready n.0.bytes hearing; so = n.1 },
)
ends_unheard M holds did became p q ids h (Frame f) turns alone ready n hearing =
    record {
      after = waits ids h;
      whole = whole_unheard M holds did p q ids h ByEnd (alone ByEnd [] n.0.once) ready n.0.bytes hearing;
      so = inr ((n.0.has_ended, omega (arith, n.0.ends)), ready.good, n.1);
    }
ends_unheard M holds did became p q ids h PortFailed turns alone ready n hearing = λ _. (
  record { ends = n.ends; has_ended = n.has_ended },
  record {
    after = waits ids h;
    whole = whole_unheard M holds did p q ids h ReceiveFailed (alone ReceiveFailed [] n.once) ready n.bytes hearing;
    so = (ready.none, ready.good);
  },
)
ends_unheard M holds did became p q ids h Memory turns alone ready n hearing = tt
ends_unheard M holds did became p q ids h Destroyed turns alone ready n hearing = absurd n
ends_unheard M holds did became p q ids h Turns turns alone ready n hearing = absurd n
ends_unheard M holds did became p q ids h (ZeroUnique at) turns alone ready n hearing = absurd n
ends_unheard M holds did became p q ids h (Store fault) turns alone ready n hearing = absurd n

not_true : (a b : ℕ) → a < b → not (b == a) ≡ true
not_true a b lt = elim (b == a) as (λ x. (b == a) ≡ x → not x ≡ true)
    [ true ↦ λ is. absurd (let same = eqb-true b a is in omega (arith, lt, same)) | false ↦ λ _. refl ] refl

pub unheard_counts : (e : Ended) (became : List PortEvent → Type 0) (p q : PortState) (h : HeldBytes) (told : Option SessionCounts) (counts : SessionCounts)
    → NotHeard e became p q h → told ≡ counts_at true e counts → told ≡ counts_at (receive_failed p q) e counts
unheard_counts PortFailed became p q h told counts n is =
    subst (λ b. told ≡ counts_at b PortFailed counts) (sym (not_true p.receive_failures q.receive_failures n.receive_failures)) is
unheard_counts End became p q h told counts n is = is
unheard_counts (Frame f) became p q h told counts n is = is
unheard_counts Memory became p q h told counts n is = is
unheard_counts Destroyed became p q h told counts n is = is
unheard_counts Turns became p q h told counts n is = is
unheard_counts (ZeroUnique at) became p q h told counts n is = is
unheard_counts (Store fault) became p q h told counts n is = is

-- ---- turns, and then an end

rested_more : (M : Model) → HistoriesGrow M → CutJoins → (holds mid new : KeeperState M) (did did' did'' : Deeds → Type 0) (p q r : PortState)
    (w w' : Waiting) (counts counts' : SessionCounts) (Rest Rest' : Waiting → Type 0)
    → (one : Whole (passage holds mid p q did) w w' counts) → Rested (passage mid new q r did') w' counts' Rest → ((x : Waiting) → Rest x → Rest' x)
    → (new.is_honest → mid.is_honest) → ((b : Deeds) → did' b → did'' (then_did one.turned.work.deeds b))
    → Rested (passage holds new p r did'') w (plus counts counts') Rest'
rested_more M grows joins holds mid new did did' did'' p q r w w' counts counts' Rest Rest' one two f honest_too onward = record {
  after = two.after;
  whole = whole_more M grows joins holds mid new did did' did'' p q r w w' two.after counts counts' one two.whole honest_too onward;
  so = f two.after two.so;
}

pub ends_more : (M : Model) → HistoriesGrow M → CutJoins → (holds mid new : KeeperState M) (did did' did'' : Deeds → Type 0) (p q r : PortState)
    (w w' : Waiting) (turns turns' : ℕ) (e : Ended) (counts counts' : SessionCounts)
    → (one : Whole (passage holds mid p q did) w w' counts) → EndsAs (passage mid new q r did') w' turns e counts' → (e ≡ Turns → ⊥)
    → q.receive_failures ≡ p.receive_failures → EndsNot p q → (new.is_honest → mid.is_honest)
    → ((b : Deeds) → did' b → did'' (then_did one.turned.work.deeds b))
    → EndsAs (passage holds new p r did'') w turns' e (plus counts counts')
ends_more M grows joins holds mid new did did' did'' p q r w w' turns turns' End counts counts' one two isnt same ended honest_too onward = (
  (two.0.0, omega (arith, two.0.1, ended.ends)),
  rested_more M grows joins holds mid new did did' did'' p q r w w' counts counts' _ _ one two.1 (λ x so. so) honest_too onward,
)
ends_more M grows joins holds mid new did did' did'' p q r w w' turns turns' (Frame f) counts counts' one two isnt same ended honest_too onward =
    rested_more M grows joins holds mid new did did' did'' p q r w w' counts counts' (FaultOf q r f) (FaultOf p r f) one two
    (λ x so. elim so [
      | inl bad ↦ inl bad
      | inr ended_so ↦ inr ((ended_so.0.0, omega (arith, ended_so.0.1, ended.ends)), ended_so.1, ended_so.2)
    ]) honest_too onward
ends_more M grows joins holds mid new did did' did'' p q r w w' turns turns' PortFailed counts counts' one two isnt same ended honest_too onward =
    λ more.
    let failed = two (omega (arith, more, same)) in (
      record { ends = failed.0.ends ∙ ended.ends; has_ended = failed.0.has_ended ∙ ended.has_ended },
      rested_more M grows joins holds mid new did did' did'' p q r w w' counts counts' IsGoodRest IsGoodRest one failed.1 (λ x so. so) honest_too onward,
    )
ends_more M grows joins holds mid new did did' did'' p q r w w' turns turns' Memory counts counts' one two isnt same ended honest_too onward = tt
ends_more M grows joins holds mid new did did' did'' p q r w w' turns turns' Destroyed counts counts' one two isnt same ended honest_too onward = (
  _,
  two.1,
  halted_more M grows joins holds mid new did did' did'' p q r w w' ByDestroy two.0 two.1 counts counts' one two.2 honest_too onward,
)
ends_more M grows joins holds mid new did did' did'' p q r w w' turns turns' Turns counts counts' one two isnt same ended honest_too onward = absurd (isnt refl)
ends_more M grows joins holds mid new did did' did'' p q r w w' turns turns' (ZeroUnique place) counts counts' one two isnt same ended honest_too onward =
    (_, halted_more M grows joins holds mid new did did' did'' p q r w w' ByZero two.0 place counts counts' one two.1 honest_too onward)
ends_more M grows joins holds mid new did did' did'' p q r w w' turns turns' (Store fault) counts counts' one two isnt same ended honest_too onward = tt

-- ---- a turn

-- messages were processed: a life
pub life_worked : (M : Model) → HistoriesGrow M → StillStands M → (holds new : KeeperState M) → (new.is_honest → holds.is_honest)
    → (did did' : Deeds → Type 0) (became : List PortEvent → Type 0) (p q r : PortState) (ids ids' : List ℕ) (before after : HeldBytes) (messages slice : List (List ℕ))
    (fault : Option FrameFault) (progress : Progress) (e : Ended) → ended_store e ≡ false
    → (h : Heard (Comes became p q) before after messages fault)
    → ((b : Deeds) → did b → Hears did' h.received (then_did (one_heard h.came.result h.received) b)) → IsHearing p q → slice ≡ messages
    → ProcessedAll (passage holds new q r did) ids ids' slice progress → IsQuiet q r → (new.is_honest → IsFirm holds → IsFirm new)
    → Run (passage holds new p r did') (waits ids before) e
life_worked M grows still holds new honest did did' became p q r ids ids' before after messages slice fault progress e inexact h onward hearing same w quiet firm_still =
    life_heard M grows holds new honest did did' became p q r ids before after messages slice fault e h onward hearing same
    (turned_life M still holds new did q r ids ids' (take progress.count slice) (drop progress.count slice) slice (lasts progress.next) progress.counts e inexact
    w.turned (sym (take-append-drop progress.count slice)) firm_still) quiet

pub ends_finished : (M : Model) → HistoriesGrow M → (holds new : KeeperState M) → (new.is_honest → holds.is_honest)
    → (did did' : Deeds → Type 0) (became : List PortEvent → Type 0) (p q r : PortState) (ids ids' : List ℕ) (before after : HeldBytes) (messages slice : List (List ℕ)) (fault : Option FrameFault)
    (place : ℕ) (progress : Progress) (turns : ℕ) (e : Ended) → FinishedBy e progress.next place fault
    → (h : Heard (Comes became p q) before after messages fault)
    → ((b : Deeds) → did b → Hears did' h.received (then_did (one_heard h.came.result h.received) b)) → IsHearing p q → slice ≡ messages
    → place ≡ before.at + length (joined (take progress.count slice))
    → ProcessedAll (passage holds new q r did) ids ids' slice progress → IsQuiet q r
    → EndsAs (passage holds new p r did') (waits ids before) turns e progress.counts
ends_finished M grows holds new honest did did' became p q r ids ids' before after messages slice fault place progress turns Destroyed by h onward
    hearing same place_is w quiet = (
      progress.count,
      _,
      halted_heard M grows holds new honest did did' became p q r ids ids' before after messages slice fault progress ByDestroy h onward hearing same by w quiet,
    )
ends_finished M grows holds new honest did did' became p q r ids ids' before after messages slice fault place progress turns (ZeroUnique at) by h onward
    hearing same place_is w quiet = (
      progress.count,
      subst (Halted (passage holds new p r did') (waits ids before) (record { count = progress.count; next = ByZero; counts = progress.counts })) (sym (by.1 ∙ place_is))
          (halted_heard M grows holds new honest did did' became p q r ids ids' before after messages slice fault progress ByZero h onward hearing same by.0 w quiet),
    )
ends_finished M grows holds new honest did did' became p q r ids ids' before after messages slice fault place progress turns (Frame f) by h onward hearing same
    place_is w quiet =
    record {
      after = waits ids' after;
      whole = whole_heard M grows holds new honest did did' became p q r ids ids' before after messages slice fault progress h onward hearing same by.0 w quiet;
      so = inl (h.took.bad ∙ by.1);
    }
ends_finished M grows holds new honest did did' became p q r ids ids' before after messages slice fault place progress turns End by h onward hearing same place_is
    w quiet = absurd by
ends_finished M grows holds new honest did did' became p q r ids ids' before after messages slice fault place progress turns Turns by h onward hearing same place_is
    w quiet = absurd by
ends_finished M grows holds new honest did did' became p q r ids ids' before after messages slice fault place progress turns PortFailed by h onward hearing same
    place_is w quiet = absurd by
ends_finished M grows holds new honest did did' became p q r ids ids' before after messages slice fault place progress turns (Store x) by h onward hearing same
    place_is w quiet = absurd by
ends_finished M grows holds new honest did did' became p q r ids ids' before after messages slice fault place progress turns Memory by h onward hearing same place_is
    w quiet = absurd by

pub finished_store : (e : Ended) (rest : Next) (place : ℕ) (fault : Option FrameFault) → FinishedBy e rest place fault → (ended_store e ≡ false)
    × (ended_port e ≡ false) × (e ≡ Turns → ⊥)
finished_store Destroyed rest place fault by = (refl, refl, (λ isnt. cc isnt))
finished_store (ZeroUnique at) rest place fault by = (refl, refl, (λ isnt. cc isnt))
finished_store (Frame f) rest place fault by = (refl, refl, (λ isnt. cc isnt))
finished_store End rest place fault by = absurd by
finished_store Turns rest place fault by = absurd by
finished_store PortFailed rest place fault by = absurd by
finished_store (Store x) rest place fault by = absurd by
finished_store Memory rest place fault by = absurd by

pub unheard_store : (e : Ended) (became : List PortEvent → Type 0) (p q : PortState) (h : HeldBytes) → NotHeard e became p q h → (ended_store e ≡ false)
    × FailedBy (ended_port e) p.failures q.failures × (e ≡ Turns → ⊥)
unheard_store End became p q h n = (refl, n.0.failures, (λ isnt. cc isnt))
unheard_store (Frame f) became p q h n = (refl, n.0.failures, (λ isnt. cc isnt))
unheard_store PortFailed became p q h n = (refl, n.failures, (λ isnt. cc isnt))
unheard_store Memory became p q h n = (refl, n.1.failures, (λ isnt. cc isnt))
unheard_store Destroyed became p q h n = absurd n
unheard_store Turns became p q h n = absurd n
unheard_store (ZeroUnique at) became p q h n = absurd n
unheard_store (Store fault) became p q h n = absurd n

pub fault_ends : (M : Model) → (pass : Passage M) (w : Waiting) (turns : ℕ) (e : Ended) (counts : SessionCounts) → IsFault e
    → pass.port'.receive_failures ≡ pass.port.receive_failures → EndsAs pass w turns e counts
fault_ends M pass w turns PortFailed counts is same = λ more. absurd (omega (arith, more, same))
fault_ends M pass w turns (Store x) counts is same = tt
fault_ends M pass w turns Memory counts is same = tt
fault_ends M pass w turns End counts is same = absurd is
fault_ends M pass w turns Destroyed counts is same = absurd is
fault_ends M pass w turns Turns counts is same = absurd is
fault_ends M pass w turns (Frame f) counts is same = absurd is
fault_ends M pass w turns (ZeroUnique at) counts is same = absurd is

pub fault_not_turns : (e : Ended) → IsFault e → e ≡ Turns → ⊥
fault_not_turns PortFailed is isnt = cc isnt
fault_not_turns (Store x) is isnt = cc isnt
fault_not_turns Memory is isnt = cc isnt
fault_not_turns End is isnt = is
fault_not_turns Destroyed is isnt = is
fault_not_turns Turns is isnt = is
fault_not_turns (Frame f) is isnt = is
fault_not_turns (ZeroUnique at) is isnt = is

-- ---- the counts at an end

pub none_below : (n : ℕ) → IsBelow none_counted n
none_below n = record {
  messages = omega arith;
  kept = omega arith;
  repeated = omega arith;
  seen = omega arith;
  bare = omega arith;
  silent
      = omega arith;
  interrupts = omega arith;
}

none_failed : (p r : PortState) → r.receive_failures ≡ p.receive_failures → receive_failed p r ≡ false
none_failed p r same = elim (r.receive_failures == p.receive_failures) as (λ x. (r.receive_failures == p.receive_failures) ≡ x → not x ≡ false)
    [ true ↦ λ _. refl | false ↦ λ is. absurd (eqb-false r.receive_failures p.receive_failures is same) ] refl

-- whether a receive failed since is the same where none failed before
pub failed_since : (p q r : PortState) → q.receive_failures ≡ p.receive_failures → receive_failed q r ≡ receive_failed p r
failed_since p q r same = ap (λ n. not (r.receive_failures == n)) same

pub fault_counts : (e : Ended) (p r : PortState) (counts : SessionCounts) → IsFault e → r.receive_failures ≡ p.receive_failures
    → None ≡ counts_at (receive_failed p r) e counts
fault_counts PortFailed p r counts is same =
    subst (λ b. None ≡ counts_at b PortFailed counts) (sym (none_failed p r same)) refl
fault_counts (Store x) p r counts is same = refl
fault_counts Memory p r counts is same = refl
fault_counts End p r counts is same = absurd is
fault_counts Destroyed p r counts is same = absurd is
fault_counts Turns p r counts is same = absurd is
fault_counts (Frame f) p r counts is same = absurd is
fault_counts (ZeroUnique at) p r counts is same = absurd is

pub finished_counts : (e : Ended) (rest : Next) (place : ℕ) (fault : Option FrameFault) (told : Option SessionCounts) (counts : SessionCounts)
    → FinishedBy e rest place fault → (b : Bool) → told ≡ Some counts → told ≡ counts_at b e counts
finished_counts Destroyed rest place fault told counts by b is = is
finished_counts (ZeroUnique at) rest place fault told counts by b is = is
finished_counts (Frame f) rest place fault told counts by b is = is
finished_counts End rest place fault told counts by b is = absurd by
finished_counts Turns rest place fault told counts by b is = absurd by
finished_counts PortFailed rest place fault told counts by b is = absurd by
finished_counts (Store x) rest place fault told counts by b is = absurd by
finished_counts Memory rest place fault told counts by b is = absurd by

-- the counts at an end, added to those before the last turn
pub counts_more : (e : Ended) (x y : Bool) (a b : SessionCounts) (told sum : Option SessionCounts) → x ≡ y → told ≡ counts_at x e b → sum ≡ plus_if a told
    → sum ≡ counts_at y e (plus a b)
counts_more PortFailed x true a b told sum same is sum_is =
    sum_is ∙ ap (plus_if a) (is ∙ ap (λ u. counts_at u PortFailed b) same)
counts_more PortFailed x false a b told sum same is sum_is =
    sum_is ∙ ap (plus_if a) (is ∙ ap (λ u. counts_at u PortFailed b) same)
counts_more End x y a b told sum same is sum_is = sum_is ∙ ap (plus_if a) is
counts_more Destroyed x y a b told sum same is sum_is = sum_is ∙ ap (plus_if a) is
counts_more Turns x y a b told sum same is sum_is = sum_is ∙ ap (plus_if a) is
counts_more (Frame f) x y a b told sum same is sum_is = sum_is ∙ ap (plus_if a) is
counts_more (ZeroUnique at) x y a b told sum same is sum_is = sum_is ∙ ap (plus_if a) is
counts_more (Store f) x y a b told sum same is sum_is = sum_is ∙ ap (plus_if a) is
counts_more Memory x y a b told sum same is sum_is = sum_is ∙ ap (plus_if a) is

below_at : (e : Ended) (x : Bool) (b : SessionCounts) (n : ℕ) → IsBelow b n → IfSome (counts_at x e b) (λ last. IsBelow last n)
below_at End x b n below = below
below_at Destroyed x b n below = below
below_at Turns x b n below = below
below_at (Frame f) x b n below = below
below_at (ZeroUnique at) x b n below = below
below_at PortFailed true b n below = below
below_at PortFailed false b n below = tt
below_at (Store f) x b n below = tt
below_at Memory x b n below = tt

pub counts_below : (e : Ended) (x : Bool) (b : SessionCounts) (n : ℕ) (told : Option SessionCounts) → IsBelow b n → told ≡ counts_at x e b
    → IfSome told (λ last. IsBelow last n)
counts_below e x b n told below is = subst (λ o. IfSome o (λ last. IsBelow last n)) (sym is) (below_at e x b n below)

-- the port failed exactly where it ended the session
pub failed_both : (e : Ended) (old new : ℕ) → FailedBy (ended_port e) old new → (e ≡ PortFailed) ↔ (old < new)
failed_both PortFailed old new by = ((λ _. by), (λ _. refl))
failed_both End old new by = ((λ isnt. absurd (cc isnt)), (λ more. absurd (omega (arith, by, more))))
failed_both Destroyed old new by = ((λ isnt. absurd (cc isnt)), (λ more. absurd (omega (arith, by, more))))
failed_both Turns old new by = ((λ isnt. absurd (cc isnt)), (λ more. absurd (omega (arith, by, more))))
failed_both (Frame f) old new by = ((λ isnt. absurd (cc isnt)), (λ more. absurd (omega (arith, by, more))))
failed_both (ZeroUnique at) old new by = ((λ isnt. absurd (cc isnt)), (λ more. absurd (omega (arith, by, more))))
failed_both (Store x) old new by = ((λ isnt. absurd (cc isnt)), (λ more. absurd (omega (arith, by, more))))
failed_both Memory old new by = ((λ isnt. absurd (cc isnt)), (λ more. absurd (omega (arith, by, more))))

-- ---- a session

pub whole_start : (M : Model) → (holds : KeeperState M) (did : Deeds → Type 0) (p : PortState) (ids : List ℕ) (h : HeldBytes) → did no_deeds → ids ≡ []
    → h ≡ record { bytes = []; at = 0; fault = None } → Whole (passage holds holds p p did) nothing_waits (waits ids h) none_counted
whole_start M holds did p ids h given none new =
    subst (λ (x : HeldBytes). Whole (passage holds holds p p did) nothing_waits (waits ids x) none_counted) (sym new)
    (subst (λ (x : List ℕ). Whole (passage holds holds p p did) nothing_waits (record { pending = x; bytes = []; at = 0 }) none_counted) (sym none)
    (whole_none M holds did p given))

-- nothing was done
pub life_none : (M : Model) → StillStands M → (holds : KeeperState M) (did : Deeds → Type 0) (p : PortState) (w : Waiting) (e : Ended) → ended_store e ≡ false → did no_deeds
    → Run (passage holds holds p p did) w e
life_none M still holds did p w e inexact none = record {
  received = [];
  came = consumes_none p.coming;
  broken = broken_none M holds holds (Hears did []) p p w.pending (cut (w.bytes ++ [])).0 e inexact no_deeds (none, refl) refl refl (replied_none p)
      (looked_none M holds (IsIntact holds e)) (λ rows records is. is) (λ firm s g t so. firm_leaves M still holds s g t firm so);
}

-- a turn more, and its counts
pub whole_step : (M : Model) → HistoriesGrow M → CutJoins → (holds mid new : KeeperState M) (did did' did'' : Deeds → Type 0) (p q r : PortState)
    (w w' w'' : Waiting) (counts counts' sum : SessionCounts) → sum ≡ plus counts counts'
    → (one : Whole (passage holds mid p q did) w w' counts) → Whole (passage mid new q r did') w' w'' counts'
    → (new.is_honest → mid.is_honest) → ((b : Deeds) → did' b → did'' (then_did one.turned.work.deeds b))
    → Whole (passage holds new p r did'') w w'' sum
whole_step M grows joins holds mid new did did' did'' p q r w w' w'' counts counts' sum is one two honest_too onward =
    subst (Whole (passage holds new p r did'') w w'') (sym is)
    (whole_more M grows joins holds mid new did did' did'' p q r w w' w'' counts counts' one two honest_too onward)
