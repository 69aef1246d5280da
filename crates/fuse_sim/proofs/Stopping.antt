-- Faults at the events that are run, and the keepers that they leave.
use Rattle.std.proofs.Common.{◌≡◌, inl, inr, ℕ, zero, suc, ◌+◌, ◌-◌, ◌≤◌, ◌<◌, Bool, true, false, List, [], ◌∷◌, ◌++◌, length, take, drop, All, Option, Some}
use Rattle.std.proofs.Common.{None, IsSomeAnd, IfSome, Result, Ok, Err, is_err, OnOk, slice_get, refl, sym, ap, subst, ◌∙◌, append_assoc, length-append, arith}
use Rattle.std.proofs.Math.Seq.{take-append_seam}
use Rattle.std.proofs.lemmas.List.{take-append-drop, take_all, length-take-le, length-drop, drop-drop}
use Rattle.std.proofs.lemmas.List.Elements.{All-append, All-pop}
use Rattle.fuse_request.specs.Opcodes.{Service}
use Rattle.fuse_keeper.specs.declared.fault.StoreFault.{StoreFault}
use Rattle.fuse_keeper.specs.History.{History}
use Rattle.fuse_keeper.specs.Model.{Model}
use Rattle.fuse_keeper.specs.KeeperState.{KeepsHeld, IsCount}
use Rattle.fuse_sim.specs.declared.event.Fate.{Fate}
use Rattle.fuse_sim.specs.declared.event.Fate.TheVariants.{Answered, AnswerLost, DiedBeforeCommit, DiedAfterCommit}
use Rattle.fuse_sim.specs.declared.event.Event.{Event}
use Rattle.fuse_sim.specs.declared.event.DriveFault.{DriveFault}
use Rattle.fuse_sim.specs.declared.group.Group.{Group}
use Rattle.fuse_sim.specs.declared.event.DriveFault.TheVariants.{NotAMessage, ZeroUnique, Store, Memory}
use Rattle.fuse_sim.specs.Driving.{told_in, IsFit, event_of, StandsIn, became_in, CausedBy, is_store, IsStoreFault, LeftBy, dies, dies_before, deaths, Calm}
use Rattle.fuse_sim.specs.Twice.{Seen}
use Rattle.fuse_sim.specs.inner.Running.{IsGroupRun, BeginsGroup, GathersEvents, StopsAt, RefusesAfterDeath, StopsAtEvent}
use Rattle.fuse_sim.proofs.Openings.{became_itself, deaths_first, deaths-append, medium_itself, medium_some}

-- what is so of an Ok, where there was no error
pub where_ok : {X E : Type 0} (r : Result X E) (P : Type 0) → is_err r ≡ false → OnOk r P → P
where_ok (Ok x) P isnt so = so
where_ok (Err e) P isnt so = absurd (cc isnt)

-- ---- places

pub get_middle : (prefix rest : List Event) (e : Event) → slice_get (prefix ++ e ∷ rest) (length prefix) ≡ Some e
get_middle [] rest e = refl
get_middle (x ∷ prefix) rest e = get_middle prefix rest e

pub get_dropped : (events : List Event) (at : ℕ) (e : Event) (rest : List Event) → drop at events ≡ e ∷ rest → slice_get events at ≡ Some e
get_dropped events zero e rest is = ap (λ l. slice_get l 0) is
get_dropped [] (suc at) e rest is = absurd (cc is)
get_dropped (x ∷ events) (suc at) e rest is = get_dropped events at e rest is

first_of : (events rest : List Event) (at : ℕ) → drop at events ≡ rest → BeginsGroup rest → IsSomeAnd (slice_get events at) IsFit
first_of events [] at is begins = absurd begins
first_of events (e ∷ rest) at is begins = subst (λ o. IsSomeAnd o IsFit) (sym (get_dropped events at e rest is)) begins.0

pub begins_fit : (events : List Event) (at : ℕ) → BeginsGroup (drop at events) → IsSomeAnd (slice_get events at) IsFit
begins_fit events at begins = first_of events (drop at events) at refl begins

-- ---- the keeper

some_failed : {K : Type 0} (failed : K → Bool) (k : Option K) (b : Bool) → IsSomeAnd k (λ x. failed x ≡ b) → IfSome k (λ x. failed x ≡ b)
some_failed failed None b is = absurd is
some_failed failed (Some k) b is = is

not_none : {K : Type 0} (P : K → Type 0) (k : Option K) → IsSomeAnd k P → k ≡ None → ⊥
not_none P None is none = is
not_none P (Some k) is none = absurd (cc none)

-- ---- faults

-- no keeper was touched
pub stops_here : (M : Model) → {K : Type 0} (seen : Seen M K) (k : Option K)
    (events : List Event) (at : ℕ) (fault : DriveFault)
    → event_of fault ≡ at → is_store fault ≡ false → IsSomeAnd (slice_get events at) (CausedBy fault) → IsSomeAnd k (λ x. (seen.told x).has_failed ≡ false)
    → IsCount seen.became → StopsAtEvent seen k k events at fault
stops_here M seen k events at fault place kind caused going law = record {
  named = subst (λ n. IsSomeAnd (slice_get events n) (CausedBy fault)) (sym place) caused;
  earlier = λ each. subst (λ n. All IsFit (take n events)) (sym place) each;
  left = subst (λ b. LeftBy (told_in seen.told k) b ((event_of fault ≡ at) × KeepsHeld (told_in seen.told k) (told_in seen.told k))) (sym kind)
      (λ _. (place, λ rows records held. held));
  answered = λ store. absurd (cc (kind, store));
  stayed = λ _. (place, became_itself seen.became law (λ x. (seen.told x).has_failed ≡ false) k going);
  emptied = λ none. absurd (not_none (λ x. (seen.told x).has_failed ≡ false) k going none);
  has_failed = some_failed (λ x. (seen.told x).has_failed) k (is_store fault) (subst (λ b. IsSomeAnd k (λ x. (seen.told x).has_failed ≡ b)) (sym kind) going);
  was_honest = λ is. is;
  firm = λ _ _ so. so;
  medium = λ _. medium_itself M seen.told k;
}

-- the store answered a fault to a group
pub stops_store : (M : Model) → {K : Type 0} (seen : Seen M K) (k k' : Option K)
    (events : List Event) (at : ℕ) (fault : StoreFault)
    → IsSomeAnd (slice_get events at) IsFit → IsSomeAnd k' (λ x. (seen.told x).has_failed ≡ true)
    → ((told_in seen.told k').is_clean → KeepsHeld (told_in seen.told k) (told_in seen.told k')) → ((told_in seen.told k').is_honest → (told_in seen.told k).is_honest)
    → ((told_in seen.told k').is_clean → (s : M.State) (h : History) (t : List ℕ) → StandsIn seen.told k s h t → (told_in seen.told k).may_answer fault)
    → became_in seen.became k k' 0 → ((told_in seen.told k).in_memory → (told_in seen.told k').in_memory)
    → StopsAtEvent seen k k' events at (Store at fault)
stops_store M seen k k' events at fault fit has keeps was answered same medium = record {
  named = fit;
  earlier = λ each. each;
  left = λ is. (refl, keeps is);
  answered = λ _. answered;
  stayed = λ _. (refl, same);
  emptied = λ none. absurd (not_none (λ x. (seen.told x).has_failed ≡ true) k' has none);
  has_failed = some_failed (λ x. (seen.told x).has_failed) k' true has;
  was_honest = was;
  firm = λ isnt. absurd (cc isnt);
  medium = λ _. medium_some M seen.told k k' medium;
}

caused_by_store : (fault : DriveFault) (e : Event) → is_store fault ≡ true → IsFit e → CausedBy fault e
caused_by_store (NotAMessage n) e is fit = absurd (cc is)
caused_by_store (ZeroUnique n) e is fit = absurd (cc is)
caused_by_store (Store n fault) e is fit = fit
caused_by_store (Memory n) e is fit = absurd (cc is)

refused_at : {K : Type 0} (became : K → K → ℕ → Type 0) (refuses : K → StoreFault → Type 0) (k q : Option K) (fault : DriveFault) (events : List Event)
    (at n : ℕ) (e : Event)
    → event_of fault ≡ n → slice_get events n ≡ Some e → dies e.fate ≡ true → became_in became k q 0 → deaths (take n events) ≡ deaths (take at events)
    → IsSomeAnd q (λ x. IsStoreFault (refuses x) fault) → RefusesAfterDeath became refuses k events at fault
refused_at became refuses k q fault events at n e place there died same calm refused = record {
  died = subst (λ o. IsSomeAnd o (λ (x : Event). dies x.fate ≡ true)) (sym (ap (slice_get events) place ∙ there)) died;
  keeper = q;
  same = same;
  calm = ap (λ m. deaths (take m events)) place ∙ calm;
  refused = refused;
}

-- a restart left no keeper: it was after the last of some events
pub stops_restart : (M : Model) → {K : Type 0} (seen : Seen M K) (k q k' : Option K)
    (events : List Event) (at n : ℕ) (fault : DriveFault) (e : Event)
    → k' ≡ None → IsSomeAnd q (λ x. IsStoreFault (seen.may_refuse x) fault) → is_store fault ≡ true → event_of fault ≡ n → slice_get events n ≡ Some e → IsFit e
    → dies e.fate ≡ true → (All IsFit (take at events) → All IsFit (take n events))
    → became_in seen.became k q 0 → deaths (take n events) ≡ deaths (take at events) → StopsAtEvent seen k k' events at fault
stops_restart M seen k q k' events at n fault e none refused kind place there fit died earlier same calm = record {
  named = subst (λ m. IsSomeAnd (slice_get events m) (CausedBy fault)) (sym place)
      (subst (λ o. IsSomeAnd o (CausedBy fault)) (sym there) (caused_by_store fault e kind fit));
  earlier = λ each. subst (λ m. All IsFit (take m events)) (sym place) (earlier each);
  left = subst (λ b. LeftBy (told_in seen.told k') b ((event_of fault ≡ at) × KeepsHeld (told_in seen.told k) (told_in seen.told k'))) (sym kind)
      (λ is. absurd (subst (λ o. (told_in seen.told o).is_clean) none is));
  answered = λ _ is. absurd (subst (λ o. (told_in seen.told o).is_clean) none is);
  stayed = λ there. absurd (there none);
  emptied = λ _. refused_at seen.became seen.may_refuse k q fault events at n e place there died same calm refused;
  has_failed = subst (λ o. IfSome o (λ x. (seen.told x).has_failed ≡ is_store fault)) (sym none) tt;
  was_honest = λ is. absurd (subst (λ o. (told_in seen.told o).is_honest) none is);
  firm = λ isnt. absurd (cc (kind, isnt));
  medium = λ there. absurd (there none);
}

-- ---- the last event of a group

pub record LastDies (run : List Event) : Type 0 where
  pub earlier : List Event
  pub one : Event
  pub parts : run ≡ earlier ++ one ∷ []
  pub died : dies one.fate ≡ true
  pub calm : deaths earlier ≡ 0

last_more : (e : Event) (run : List Event) → Calm e → LastDies run → LastDies (e ∷ run)
last_more e run calm last = record {
  earlier = e ∷ last.earlier;
  one = last.one;
  parts = ap (λ (x : List Event). e ∷ x) last.parts;
  died = last.died;
  calm = deaths_first e last.earlier false calm ∙ last.calm;
}

last_dies : (died : Bool) (run : List Event) → died ≡ true → IsGroupRun died run → LastDies run
last_dies died [] is so = absurd (cc (is, so))
last_dies died (e ∷ run) is so = elim so [
  | inl more ↦ last_more e run more.0 (last_dies died run is more.1)
  | inr last ↦ record { earlier = []; one = e; parts = ap (λ (x : List Event). e ∷ x) last.2; died = ap dies last.1; calm = refl }
]

pub record DiesAt (events : List Event) (at n : ℕ) : Type 0 where
  pub one : Event
  pub there : slice_get events n ≡ Some one
  pub fit : IsFit one
  pub died : dies one.fate ≡ true
  pub calm : deaths (take n events) ≡ deaths (take at events)
  pub earlier : All IsFit (take at events) → All IsFit (take n events)

dies_in : (events prefix earlier others : List Event) (e : Event) (at n : ℕ) → events ≡ prefix ++ ((earlier ++ e ∷ []) ++ others) → take at events ≡ prefix
    → n ≡ length prefix + length earlier → All IsFit (earlier ++ e ∷ []) → dies e.fate ≡ true
    → deaths earlier ≡ 0 → DiesAt events at n
dies_in events prefix earlier others e at n parts first place fit died calm =
    let pre = prefix ++ earlier in
    let whole : events ≡ pre ++ e ∷ others = parts ∙ ap (λ (x : List Event). prefix ++ x) (append_assoc earlier (e ∷ []) others)
    ∙ sym (append_assoc prefix earlier (e ∷ others)) in
    let len : n ≡ length pre = place ∙ sym (length-append prefix earlier) in
    let up_to : take n events ≡ pre = ap (λ x. take n x) whole ∙ ap (λ m. take m (pre ++ e ∷ others)) len ∙ take-append_seam pre (e ∷ others) in
    let popped = All-pop IsFit (earlier ++ e ∷ []) earlier (Some e) refl fit in
    record {
      one = e;
      there = ap (λ x. slice_get x n) whole ∙ ap (slice_get (pre ++ e ∷ others)) len ∙ get_middle pre others e;
      fit = popped.1;
      died = died;
      calm = omega (arith, ap deaths up_to, ap deaths first, deaths-append prefix earlier, calm);
      earlier = λ each. subst (All IsFit) (sym up_to)
          (All-append IsFit prefix earlier (subst (All IsFit) first each) popped.0);
    }

-- the group that begins at a place ends with an event at which the server dies
pub dies_at : (events : List Event) (at count : ℕ) (died : Bool) → at + count ≤ length events → IsGroupRun died (take count (drop at events))
    → All IsFit (take count (drop at events)) → died ≡ true → DiesAt events at (at + count - 1)
dies_at events at count died within so fit is =
    let run = take count (drop at events) in
    let last = last_dies died run is so in
    let parts : events ≡ take at events ++ ((last.earlier ++ last.one ∷ []) ++ drop count (drop at events)) =
    sym (take-append-drop at events) ∙ ap (λ (x : List Event). take at events ++ x) (sym (take-append-drop count (drop at events)))
    ∙ ap (λ (x : List Event). take at events ++ (x ++ drop count (drop at events))) last.parts in
    let before_it : length (take at events) ≡ at = length-take-le at events (omega (arith, within)) in
    let in_it : length run ≡ count = length-take-le count (drop at events) (omega (arith, within, length-drop at events)) in
    dies_in events (take at events) last.earlier (drop count (drop at events)) last.one at (at + count - 1) parts refl
    (omega (arith, before_it, in_it, ap length last.parts, length-append last.earlier (last.one ∷ []))) (subst (All IsFit) last.parts fit) last.died last.calm

-- ---- slices

pub whole_rest : (events : List Event) (at : ℕ) → take (length events - at) (drop at events) ≡ drop at events
whole_rest events at = take_all (length events - at) (drop at events) (omega (arith, length-drop at events))

pub run_slice : (events : List Event) (at count : ℕ) → take (at + count - at) (drop at events) ≡ take count (drop at events)
run_slice events at count = let same : at + count - at ≡ count = omega arith in ap (λ n. take n (drop at events)) same

-- what was read off the rest of the events
pub group_read : (M : Model) (events : List Event) (at count : ℕ) (group : Group) → count ≡ length group.classes.items
    → GathersEvents M (take (length group.classes.items) (take (length events - at) (drop at events))) group → GathersEvents M (take count (drop at events)) group
group_read M events at count group same g =
    subst (λ n. GathersEvents M (take n (drop at events)) group) (sym same)
    (subst (λ x. GathersEvents M (take (length group.classes.items) x) group) (whole_rest events at) g)

pub group_stops : (V : Service) (events : List Event) (at count : ℕ) (group : Group) → count ≡ length group.classes.items
    → StopsAt V group (drop (length group.classes.items) (take (length events - at) (drop at events))) → StopsAt V group (drop (at + count) events)
group_stops V events at count group same stops =
    subst (StopsAt V group) (drop-drop count at events)
    (subst (λ n. StopsAt V group (drop n (drop at events))) (sym same)
    (subst (λ x. StopsAt V group (drop (length group.classes.items) x)) (whole_rest events at) stops))

begins_some : (events : List Event) → BeginsGroup events → 0 < length events
begins_some [] begins = absurd begins
begins_some (e ∷ events) begins = omega arith

-- the group lies within the events
pub within_rest : (events : List Event) (at count : ℕ) → BeginsGroup (drop at events) → count ≤ length (take (length events - at) (drop at events))
    → at + count ≤ length events
within_rest events at count begins within = omega (arith, within, ap length (whole_rest events at), length-drop at events, begins_some (drop at events) begins)

pub lost_dies : (fate : Fate) → dies_before fate ≡ true → dies fate ≡ true
lost_dies Answered is = absurd (cc is)
lost_dies AnswerLost is = absurd (cc is)
lost_dies DiedBeforeCommit is = refl
lost_dies DiedAfterCommit is = refl
