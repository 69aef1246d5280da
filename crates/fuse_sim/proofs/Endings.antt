-- What holds when events have been run, to their end or to a fault.
use Rattle.std.proofs.Common.{◌≡◌, ℕ, ◌+◌, ◌≤◌, Bool, true, false, ◌||◌, List, [], ◌++◌, map, take, drop, Option, Some, None, IsSomeAnd, if◌then◌else◌, length}
use Rattle.std.proofs.Common.{refl, sym, ap, subst, ◌∙◌, arith}
use Rattle.std.proofs.Math.Seq.{take-add}
use Rattle.std.proofs.lemmas.List.{take_all, append-nil, length-map, take-append-drop, drop-drop}
use Rattle.std.proofs.lemmas.List.Elements.{All-append, All-nil}
use Rattle.fuse_request.specs.Opcodes.{Service}
use Rattle.fuse_keeper.specs.History.{History, HistoriesGrow, Includes, is_in}
use Rattle.fuse_keeper.specs.History.{said}
use Rattle.fuse_keeper.specs.Group.{handed_to}
use Rattle.fuse_keeper.specs.Performance.{Performance, performances_of, IsPerformanceLog}
use Rattle.fuse_keeper.specs.Model.{Model}
use Rattle.fuse_keeper.specs.Stands.{Records, StillStands}
use Rattle.fuse_keeper.specs.KeeperState.{KeeperState, StandsFor, KeepsHeld, Reports, IsCount, IsFirm}
use Rattle.fuse_sim.specs.declared.event.Event.{Event}
use Rattle.fuse_sim.specs.declared.event.Outcome.{Outcome}
use Rattle.fuse_sim.specs.declared.event.DriveFault.{DriveFault}
use Rattle.fuse_sim.specs.Driving.{commits_in, committed, performs_in, outcomes_of, bytes_given, settled_by, NoneReused, told_in, StandsIn, became_in, deaths}
use Rattle.fuse_sim.specs.Driving.{Opened, AnsweredBy}
use Rattle.fuse_sim.specs.Driving.{OfRestart, IsFit, event_of, before, is_store, LeftBy, OutcomesBegin, StoodBefore, KeepsMedium, performed_in}
use Rattle.fuse_sim.specs.AfterEvents.{DeletesHanded}
use Rattle.fuse_sim.specs.HandedOn.{performances, handed_on_in, AsksUpTo, AskedSome}
use Rattle.fuse_sim.specs.inner.HandedBy.{pending_by, handed_on, IsOneGroup}
use Rattle.fuse_sim.specs.LeftRecords.{RecordsLeft, HoldsRecords}
use Rattle.fuse_sim.specs.Twice.{Seen}
use Rattle.fuse_sim.specs.inner.Running.{stage, Moved, Opens, StopsAtEvent, AsksGroup, StopsAsking}
use Rattle.fuse_sim.proofs.Settled.{is_in-append, stands_later, stands_kept}
use Rattle.fuse_sim.proofs.Cutting.{none_ends, ends_more}
use Rattle.fuse_sim.proofs.Ledgers.{includes_none, pending-append, pending_settled, performances_more}
use Rattle.fuse_sim.proofs.Driven.{settled_all, handed_came}
use Rattle.fuse_sim.proofs.AskedGroups.{performed_then}
use Rattle.fuse_sim.proofs.Moves.{ran_more, ran_none, begin_all}
use Rattle.fuse_sim.proofs.Openings.{became_then, opened_more, opened_still, stood_before_more, stood_still, medium_then, medium_left}

-- events, and then others
moved_parts : (M : Model) → HistoriesGrow M → (holds mid holds' : KeeperState M) (es es' others others' : List Event) (p p' : List ℕ)
    (new new' : List (Option Outcome)) → (holds'.is_honest → mid.is_honest) → others ≡ es' ++ others'
    → Moved (stage holds [] []) (stage mid p new) es others → Moved (stage mid p new) (stage holds' p' new') es' others'
    → Moved (stage holds [] []) (stage holds' p' new') (es ++ es') others'
moved_parts M grows holds mid holds' es es' others others' p p' new new' was parts one next =
    let two = subst (λ q. Moved (stage mid q new) (stage holds' p' new') es' others') one.pending next in
    let cut = one.ends es' others' parts two.fit in
    record {
      fit = All-append IsFit es es' one.fit two.fit;
      ran = ran_more M grows holds mid holds' [] es es' [] new new' cut was one.ran two.ran;
      pending = two.pending ∙ sym (pending-append M.service [] es es' cut);
      ends = ends_more M.service es es' others others' one.ends two.ends parts two.fit (λ ys fit. All-append IsFit es' ys two.fit fit);
    }

rest_at : (events : List Event) (at n : ℕ) → drop at events ≡ take n (drop at events) ++ drop (at + n) events
rest_at events at n = sym (take-append-drop n (drop at events)) ∙ ap (λ (xs : List Event). take n (drop at events) ++ xs) (drop-drop n at events)

pub moved_more : (M : Model) → HistoriesGrow M → (holds mid holds' : KeeperState M) (events : List Event) (at n : ℕ) (p p' : List ℕ)
    (new new' : List (Option Outcome)) → (holds'.is_honest → mid.is_honest)
    → Moved (stage holds [] []) (stage mid p new) (take at events) (drop at events)
    → Moved (stage mid p new) (stage holds' p' new') (take n (drop at events)) (drop (at + n) events)
    → Moved (stage holds [] []) (stage holds' p' new') (take (at + n) events) (drop (at + n) events)
moved_more M grows holds mid holds' events at n p p' new new' was one next =
    subst (λ es. Moved (stage holds [] []) (stage holds' p' new') es (drop (at + n) events)) (sym (take-add at n events))
    (moved_parts M grows holds mid holds' (take at events) (take n (drop at events)) (drop at events) (drop (at + n) events) p p' new new' was
    (rest_at events at n) one next)

-- none were run yet
pub moved_none : (M : Model) (k : KeeperState M) (others : List Event) (p : List ℕ) (new : List (Option Outcome)) → p ≡ [] → new ≡ []
    → Moved (stage k [] []) (stage k p new) [] others
moved_none M k others p new same is = record { fit = All-nil IsFit; ran = ran_none M k [] [] new is; pending = same; ends = none_ends M.service others }

-- what is pending was settled by the events
pending_within : (V : Service) (p : List ℕ) (es : List Event) → p ≡ pending_by V [] es → (t : List ℕ) → Includes (settled_by V t es) p
pending_within V p es is t = subst (Includes (settled_by V t es)) (sym is) (pending_settled V t [] es (includes_none t))

-- all were run
pub moved_all : (M : Model) (holds holds' : KeeperState M) (events others : List Event) (at : ℕ) (p : List ℕ) (new : List (Option Outcome))
    → length events ≤ at
    → Moved (stage holds [] []) (stage holds' p new) (take at events) others → Moved (stage holds [] []) (stage holds' p new) events others
moved_all M holds holds' events others at p new past moved = subst (λ es. Moved (stage holds [] []) (stage holds' p new) es others) (take_all at events past) moved

-- what stands in the end
moved_kept : (M : Model) (holds holds' : KeeperState M) (es others : List Event) (p : List ℕ) (new : List (Option Outcome))
    → Moved (stage holds [] []) (stage holds' p new) es others
    → holds'.is_honest → (s : M.State) (h : History) (t : List ℕ) → StandsFor holds s h t → NoneReused M.service t es
    → StandsFor holds' s (committed M.service h es) (t ++ handed_on M.service [] es)
moved_kept M holds holds' es others p new moved is s h t so none = moved.ran.stands is s h t t so (λ i there. there) (includes_none t) none

pub moved_stands : (M : Model) → StillStands M → (holds holds' : KeeperState M) (es others : List Event) (p : List ℕ) (new : List (Option Outcome))
    → Moved (stage holds [] []) (stage holds' p new) es others
    → holds'.is_honest → (s : M.State) (h : History) (t : List ℕ) → StandsFor holds s h t → NoneReused M.service t es
    → StandsFor holds' s (committed M.service h es) (settled_by M.service t es)
moved_stands M still holds holds' es others p new moved is s h t so none =
    stands_later M still holds' s (committed M.service h es) (t ++ handed_on M.service [] es) (settled_by M.service t es)
    (settled_all M.service t t [] es (λ i there. there) (includes_none t))
    (moved_kept M holds holds' es others p new moved is s h t so none)

pub moved_outcomes : (M : Model) (holds holds' : KeeperState M) (es others : List Event) (p : List ℕ) (new : List (Option Outcome))
    → Moved (stage holds [] []) (stage holds' p new) es others
    → holds'.is_honest → (s : M.State) (h : History) (t : List ℕ) → StandsFor holds s h t → NoneReused M.service t es
    → map bytes_given new ≡ outcomes_of M s h es
moved_outcomes M holds holds' es others p new moved is s h t so none = ap (map bytes_given) moved.ran.items
    ∙ begin_all M s h es (map bytes_given moved.ran.added) (length-map moved.ran.added bytes_given ∙ moved.ran.count)
    (moved.ran.outcomes is es [] (sym (append-nil es)) s h t t so (λ i there. there) (includes_none t) none)

-- up to a message that comes again
pub moved_outcomes_before : (M : Model) (holds holds' : KeeperState M) (es others : List Event) (p : List ℕ) (new : List (Option Outcome))
    → Moved (stage holds [] []) (stage holds' p new) es others
    → holds'.is_honest → (earlier later : List Event) → es ≡ earlier ++ later → (s : M.State) (h : History) (t : List ℕ) → StandsFor holds s h t
    → NoneReused M.service t earlier → OutcomesBegin M s h earlier (map bytes_given new)
moved_outcomes_before M holds holds' es others p new moved is earlier later parts s h t so none =
    subst (λ os. OutcomesBegin M s h earlier (map bytes_given os)) (sym moved.ran.items)
    (moved.ran.outcomes is earlier later parts s h t t so (λ i there. there) (includes_none t) none)

pub moved_count : (M : Model) (holds holds' : KeeperState M) (es others : List Event) (p : List ℕ) (new : List (Option Outcome))
    → Moved (stage holds [] []) (stage holds' p new) es others → length new ≡ length es
moved_count M holds holds' es others p new moved = ap length moved.ran.items ∙ moved.ran.count

pub moved_opened : (M : Model) → StillStands M → {K : Type 0} (told : K → KeeperState M) (became : K → K → ℕ → Type 0) → IsCount became
    → (old mid new : Option K) (events : List Event) (at n : ℕ) (p : List ℕ) (outcomes : List (Option Outcome))
    → Moved (stage (told_in told old) [] []) (stage (told_in told mid) p outcomes) (take at events) (drop at events) → Opened told became old mid (take at events)
    → Opens told became mid new p (take n (drop at events)) → Opened told became old new (take (at + n) events)
moved_opened M still told became law old mid new events at n p outcomes moved opened opens =
    subst (Opened told became old new) (sym (take-add at n events))
    (opened_more M told became law old mid new (take at events) (take n (drop at events)) p
    (pending_within M.service p (take at events) moved.pending)
    (moved_stands M still (told_in told old) (told_in told mid) (take at events) (drop at events) p outcomes moved) opened opens)

-- which records are left
kept_or_gone : {A : Type 0} (b : Bool) (o now : Option A) → now ≡ (if b then None else o) → (b ≡ true → ⊥) → now ≡ o
kept_or_gone true o now is isnt = absurd (isnt refl)
kept_or_gone false o now is isnt = is

pub moved_records : (M : Model) (holds holds' : KeeperState M) (es others : List Event) (p : List ℕ) (new : List (Option Outcome))
    → Moved (stage holds [] []) (stage holds' p new) es others
    → Reports holds holds' (λ rows records. HoldsRecords holds' (RecordsLeft M.service (performances M.service es) es records))
moved_records M holds holds' es others p new moved is rows records held rowed =
    let done = moved.ran.records is rows records held rowed in
    record {
      rows = done.rows;
      records = done.records;
      held = done.held;
      rowed = done.rowed;
      left = record {
        gone = λ none i was. done.left.gone [] (includes_none []) none i was;
        others = λ i isnt. kept_or_gone (is_in (handed_on M.service [] es) i) (records i) (done.records i) (done.left.others i isnt)
            (λ there. absurd (let came = handed_came M.service es i there in cc (came, isnt)));
      };
    }

pub not_in_both : (xs ys : List ℕ) (i : ℕ) → is_in xs i ≡ false → is_in ys i ≡ false → is_in (xs ++ ys) i ≡ false
not_in_both xs ys i one two = is_in-append xs ys i ∙ ap (λ b. b || is_in ys i) one ∙ two

same_records : (M : Model) → {K : Type 0} (told : K → KeeperState M) (k : Option K) (x y : M.Rows) (p q : Records)
    → ((k : K) (x y : M.Rows) (p q : Records) → (told k).holds x p → (told k).holds y q → (x ≡ y) × ((i : ℕ) → p i ≡ q i))
    → (told_in told k).holds x p → (told_in told k).holds y q → (i : ℕ) → p i ≡ q i
same_records M told None x y p q one first second i = absurd first
same_records M told (Some k) x y p q one first second i = (one k x y p q first second).1 i

pub moved_left : (M : Model) → {K : Type 0} (told : K → KeeperState M) (old new : Option K) (es others : List Event) (p : List ℕ)
    (outcomes : List (Option Outcome))
    → ((k : K) (x y : M.Rows) (p q : Records) → (told k).holds x p → (told k).holds y q → (x ≡ y) × ((i : ℕ) → p i ≡ q i))
    → Moved (stage (told_in told old) [] []) (stage (told_in told new) p outcomes) es others
    → (told_in told new).is_honest → (s : M.State) (h : History) (t : List ℕ) → StandsIn told old s h t → NoneReused M.service t es → (rows : M.Rows) (records : Records)
    → (told_in told new).holds rows records
    → (i : ℕ) → is_in t i ≡ false → is_in (handed_on_in (performances M.service es)) i ≡ false → records i ≡ said M s (committed M.service h es) i
moved_left M told old new es others p outcomes one moved is s h t so none rows records held i unsettled isnt =
    let left = moved_kept M (told_in told old) (told_in told new) es others p outcomes moved is s h t so none in
    same_records M told new rows left.rows records left.records one held left.held i
    ∙ left.stands.kept i (not_in_both t (handed_on M.service [] es) i unsettled isnt)

-- ---- a fault

left_map : (M : Model) → {K : Type 0} (told : K → KeeperState M) (b : Bool) (k : Option K) (P Q : Type 0)
    → ((told_in told k).is_clean → (told_in told k).is_honest) → LeftBy (told_in told k) b P → ((told_in told k).is_honest → P → Q)
    → LeftBy (told_in told k) b Q
left_map M told true k P Q too left f = λ is. f (too is) (left is)
left_map M told false k P Q too left f = λ is. f is (left is)

pub clean_too : (M : Model) → {K : Type 0} (told : K → KeeperState M) (k : Option K) → ((x : K) → (told x).is_clean → (told x).is_honest)
    → (told_in told k).is_clean → (told_in told k).is_honest
clean_too M told None f is = is
clean_too M told (Some k) f is = f k is

-- where the events before it were run
stopped_at : (M : Model) → StillStands M → {K : Type 0} (told : K → KeeperState M) (old mid : Option K) (events : List Event) (at : ℕ) (fault : DriveFault) (p : List ℕ)
    (outcomes : List (Option Outcome))
    → Moved (stage (told_in told old) [] []) (stage (told_in told mid) p outcomes) (take at events) (drop at events) → event_of fault ≡ at
    → (told_in told mid).is_honest
    → (s : M.State) (h : History) (t : List ℕ) → StandsIn told old s h t → NoneReused M.service t (before fault events)
    → StandsIn told mid s (committed M.service h (before fault events)) (settled_by M.service t (before fault events))
stopped_at M still told old mid events at fault p outcomes moved place is s h t so none =
    let same : before fault events ≡ take at events = ap (λ n. take n events) place in
    subst (λ es. StandsIn told mid s (committed M.service h es) (settled_by M.service t es)) (sym same)
    (moved_stands M still (told_in told old) (told_in told mid) (take at events) (drop at events) p outcomes moved is s h t so (subst (NoneReused M.service t) same none))

pub stopped : (M : Model) → StillStands M → {K : Type 0} (seen : Seen M K) (old mid new : Option K)
    (events : List Event) (at : ℕ) (fault : DriveFault) (p : List ℕ) (outcomes : List (Option Outcome))
    → ((k : K) → (seen.told k).is_clean → (seen.told k).is_honest) → Moved (stage (told_in seen.told old) [] []) (stage (told_in seen.told mid) p outcomes) (take at events) (drop at events) → StopsAtEvent seen mid new events at fault
    → (s : M.State) (h : History) (t : List ℕ) → StandsIn seen.told old s h t → NoneReused M.service t (before fault events)
    → LeftBy (told_in seen.told new) (is_store fault) (StandsIn seen.told new s (committed M.service h (before fault events)) (settled_by M.service t (before fault events)))
stopped M still seen old mid new events at fault p outcomes too moved stops s h t so none =
    left_map M seen.told (is_store fault) new ((event_of fault ≡ at) × KeepsHeld (told_in seen.told mid) (told_in seen.told new))
    (StandsIn seen.told new s (committed M.service h (before fault events)) (settled_by M.service t (before fault events)))
    (clean_too M seen.told new too) stops.left (λ is left.
    stands_kept M (told_in seen.told mid) (told_in seen.told new) s (committed M.service h (before fault events)) (settled_by M.service t (before fault events)) left.1
    (stopped_at M still seen.told old mid events at fault p outcomes moved left.0 (stops.was_honest is) s h t so none))

-- the records that a fault leaves are those that the events before it left
pub stopped_records : (M : Model) → {K : Type 0} (seen : Seen M K) (old mid new : Option K)
    (events : List Event) (at : ℕ) (fault : DriveFault) (p : List ℕ) (outcomes : List (Option Outcome))
    → ((k : K) → (seen.told k).is_clean → (seen.told k).is_honest) → Moved (stage (told_in seen.told old) [] []) (stage (told_in seen.told mid) p outcomes) (take at events) (drop at events) → StopsAtEvent seen mid new events at fault
    → LeftBy (told_in seen.told new) (is_store fault) (DeletesHanded seen.told old new (performances M.service (before fault events)) (before fault events))
stopped_records M seen old mid new events at fault p outcomes too moved stops =
    left_map M seen.told (is_store fault) new ((event_of fault ≡ at) × KeepsHeld (told_in seen.told mid) (told_in seen.told new))
    (DeletesHanded seen.told old new (performances M.service (before fault events)) (before fault events))
    (clean_too M seen.told new too) stops.left (λ is left.
    subst (λ es. DeletesHanded seen.told old new (performances M.service es) es) (sym (ap (λ n. take n events) left.0))
    (λ honest rows records held rowed.
    let done = moved_records M (told_in seen.told old) (told_in seen.told mid) (take at events) (drop at events) p outcomes moved (stops.was_honest honest) rows records held rowed in
    record { rows = done.rows; records = done.records; held = left.1 done.rows done.records done.held; rowed = done.rowed; left = done.left }))

-- which fault of the store it was

there_is : (M : Model) → {K : Type 0} (told : K → KeeperState M) (k : Option K) → (told_in told k).is_clean → k ≡ None → ⊥
there_is M told k is none = subst (λ o. (told_in told o).is_clean) none is

pub stopped_store : (M : Model) → StillStands M → {K : Type 0} (seen : Seen M K)
    (old mid new : Option K) (events : List Event) (at : ℕ) (fault : DriveFault) (p : List ℕ) (outcomes : List (Option Outcome))
    → ((k : K) → (seen.told k).is_clean → (seen.told k).is_honest) → Moved (stage (told_in seen.told old) [] []) (stage (told_in seen.told mid) p outcomes) (take at events) (drop at events)
    → Opened seen.told seen.became old mid (take at events) → StopsAtEvent seen mid new events at fault → is_store fault ≡ true → (told_in seen.told new).is_clean
    → (s : M.State) (h : History) (t : List ℕ) → StandsIn seen.told old s h t → NoneReused M.service t (before fault events)
    → AnsweredBy seen.told seen.became old new (before fault events) fault
stopped_store M still seen old mid new events at fault p outcomes too moved opened stops store is s h t so none =
    let stayed = stops.stayed (there_is M seen.told new is) in
    let was = stops.was_honest (clean_too M seen.told new too is) in
    record {
      keeper = mid;
      before = subst (λ n. became_in seen.became old mid (deaths (take n events))) (sym stayed.0) opened.often;
      after = stayed.1;
      may = stops.answered store is s (committed M.service h (before fault events)) (settled_by M.service t (before fault events))
          (stopped_at M still seen.told old mid events at fault p outcomes moved stayed.0 was s h t so none);
    }

pub stopped_opened : (M : Model) → {K : Type 0} (seen : Seen M K) → IsCount seen.became
    → (old mid new : Option K) (events : List Event) (at : ℕ) (fault : DriveFault)
    → Opened seen.told seen.became old mid (take at events) → StopsAtEvent seen mid new events at fault → (new ≡ None → ⊥)
    → Opened seen.told seen.became old new (before fault events)
stopped_opened M seen law old mid new events at fault opened stops there =
    let stayed = stops.stayed there in
    subst (λ n. Opened seen.told seen.became old new (take n events)) (sym stayed.0)
    (opened_still M seen.told seen.became law old mid new (take at events) stayed.1 stops.was_honest opened)

-- no keeper was left
pub stopped_emptied : (M : Model) → {K : Type 0} (seen : Seen M K) → IsCount seen.became
    → (old mid new : Option K) (events : List Event) (at : ℕ) (fault : DriveFault)
    → Opened seen.told seen.became old mid (take at events) → StopsAtEvent seen mid new events at fault → new ≡ None → OfRestart seen.became seen.may_refuse old (before fault events) events fault
stopped_emptied M seen law old mid new events at fault opened stops none =
    let refused = stops.emptied none in
    record {
      died = refused.died;
      keeper = refused.keeper;
      often = became_then seen.became law old mid refused.keeper (deaths (take at events)) 0 (deaths (before fault events)) opened.often refused.same
          (omega (arith, refused.calm));
      refused = refused.refused;
    }

-- ---- what stood on the way, the medium, and what a crash could leave

pub moved_stood : (M : Model) → StillStands M → {K : Type 0} (told : K → KeeperState M) (became : K → K → ℕ → Type 0) → IsCount became
    → (old mid new : Option K) (events : List Event) (at n : ℕ) (p : List ℕ) (outcomes : List (Option Outcome))
    → Moved (stage (told_in told old) [] []) (stage (told_in told mid) p outcomes) (take at events) (drop at events) → Opened told became old mid (take at events)
    → StoodBefore told became old mid (take at events)
    → Opens told became mid new p (take n (drop at events)) → StoodBefore told became old new (take (at + n) events)
moved_stood M still told became law old mid new events at n p outcomes moved opened stood opens =
    subst (StoodBefore told became old new) (sym (take-add at n events))
    (stood_before_more M told became law old mid new (take at events) (take n (drop at events)) p
    (moved_stands M still (told_in told old) (told_in told mid) (take at events) (drop at events) p outcomes moved) opened.often stood opens)

pub stopped_stood : (M : Model) → {K : Type 0} (seen : Seen M K) → IsCount seen.became
    → (old mid new : Option K) (events : List Event) (at : ℕ) (fault : DriveFault)
    → StoodBefore seen.told seen.became old mid (take at events) → StopsAtEvent seen mid new events at fault → (new ≡ None → ⊥)
    → StoodBefore seen.told seen.became old new (before fault events)
stopped_stood M seen law old mid new events at fault stood stops there =
    let stayed = stops.stayed there in
    subst (λ n. StoodBefore seen.told seen.became old new (take n events)) (sym stayed.0)
    (stood_still M seen.told seen.became law old mid new (take at events) stayed.1 stops.was_honest stood)

pub stopped_medium : (M : Model) → {K : Type 0} (seen : Seen M K)
    (P : K → Type 0) (old mid new : Option K) (events : List Event) (at : ℕ) (fault : DriveFault)
    → IsSomeAnd mid P → KeepsMedium seen.told old mid → StopsAtEvent seen mid new events at fault → KeepsMedium seen.told old new
stopped_medium M seen P old mid new events at fault going medium stops =
    medium_then M seen.told old mid new P going medium (medium_left M seen.told mid new stops.medium)

pub stopped_firm : (M : Model) → {K : Type 0} (seen : Seen M K)
    (old mid new : Option K) (events others : List Event) (at : ℕ) (fault : DriveFault) (p : List ℕ) (outcomes : List (Option Outcome))
    → Moved (stage (told_in seen.told old) [] []) (stage (told_in seen.told mid) p outcomes) (take at events) others
    → StopsAtEvent seen mid new events at fault → is_store fault ≡ false → (told_in seen.told new).is_honest
    → IsFirm (told_in seen.told old) → IsFirm (told_in seen.told new)
stopped_firm M seen old mid new events others at fault p outcomes moved stops kind is so =
    stops.firm kind is (moved.ran.firm (stops.was_honest is) so)

-- ---- what was asked for

pub moved_asked : (M : Model) → {K : Type 0} (performed : K → K → List Performance → Type 0) → IsPerformanceLog performed → (k k' mid' : KeeperState M)
    (old mid new : Option K) (events : List Event) (at n : ℕ) (p p' : List ℕ) (outcomes outcomes' : List (Option Outcome))
    → Moved (stage k [] []) (stage k' p outcomes) (take at events) (drop at events)
    → performed_in performed old mid (performances M.service (take at events))
    → Moved (stage k' p outcomes) (stage mid' p' outcomes') (take n (drop at events)) (drop (at + n) events)
    → IsOneGroup M.service (take n (drop at events)) → AsksGroup M.service performed mid new p (take n (drop at events))
    → performed_in performed old new (performances M.service (take (at + n) events))
moved_asked M performed law k k' mid' old mid new events at n p p' outcomes outcomes' moved asked next one more =
    let V = M.service in
    let run = take n (drop at events) in
    performed_then performed law old mid new (performances V (take at events)) (performances_of (performs_in V run) (handed_to (commits_in V run) p))
    (performances V (take (at + n) events)) asked more
    (sym (ap (performances V) (take-add at n events)
    ∙ performances_more V (take at events) run p (sym moved.pending) (moved.ends run (drop (at + n) events) (rest_at events at n) next.fit) one))

pub stopped_asked : (M : Model) → {K : Type 0} (seen : Seen M K) → IsPerformanceLog seen.performed → (old mid new : Option K) (events : List Event) (at : ℕ) (fault : DriveFault)
    (p : List ℕ) (outcomes : List (Option Outcome))
    → Moved (stage (told_in seen.told old) [] []) (stage (told_in seen.told mid) p outcomes) (take at events) (drop at events)
    → performed_in seen.performed old mid (performances M.service (take at events)) → StopsAtEvent seen mid new events at fault
    → StopsAsking seen mid new p (drop at events) fault → (new ≡ None → ⊥)
    → AskedSome seen.performed old new (AsksUpTo M.service events fault)
stopped_asked M seen law old mid new events at fault p outcomes moved asked stops asking there =
    let V = M.service in
    let stayed = stops.stayed there in
    let done : before fault events ≡ take at events = ap (λ n. take n events) stayed.0 in
    let last = performances_of (performs_in V asking.run) (handed_to (commits_in V asking.run) p) in
    let more : performances V (take at events ++ asking.run) ≡ performances V (take at events) ++ last =
    performances_more V (take at events) asking.run p (sym moved.pending) (moved.ends asking.run asking.rest asking.parts asking.fit) asking.one in (
      performances V (take at events) ++ last,
      record {
        run = asking.run;
        rest = asking.rest;
        parts = sym (take-append-drop at events) ∙ ap (λ (es : List Event). take at events ++ es) asking.parts
            ∙ ap (λ (es : List Event). es ++ (asking.run ++ asking.rest)) (sym done);
        last = last;
        asked_are = sym more ∙ ap (λ (es : List Event). performances V (es ++ asking.run)) (sym done);
        last_is = ap (λ (es : List Event). performances V es ++ last) (sym done);
        count = asking.count there;
      },
      performed_then seen.performed law old mid new (performances V (take at events)) last (performances V (take at events) ++ last) asked
          (asking.asked there) refl,
    )
