-- One request, as a step of its parts.
use Rattle.std.specs.Prelude.{⊤, IfSome}
use Rattle.std.proofs.Common.{◌≡◌, ◌≤◌, ◌⊎◌, ◌&&◌, ◌++◌, ℕ, Bool, true, false, cond, List, [], ◌∷◌, Option, Some, None, is_some, Result, Ok, Err, inl, inr, refl, sym, ap, subst, ◌∙◌}
use Rattle.fuse_wire.specs.Ids.{id_of}
use Rattle.fuse_wire.specs.declared.moment.Moment.{Moment}
use Rattle.fuse_request.specs.Act.{Asked, IsSeenFor, opcode_of}
use Rattle.fuse_request.specs.Opcodes.{is_performed_for}
use Rattle.fuse_answer.specs.Said.{Said}
use Rattle.guest_frames.specs.Frames.{AnswerContent}
use Rattle.fuse_keeper.specs.Group.{IsPerformed}
use Rattle.fuse_keeper.specs.History.{Entry, entry_id, is_seen}
use Rattle.fuse_keeper.specs.Model.{IsSoundModel}
use Rattle.fuse_keeper.specs.declared.keeper.Done.{Done}
use Rattle.fuse_keeper.specs.declared.fault.StoreFault.{StoreFault}
use Rattle.fuse_keeper.specs.declared.fault.StoreFault.TheVariants.{Memory}
use Rattle.sqlite.specs.State.{State, HasCleanDisk}
use Rattle.fuse_guest.specs.Service.{service_of}
use Rattle.fuse_guest.specs.Talk.{Guest, Ending, talk_end}
use Rattle.fuse_guest.specs.GuestModel.{GuestState, GuestDone, reply_of, done_with, done_by, guest_model}
use Rattle.fuse_guest.specs.Pairs.{Pairs, ArePairs, changed_pairs}
use Rattle.fuse_store_tables.specs.Faults.{IsOutside}
use Rattle.fuse_store_tables.specs.Moves.{Stays, Takes}
use Rattle.guest_tables.specs.Moves.{LookedInside}
use Rattle.guest_tables.specs.PairSteps.{StepsFit}
use Rattle.guest_talk.specs.declared.fault.AskFault.{AskFault}
use Rattle.guest_talk.specs.declared.fault.AskFault.TheVariants as talks
use Rattle.guest_talk.specs.Asking.{store_fault}
use Rattle.guest_talk.specs.Events.{AgreesWithAll}
use Rattle.guest_talk.specs.TalkState.{TalkState, talk_told}
use Rattle.sqlite.specs.Held.{state}
use Rattle.sqlite_trees.specs.declared.store.Store.{Ghosts}
use Rattle.guest_store.specs.declared.store.GuestStore.{GuestStore}
use Rattle.guest_store.specs.declared.store.Deaths.{Deaths}
use Rattle.guest_store.specs.Asks.{Asking, IsTalkedOf, asking_of, asks_one, asks_unless, deaths_before}
use Rattle.guest_store.specs.Keeping.{store_of}
use Rattle.guest_talk.specs.inner.Turns.{LooksBy}
use Rattle.guest_store.specs.declared.asking.Reply.{Reply}
use Rattle.guest_store.specs.declared.deciding.Decision.{Decision}
use Rattle.guest_store.specs.Holding.{records_of}
use Rattle.guest_store.specs.Group.{done_again, done_newly, taken_by, taken_if, with_act, with_record}
use Rattle.guest_store.specs.StoreState.{HeldOf, IsPlain, SaidAll, SaysNothing, StoreState, held_as}
use Rattle.guest_store.specs.inner.Acting.{acting, answering, ask_fault, asking, asks_decided, carrying, keeping, planning, recording, replying, reply_end, seeing, taking, with_state}
use Rattle.guest_store.specs.inner.Deciding.{decided, done_as}
use Rattle.guest_store.specs.inner.Stepping.{Effect, Inside, Spoke, StoredAs, Steps, making}
use Rattle.guest_store.specs.inner.Showing.{ShowsPairs}
use Rattle.guest_store.proofs.Asked.{AreFirst, first_all, no_more}
use Rattle.guest_store.proofs.Decisions.{act_is_decided, asks_are_decided}
use Rattle.guest_store.proofs.Serving.{good_held}
use Rattle.guest_store.proofs.Tables.{looked_held, outside_nothing, outside_plain}
use Rattle.guest_store.specs.inner.Changing.{changing}
use Rattle.guest_store.proofs.Stepping.{held_inside, step_as, step_err, step_fails, step_ok, step_stops}

-- ---- the parts of a store

pub same_store : {S R W : Type 0} → (g : Ghosts S) (remaining : R → Option (List ℕ)) (contents : W → Option (List ℕ)) (x y : GuestStore S R W)
    → x.pairs ≡ y.pairs → x.talk ≡ y.talk → store_of g remaining contents x ≡ store_of g remaining contents y
same_store g remaining contents x y pairs talk =
    ap (λ p. record { tables = state g p.conn; talk = talk_told remaining contents x.talk }) pairs
    ∙ ap (λ t. record { tables = state g y.pairs.conn; talk = talk_told remaining contents t }) talk

-- ---- steps that end in any way

pub step_any : {A B : Type 0} → (G : Guest) (e : Effect G A) (f h : Effect G B) (a b d : StoreState) (x : A) → Steps G e a b (Ok x)
    → (SaidAll G d.talk → (w : HeldOf G) (y : B) → e.told w x → f.told (e.made w) y → (f.made (e.made w) ≡ h.made w) × h.told w y)
    → ((w : HeldOf G) → e.told w x → h.safe w → f.safe (e.made w)) → (SaidAll G d.talk → (w : HeldOf G) → e.told w x → e.asks w ++ f.asks (e.made w) ≡ h.asks w)
    → (r : Result B StoreFault) → Steps G f b d r → Steps G h a d r
step_any G e f h a b d x p so safe joins (Ok y) q = step_ok G e f a b d x p h y y q (λ all w told more. so all w y told more) joins
step_any G e f h a b d x p so safe joins (Err s) q =
    step_err G e f a b d x p h s q safe (λ all w told. first_all (e.asks w ++ f.asks (e.made w)) (h.asks w) (joins all w told))

pub step_same : {A : Type 0} → (G : Guest) (e h : Effect G A) (a b : StoreState)
    → (SaidAll G b.talk → (w : HeldOf G) (x : A) → e.told w x → (e.made w ≡ h.made w) × h.told w x) → ((w : HeldOf G) → h.safe w → e.safe w)
    → (SaidAll G b.talk → (w : HeldOf G) → e.asks w ≡ h.asks w) → (r : Result A StoreFault) → Steps G e a b r → Steps G h a b r
step_same G e h a b so safe same (Ok x) p = step_as G e h a b x x p (λ all w told. so all w x told) (λ all w told. same all w)
step_same {A} G e h a b so safe same (Err s) p = step_fails {A = A} G e h a b s p safe (λ all w. first_all (e.asks w) (h.asks w) (same all w))

-- out of memory, after a step
pub step_then_stops : {A B : Type 0} → (G : Guest) (e : Effect G A) (h : Effect G B) (a b : StoreState) (x : A) → Steps G e a b (Ok x)
    → ((w : HeldOf G) → AreFirst (e.asks w) (h.asks w)) → Steps {A = B} G h a b (Err Memory)
step_then_stops {A} {B} G e h a b x p first =
    let f : Effect G B = making G (λ y. y) (λ y z. ⊤) in
    step_err G e f a b b x p h Memory (step_stops {A = B} G f b Memory tt tt) (λ w told safe. tt)
    (λ all w told. ((first w).0, (first w).1 ∙ ap (λ l. l ++ (first w).0) (no_more (e.asks w))))

-- ---- the guest is asked

-- the pairs of what is held are shown
shown : StepsFit → (G : Guest) (n : ℕ) (y : HeldOf G) (a b : State) → HasCleanDisk b → Inside G n y a
    → HasCleanDisk b × ArePairs y.state.pairs × ShowsPairs a y.state.pairs
shown fits G n y a b clean at = (
  clean,
  good_held fits G n y a.now at.holds,
  record { holding = held_as G n y; inside = held_inside G n y a at; pairs = refl },
)

looked_takes : {X : Type 0} → (G : Guest) (t : TalkState) (a b : State) (x : X) → LookedInside a b
    → Takes {E = StoreFault} (StoredAs G t (λ y. y)) (StoredAs G t (λ y. y)) a b (Ok x)
looked_takes G t a b x p = record {
  stays = p.stays;
  within = p.within;
  turns = λ clean w at.
      let now = (looked_held {E = StoreFault} a b x p).turns clean (held_as G w.number w.holding) (held_inside G w.number w.holding a at) in
      record { is_open = now.is_open; in_transaction = now.in_transaction; holds = record { held = now.holds; records = at.holds.records } };
}

module _ (fits : StepsFit) (G : Guest) (deaths : Option Deaths) (asked : Asked) (now : Moment) (a b : StoreState) where
  -- it answered, or the request was given up
  pub asked_so : (reply : Reply) → LookedInside a.tables b.tables → Spoke a.talk b.talk
      → ((ps : Pairs) → G.ready ≡ a.talk.ready → AgreesWithAll G b.talk.events → HasCleanDisk b.tables × ArePairs ps × ShowsPairs a.tables ps
      → talk_end G ps asked now ≡ reply_end reply)
      → ((ps : Pairs) → HasCleanDisk b.tables × ArePairs ps × ShowsPairs a.tables ps
      → IsTalkedOf a.talk b.talk (record { ask = record { asked = asked; now = now; count = deaths_before deaths (id_of asked.header.unique) }; pairs = ps }))
      → Steps G (asking G deaths asked now) a b (Ok reply)
  asked_so reply looked more said talked = record {
    takes = looked_takes G b.talk a.tables b.tables reply looked;
    spoke = more;
    value = λ honest n y at. said y.state.pairs (sym honest.1.ready ∙ more.ready) honest.1.said (shown fits G n y a.tables b.tables honest.0 at);
    fault = tt;
    plain = tt;
    asked = λ honest n y at. (b.talk, talked y.state.pairs (shown fits G n y a.tables b.tables honest.0 at), refl);
  }

  -- it didn't
  pub asked_not : (fault : AskFault) (s : StoreFault) → s ≡ ask_fault fault → Spoke a.talk b.talk → LooksBy (LookedInside a.tables b.tables) (Stays a.tables b.tables) fault
      → IfSome (store_fault fault) (λ f. (ps : Pairs) → HasCleanDisk b.tables × ArePairs ps × ShowsPairs a.tables ps → (f ≡ Memory) ⊎ IsOutside f)
      → (3 ≤ deaths_before deaths (id_of asked.header.unique) → (b.talk.coming ≡ a.talk.coming) × (b.talk.sent ≡ a.talk.sent))
      → Steps {A = Reply} G (asking G deaths asked now) a b (Err s)
  asked_not fault s is more looks store breaks = record {
    takes = record { stays = kept fault looks; within = tt; turns = tt };
    spoke = more;
    value = tt;
    fault = λ honest n y at safe. subst SaysNothing (sym is) (nothing fault store y.state.pairs (shown fits G n y a.tables b.tables honest.0 at));
    plain = λ honest n y at. subst IsPlain (sym is) (plain fault store y.state.pairs (shown fits G n y a.tables b.tables honest.0 at));
    asked = λ honest n y at.
        record { before = []; later = asking_of deaths asked now y.state ∷ []; split = refl; mid = a.talk; asked = refl; stops = inr breaks };
  } where
    kept : (f : AskFault) → LooksBy (LookedInside a.tables b.tables) (Stays a.tables b.tables) f → Stays a.tables b.tables
    kept (talks.Store x) p = p
    kept (talks.Guest x) p = p.stays
    kept talks.Unsayable p = p.stays

    outside : (f : StoreFault) → (f ≡ Memory) ⊎ IsOutside f → IsOutside f
    outside f (inl same) = subst IsOutside (sym same) tt
    outside f (inr is) = is

    nothing : (f : AskFault) → IfSome (store_fault f) (λ x. (ps : Pairs) → HasCleanDisk b.tables × ArePairs ps × ShowsPairs a.tables ps → (x ≡ Memory) ⊎ IsOutside x)
        → (ps : Pairs) → HasCleanDisk b.tables × ArePairs ps × ShowsPairs a.tables ps → SaysNothing (ask_fault f)
    nothing (talks.Store x) p ps seen = outside_nothing x (outside x (p ps seen))
    nothing (talks.Guest x) p ps seen = tt
    nothing talks.Unsayable p ps seen = tt

    plain : (f : AskFault) → IfSome (store_fault f) (λ x. (ps : Pairs) → HasCleanDisk b.tables × ArePairs ps × ShowsPairs a.tables ps → (x ≡ Memory) ⊎ IsOutside x)
        → (ps : Pairs) → HasCleanDisk b.tables × ArePairs ps × ShowsPairs a.tables ps → IsPlain (ask_fault f)
    plain (talks.Store x) p ps seen = outside_plain x (outside x (p ps seen))
    plain (talks.Guest x) p ps seen = tt
    plain talks.Unsayable p ps seen = tt

-- ---- what is done to a state, in other words

-- of a step that does this, and of the same in other words
done_so : (G : Guest) (f h : GuestState → GuestDone) (y : HeldOf G) (answer : Said) → f y.state ≡ h y.state → answer ≡ (f y.state).said
    → (with_state G (f y.state).state y ≡ with_state G (h y.state).state y) × (answer ≡ (h y.state).said)
done_so G f h y answer same told = (ap (λ (d : GuestDone). with_state G d.state y) same, told ∙ ap (λ (d : GuestDone). d.said) same)

module _ (G : Guest) (deaths : Option Deaths) (asked : Asked) (now : Moment) (a b : StoreState) where
  -- the guest answered, and that was done
  pub replied : (reply : Reply) (answer : AnswerContent) (d : StoreState) (r : Result Said StoreFault) → reply_end reply ≡ Ok answer
      → Steps G (asking G deaths asked now) a b (Ok reply) → Steps G (answering G answer) b d r → Steps G (replying G deaths asked now) a d r
  replied reply answer d r is p q =
      step_any G (asking G deaths asked now) (answering G answer) (replying G deaths asked now) a b d reply p
      (λ all w said told more. done_so G (λ s. reply_of s (Ok answer)) (λ s. reply_of s (talk_end G s.pairs asked now)) w said
      (ap (reply_of w.state) (sym is ∙ sym told)) more)
      (λ w told safe. tt) (λ all w told. refl) r q

  -- it was given up
  pub given_up : (reply : Reply) (end : Ending) (said : Said) → reply_end reply ≡ end → ((s : GuestState) → ((reply_of s end).state ≡ s) × (said ≡ (reply_of s end).said))
      → Steps G (asking G deaths asked now) a b (Ok reply) → Steps G (replying G deaths asked now) a b (Ok said)
  given_up reply end said is so p =
      step_as G (asking G deaths asked now) (replying G deaths asked now) a b reply said p
      (λ all w told.
      let same : end ≡ talk_end G w.state.pairs asked now = sym is ∙ sym told in (
        ap (λ (s : GuestState). with_state G s w) (sym (so w.state).0 ∙ ap (λ (k : Ending). (reply_of w.state k).state) same),
        (so w.state).1 ∙ ap (λ (k : Ending). (reply_of w.state k).said) same,
      ))
      (λ all w told. refl)

-- its changes were made
pub answered : (G : Guest) (content answer : AnswerContent) (a b : StoreState) (said : Said) → content ≡ answer → said ≡ record { errno = content.error; body = content.body }
    → Steps G (changing G (λ ps. changed_pairs content.changes ps)) a b (Ok tt) → Steps G (answering G answer) a b (Ok said)
answered G content answer a b said is so p =
    step_as G (changing G (λ ps. changed_pairs content.changes ps)) (answering G answer) a b tt said p
    (λ all w told. (
      ap (λ (x : AnswerContent). with_state G (reply_of w.state (Ok x)).state w) is,
      so ∙ ap (λ (x : AnswerContent). (reply_of w.state (Ok x)).said) is,
    ))
    (λ all w told. refl)

-- ---- what was decided

act_done : (G : Guest) (y : HeldOf G) (e : Entry) (d : Decision) → d ≡ decided G.ready (is_some y.state.settings) e.asked.act
    → done_as G.ready y.state (talk_end G y.state.pairs e.asked e.moment) d ≡ done_by G y.state e.asked e.moment
unfolding done_with
act_done G y e d is =
    let end = talk_end G y.state.pairs e.asked e.moment in
    ap (done_as G.ready y.state end) is ∙ sym (act_is_decided G.ready y.state end e.asked.act)

pub carried : (G : Guest) (deaths : Option Deaths) (e : Entry) (a b d : StoreState) (decision : Decision) (r : Result Said StoreFault) → Steps G (planning G e.asked.act) a b (Ok decision)
    → Steps G (carrying G deaths e.asked e.moment decision) b d r → Steps G (acting G deaths e) a d r
carried G deaths e a b d decision r p q =
    step_any G (planning G e.asked.act) (carrying G deaths e.asked e.moment decision) (acting G deaths e) a b d decision p
    (λ all w said told more.
    let same = act_done G w e decision told in
    (ap (λ (x : GuestDone). with_state G x.state w) same, more ∙ ap (λ (x : GuestDone). x.said) same))
    (λ w told safe. tt)
    (λ all w told.
    let one = asking_of deaths e.asked e.moment w.state ∷ [] in
    ap (λ d. asks_decided d one) told ∙ sym (asks_are_decided G.ready w.state one e.asked.act))
    r q

-- ---- a record

pub did_record : {X : Type 0} → (G : Guest) (deaths : Option Deaths) (lot id : ℕ) (e : Entry) (a b d : StoreState) (said : Said) (x : X) (done : Done) → id ≡ entry_id e → done ≡ done_newly said
    → Steps G (acting G deaths e) a b (Ok said) → Steps G (making G (λ y. with_record id lot said y) (λ y (r : X). ⊤)) b d (Ok x)
    → Steps G (recording G deaths lot e) a d (Ok done)
did_record {X} G deaths lot id e a b d said x done same is p q =
    step_ok G (acting G deaths e) (making G (λ y. with_record id lot said y) (λ y (r : X). ⊤)) a b d said p (recording G deaths lot e) x done q
    (λ all w told more. (
      ap (λ i. with_record i lot said (with_act e w)) same ∙ ap (λ s. with_record (entry_id e) lot s (with_act e w)) told,
      is ∙ ap done_newly told,
    ))
    (λ all w told. sym (no_more (asks_one G.ready deaths e w.state)))

-- it has one
pub repeats : (G : Guest) (deaths : Option Deaths) (lot : ℕ) (e : Entry) (a b : StoreState) (found : Option Said) (known : Said) (done : Done) → found ≡ Some known → done ≡ done_again known
    → Steps G (making G (λ y. y) (λ y (r : Option Said). r ≡ records_of y.kept (entry_id e))) a b (Ok found) → Steps G (keeping G deaths lot e) a b (Ok done)
repeats G deaths lot e a b found known done is so p =
    step_as G (making G (λ y. y) (λ y (r : Option Said). r ≡ records_of y.kept (entry_id e))) (keeping G deaths lot e) a b found done p
    (λ all w told.
    let same : Some known ≡ records_of w.kept (entry_id e) = sym is ∙ told in
    (ap (λ r. (taken_by r lot e w).holding) same, so ∙ ap (λ r. (taken_by r lot e w).done) same))
    (λ all w told. ap (λ r. asks_unless r (asks_one G.ready deaths e w.state)) (sym is ∙ told))

-- it has none
pub acts : (G : Guest) (deaths : Option Deaths) (lot : ℕ) (e : Entry) (a b d : StoreState) (found : Option Said) (r : Result Done StoreFault) → found ≡ None
    → Steps G (making G (λ y. y) (λ y (r : Option Said). r ≡ records_of y.kept (entry_id e))) a b (Ok found) → Steps G (recording G deaths lot e) b d r
    → Steps G (keeping G deaths lot e) a d r
acts G deaths lot e a b d found r is p q =
    step_any G (making G (λ y. y) (λ y (r : Option Said). r ≡ records_of y.kept (entry_id e))) (recording G deaths lot e) (keeping G deaths lot e) a b d found p
    (λ all w done told more.
    let same : None ≡ records_of w.kept (entry_id e) = sym is ∙ told in
    (ap (λ r. (taken_by r lot e w).holding) same, more ∙ ap (λ r. (taken_by r lot e w).done) same))
    (λ w told safe. tt) (λ all w told. ap (λ r. asks_unless r (asks_one G.ready deaths e w.state)) (sym is ∙ told)) r q

-- ---- seen or kept

seen_by : (p s : Bool) → p ≡ true → s ≡ true → (p && s) ≡ true
seen_by true s is on = on
seen_by false s is on = absurd (cc is)

module _ (G : Guest) (deaths : Option Deaths) (lot : ℕ) (e : Entry) (a b : StoreState) (r : Result Done StoreFault) where
  -- the request of a guest of the same READY
  here : (x : Bool) → is_seen (service_of b.talk.ready) e ≡ x → SaidAll G b.talk → is_seen (service_of G.ready) e ≡ x
  here x is all = subst (λ r. is_seen (service_of r) e ≡ x) all.ready is

  -- what is asked, by whether it is seen
  abbrev asks_by : Bool → HeldOf G → List Asking
  asks_by x y = cond x (asks_one G.ready deaths e y.state) (asks_unless (records_of y.kept (entry_id e)) (asks_one G.ready deaths e y.state))

  pub took_seen : IsSoundModel (guest_model G) → IsPerformed (service_of b.talk.ready) e → is_seen (service_of b.talk.ready) e ≡ true → Steps G (seeing G deaths e) a b r
      → Steps G (taking G deaths lot e) a b r
  took_seen sound performed is p =
      step_same G (seeing G deaths e) (taking G deaths lot e) a b
      (λ all w done told.
      let on = here true is all in
      let op = opcode_of e.asked.act in
      let seen : IsSeenFor (service_of G.ready) e.asked.act = seen_by (is_performed_for (service_of G.ready) op) (is_seen (service_of G.ready) e)
      (subst (λ r. IsPerformed (service_of r) e) all.ready performed) on in (
        ap (λ (s : GuestState). with_state G s w) (sound.stays w.state e.asked e.moment seen) ∙ ap (λ x. (taken_if x lot e w).holding) (sym on),
        told ∙ ap (λ x. (taken_if x lot e w).done) (sym on),
      ))
      (λ w safe. tt) (λ all w. ap (λ x. asks_by x w) (sym (here true is all))) r p

  pub took_kept : is_seen (service_of b.talk.ready) e ≡ false → Steps G (keeping G deaths lot e) a b r → Steps G (taking G deaths lot e) a b r
  took_kept is p =
      step_same G (keeping G deaths lot e) (taking G deaths lot e) a b
      (λ all w done told.
      let off = here false is all in
      (ap (λ x. (taken_if x lot e w).holding) (sym off), told ∙ ap (λ x. (taken_if x lot e w).done) (sym off)))
      (λ w safe. tt) (λ all w. ap (λ x. asks_by x w) (sym (here false is all))) r p
