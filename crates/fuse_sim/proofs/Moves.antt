-- Events that were run, group after group.
use Rattle.std.proofs.Common.{◌≡◌, ◌⊎◌, inl, inr, ℕ, suc, ◌≤◌, ◌<◌, Bool, true, false, ◌||◌, ◌==◌, if◌then◌else◌, List, [], ◌∷◌, ◌++◌, length, map, take, drop}
use Rattle.std.proofs.Common.{get_or, All, Option, None, refl, sym, ap, subst, ◌∙◌, append_assoc, length-append, drop-cons, arith}
use Rattle.std.proofs.lemmas.List.{append-nil, map-append, length-map}
use Rattle.std.proofs.lemmas.List.Elements.{All-nil, All-cons}
use Rattle.std.proofs.lemmas.Bool.{cases_Bool}
use Rattle.fuse_request.specs.Opcodes.{Service}
use Rattle.fuse_wire.specs.declared.moment.Moment.{Moment}
use Rattle.fuse_wire.specs.declared.id.Id.{Id}
use Rattle.fuse_answer.specs.Said.{Said}
use Rattle.fuse_request.specs.declared.request.Request.{Request}
use Rattle.fuse_request.specs.Classes.{class_for, SeenByClass}
use Rattle.fuse_keeper.specs.History.{Entry, entry_id, History, HistoriesGrow, after, answer_to, grown, said, is_in, ids_in, Includes, IsUnsettled}
use Rattle.fuse_keeper.specs.Model.{Model}
use Rattle.fuse_keeper.specs.Stands.{Records, OthersStay}
use Rattle.fuse_keeper.specs.KeeperState.{KeeperState, StandsFor, KeepsHeld, IsFirm}
use Rattle.fuse_keeper.specs.Group.{entry_of, entries_of, ids_of, handed_to, left_pending}
use Rattle.fuse_session.specs.Processed.{entry_if, message_entry, message_id, unique_of}
use Rattle.fuse_sim.specs.declared.event.Fate.{Fate}
use Rattle.fuse_sim.specs.declared.event.Fate.TheVariants.{Answered, AnswerLost, DiedBeforeCommit, DiedAfterCommit}
use Rattle.fuse_sim.specs.declared.event.Event.{Event}
use Rattle.fuse_sim.specs.declared.event.Outcome.{Outcome}
use Rattle.fuse_sim.specs.declared.group.Group.{Group}
use Rattle.fuse_sim.specs.Driving.{commits, commits_by, commits_in, committed, performs_in, outcomes_after, outcomes_of, bytes_given, is_taken, where_taken}
use Rattle.fuse_sim.specs.Driving.{answer_in, settles_in, settled_by, NoneReused, IsFit, dies, dies_before, OutcomesBegin}
use Rattle.fuse_sim.specs.inner.HandedBy.{pending_by, handed_on, IsOneGroup, IsCutAt}
use Rattle.fuse_sim.specs.inner.Running.{IsGroupRun, StopsAt, BeginsGroup, GathersEvents, NoneDiesBefore, RecordsRan, RanEvents, Moved, Worked, stage}
use Rattle.fuse_sim.proofs.Gathered.{commits-append, only_one}
use Rattle.fuse_sim.proofs.Settled.{is_in-append, includes_both, in_either, stands_kept}
use Rattle.fuse_sim.proofs.Cutting.{kept_performs, commits_fewer, group_alone, group_ends, group_dies, lost_alone, lost_ends}
use Rattle.fuse_sim.proofs.Ledgers.{few_pending, handed-append, handed_group, handed_within, pending_group, pending_settled, handed_settled}
use Rattle.fuse_sim.proofs.Driven.{committed-append, outcomes-append, all_unsettled_too, none_reused, reused-parts, settled_all}

-- ---- records

or_none : {A : Type 0} (a b : Bool) (o : Option A) → (if b then None else (if a then None else o)) ≡ (if a || b then None else o)
or_none true true o = refl
or_none true false o = refl
or_none false true o = refl
or_none false false o = refl

pub or_false : (a b : Bool) → (a || b) ≡ false → (a ≡ false) × (b ≡ false)
or_false true b is = absurd (cc is)
or_false false b is = (refl, is)

none_if : {A : Type 0} (b : Bool) (o : Option A) → o ≡ None → (if b then None else o) ≡ None
none_if true o is = refl
none_if false o is = is

-- an id that is settled isn't among those that come
not_same : (t : List ℕ) (x i : ℕ) → is_in t x ≡ false → is_in t i ≡ true → (x == i) ≡ true → ⊥
not_same t x i isnt there same =
    let e : x ≡ i = grind (arith, same) in
    let both = sym isnt ∙ ap (is_in t) e ∙ there in
    absurd (cc both)

pub not_among : (t : List ℕ) (es : List Entry) (i : ℕ) → All (IsUnsettled t) es → is_in t i ≡ true → is_in (ids_in es) i ≡ false
not_among t [] i each there = refl
not_among t (e ∷ es) i each there = elim (cases_Bool (entry_id e == i)) [
  | inl same ↦ absurd (not_same t (entry_id e) i (each 0 e (omega arith)) there same)
  | inr other ↦ ap (λ b. b || is_in (ids_in es) i) other ∙ not_among t es i (λ k d lt. each (suc k) d (omega (arith, lt))) there
]

records_more : (V : Service) (l : List ℕ) (es es' : List Event) (r r' r'' : Records) → IsCutAt V es es' → RecordsRan V l es r r'
    → RecordsRan V (pending_by V l es) es' r' r'' → RecordsRan V l (es ++ es') r r''
records_more V l es es' r r' r'' cut one two =
    let l' = pending_by V l es in
    let ids : ids_in (commits_in V (es ++ es')) ≡ ids_in (commits_in V es) ++ ids_in (commits_in V es') = ap ids_in (commits-append V es es')
    ∙ map-append entry_id (commits_in V es) (commits_in V es') in
    record {
      others = λ i isnt.
          let both = or_false (is_in (ids_in (commits_in V es)) i) (is_in (ids_in (commits_in V es')) i)
          (sym (ap (λ x. is_in x i) ids ∙ is_in-append (ids_in (commits_in V es)) (ids_in (commits_in V es')) i) ∙ isnt) in
          two.others i both.1 ∙ ap (λ (o : Option Said). if is_in (handed_on V l' es') i then None else o) (one.others i both.0)
          ∙ or_none (is_in (handed_on V l es) i) (is_in (handed_on V l' es') i) (r i)
          ∙ ap (λ b. if b then None else r i) (sym (ap (λ x. is_in x i) (handed-append V l es es' cut) ∙ is_in-append (handed_on V l es) (handed_on V l' es') i));
      gone = λ u within none i there.
          let parts = reused-parts V u es es' none in
          let u' = settled_by V u es in
          elim (in_either (handed_on V l es) (handed_on V l' es') i (sym (ap (λ x. is_in x i) (handed-append V l es es' cut)) ∙ there)) [
            | inl before ↦
                two.others i (not_among u' (commits_in V es') i (none_reused V u' es' parts.1) (handed_settled V u l es within i before))
                ∙ none_if (is_in (handed_on V l' es') i) (r' i) (one.gone u within parts.0 i before)
            | inr later ↦ two.gone u' (pending_settled V u l es within) parts.1 i later
          ];
    }

-- ---- events, and then others

-- where the events that are meant end within the first ones, or among the others
pub begin_with : (M : Model) (s : M.State) (h : History) (earlier : List Event) (xs ys : List (Option (List ℕ))) → OutcomesBegin M s h earlier xs
    → OutcomesBegin M s h earlier (xs ++ ys)
begin_with M s h earlier xs ys begins = (
  begins.0 ++ ys,
  ap (λ (os : List (Option (List ℕ))). os ++ ys) begins.1 ∙ append_assoc (outcomes_of M s h earlier) begins.0 ys,
)

pub begin_later : (M : Model) → HistoriesGrow M → (s : M.State) (h : History) (es prefix : List Event) (xs ys : List (Option (List ℕ)))
    → xs ≡ outcomes_of M s h es → OutcomesBegin M s (committed M.service h es) prefix ys
    → OutcomesBegin M s h (es ++ prefix) (xs ++ ys)
begin_later M grows s h es prefix xs ys is begins =
    let first = outcomes_of M s h es in
    let second = outcomes_of M s (committed M.service h es) prefix in (
      begins.0,
      ap (λ (os : List (Option (List ℕ))). os ++ ys) is ∙ ap (λ (os : List (Option (List ℕ))). first ++ os) begins.1
          ∙ sym (append_assoc first second begins.0)
          ∙ ap (λ (os : List (Option (List ℕ))). os ++ begins.0) (sym (outcomes-append M grows s h es prefix)),
    )

none_left : {A : Type 0} (xs ys : List A) → length xs ≡ length (xs ++ ys) → ys ≡ []
none_left [] [] is = refl
none_left [] (y ∷ ys) is = absurd (omega (arith, is))
none_left (x ∷ xs) ys is = none_left xs ys (omega (arith, is))

after_count : (M : Model) (s : M.State) (g h : History) (es : List Event) → length (outcomes_after M s g h es) ≡ length es
after_count M s g h [] = refl
after_count M s g h (e ∷ es) = ap suc (after_count M s g (grown h (commits M.service e)) es)

-- all of them
pub begin_all : (M : Model) (s : M.State) (h : History) (es : List Event) (xs : List (Option (List ℕ))) → length xs ≡ length es → OutcomesBegin M s h es xs
    → xs ≡ outcomes_of M s h es
begin_all M s h es xs count begins =
    let first = outcomes_of M s h es in
    begins.1 ∙ ap (λ (os : List (Option (List ℕ))). first ++ os)
    (none_left first begins.0 (after_count M s (committed M.service h es) h es ∙ sym count ∙ ap length begins.1)) ∙ append-nil first

pub record SplitIn (xs ys earlier later : List Event) : Type 0 where
  pub more : List Event
  pub parts : xs ≡ earlier ++ more
  pub rest : later ≡ more ++ ys

pub record SplitAfter (xs ys earlier later : List Event) : Type 0 where
  pub prefix : List Event
  pub begin : earlier ≡ xs ++ prefix
  pub parts : ys ≡ prefix ++ later

split_one : (x : Event) (xs ys earlier later : List Event) → SplitIn xs ys earlier later ⊎ SplitAfter xs ys earlier later
    → SplitIn (x ∷ xs) ys (x ∷ earlier) later ⊎ SplitAfter (x ∷ xs) ys (x ∷ earlier) later
split_one x xs ys earlier later parts = elim parts [
  | inl first ↦ inl (record { more = first.more; parts = ap (λ (z : List Event). x ∷ z) first.parts; rest = first.rest })
  | inr second ↦ inr (record { prefix = second.prefix; begin = ap (λ (z : List Event). x ∷ z) second.begin; parts = second.parts })
]

pub split_in : (xs ys earlier later : List Event) → xs ++ ys ≡ earlier ++ later → SplitIn xs ys earlier later ⊎ SplitAfter xs ys earlier later
split_in [] ys earlier later is = inr (record { prefix = earlier; begin = refl; parts = is })
split_in (x ∷ xs) ys [] later is = inl (record { more = x ∷ xs; parts = refl; rest = sym is })
split_in (x ∷ xs) ys (y ∷ earlier) later is =
    let same : x ≡ y = cc is in
    let rest : xs ++ ys ≡ earlier ++ later = cc is in
    subst (λ (z : Event). SplitIn (x ∷ xs) ys (z ∷ earlier) later ⊎ SplitAfter (x ∷ xs) ys (z ∷ earlier) later) same
    (split_one x xs ys earlier later (split_in xs ys earlier later rest))

outcomes_more : (M : Model) → HistoriesGrow M → (holds mid holds' : KeeperState M) (l : List ℕ) (es es' : List Event) (old new new' : List (Option Outcome))
    → (holds'.is_honest → mid.is_honest) → (one : RanEvents holds mid l es old new) → (two : RanEvents mid holds' (pending_by M.service l es) es' new new')
    → holds'.is_honest → (earlier later : List Event) → es ++ es' ≡ earlier ++ later → (s : M.State) (h : History) (t u : List ℕ) → StandsFor holds s h t
    → Includes u t → Includes u l → NoneReused M.service u earlier → OutcomesBegin M s h earlier (map bytes_given (one.added ++ two.added))
outcomes_more M grows holds mid holds' l es es' old new new' was one two is earlier later parts s h t u so within pending none =
    let first = map bytes_given one.added in
    let second = map bytes_given two.added in
    subst (OutcomesBegin M s h earlier) (sym (map-append bytes_given one.added two.added)) (elim (split_in es es' earlier later parts) [
      | inl here ↦ begin_with M s h earlier first second (one.outcomes (was is) earlier here.more here.parts s h t u so within pending none)
      | inr after ↦
          let reused = reused-parts M.service u es after.prefix (subst (NoneReused M.service u) after.begin none) in
          let stands = one.stands (was is) s h t u so within pending reused.0 in
          let whole = one.outcomes (was is) es [] (sym (append-nil es)) s h t u so within pending reused.0 in
          subst (λ (x : List Event). OutcomesBegin M s h x (first ++ second)) (sym after.begin)
          (begin_later M grows s h es after.prefix first second
          (begin_all M s h es first (length-map one.added bytes_given ∙ one.count) whole)
          (two.outcomes is after.prefix later after.parts s (committed M.service h es) (t ++ handed_on M.service l es) (settled_by M.service u es) stands
          (settled_all M.service u t l es within pending) (pending_settled M.service u l es pending) reused.1))
    ])

pub ran_more : (M : Model) → HistoriesGrow M → (holds mid holds' : KeeperState M) (l : List ℕ) (es es' : List Event) (old new new' : List (Option Outcome))
    → IsCutAt M.service es es' → (holds'.is_honest → mid.is_honest)
    → RanEvents holds mid l es old new → RanEvents mid holds' (pending_by M.service l es) es' new new' → RanEvents holds holds' l (es ++ es') old new'
ran_more M grows holds mid holds' l es es' old new new' cut was one two = record {
  added = one.added ++ two.added;
  items = two.items ∙ ap (λ x. x ++ two.added) one.items ∙ append_assoc old one.added two.added;
  count = omega (arith, one.count, two.count, length-append one.added two.added, length-append es es');
  stands = λ is s h t u so within pending none.
      let parts = reused-parts M.service u es es' none in
      let first = one.stands (was is) s h t u so within pending parts.0 in
      let second = two.stands is s (committed M.service h es) (t ++ handed_on M.service l es) (settled_by M.service u es) first (settled_all M.service u t l es within pending)
      (pending_settled M.service u l es pending) parts.1 in
      subst (λ g. StandsFor holds' s g (t ++ handed_on M.service l (es ++ es'))) (sym (committed-append M.service h es es'))
      (subst (StandsFor holds' s (committed M.service (committed M.service h es) es')) (append_assoc t (handed_on M.service l es) (handed_on M.service (pending_by M.service l es) es')
      ∙ ap (λ (x : List ℕ). t ++ x) (sym (handed-append M.service l es es' cut))) second);
  outcomes = outcomes_more M grows holds mid holds' l es es' old new new' was one two;
  records = λ is rows records held rowed.
      let first = one.records (was is) rows records held rowed in
      let second = two.records is first.rows first.records first.held first.rowed in
      record {
        rows = second.rows;
        records = second.records;
        held = second.held;
        rowed = second.rowed;
        left = records_more M.service l es es' records first.records second.records cut first.left second.left;
      };
  firm = λ is so. two.firm is (one.firm (was is) so);
}

-- none of no events
none_begin : (M : Model) (s : M.State) (h : History) (earlier later : List Event) → [] ≡ earlier ++ later → OutcomesBegin M s h earlier []
none_begin M s h [] later is = ([], refl)
none_begin M s h (e ∷ earlier) later is = absurd (cc is)

pub ran_none : (M : Model) (holds : KeeperState M) (l : List ℕ) (old new : List (Option Outcome)) → new ≡ old → RanEvents holds holds l [] old new
ran_none M holds l old new is = record {
  added = [];
  items = is ∙ sym (append-nil old);
  count = refl;
  stands = λ _ s h t u so _ _ _. subst (StandsFor holds s h) (sym (append-nil t)) so;
  outcomes = λ _ earlier later parts s h t u so _ _ _. none_begin M s h earlier later parts;
  records = λ _ rows records held rowed. record {
    rows = rows;
    records = records;
    held = held;
    rowed = rowed;
    left = record
        { others = λ i _. refl; gone = λ u _ _ i there. absurd (cc there) };
  };
  firm = λ _ so. so;
}

-- ---- a group

-- over what pending ids and outcomes were before room was made for more
pub worked_over : (M : Model) (k k' : KeeperState M) (run : List Event) (p q p' : List ℕ) (o roomy o' : List (Option Outcome)) → q ≡ p → roomy ≡ o
    → Worked (stage k q roomy) (stage k' p' o') run → Worked (stage k p o) (stage k' p' o') run
worked_over M k k' run p q p' o roomy o' ids outcomes worked =
    subst (λ x. Worked (stage k x o) (stage k' p' o') run) ids (subst (λ x. Worked (stage k q x) (stage k' p' o') run) outcomes worked)

calm_goes : (fate : Fate) → dies fate ≡ false → dies_before fate ≡ false
calm_goes Answered is = refl
calm_goes AnswerLost is = refl
calm_goes DiedBeforeCommit is = absurd (cc is)
calm_goes DiedAfterCommit is = refl

goes : Event → Type 0
goes e = dies_before e.fate ≡ false

pub none_dies : (died : Bool) (run : List Event) → IsGroupRun died run → NoneDiesBefore run
unfolding goes
none_dies died [] so = All-nil goes
none_dies died (e ∷ run) so = elim so [
  | inl more ↦ All-cons goes e run (calm_goes e.fate more.0) (none_dies died run more.1)
  | inr last ↦ All-cons goes e run (ap dies_before last.1) (subst NoneDiesBefore (sym last.2) (All-nil goes))
]

pub group_ran : (M : Model) → SeenByClass → (holds mid holds' : KeeperState M) (run : List Event) (p p' : List ℕ) (old new : List (Option Outcome))
    → IsOneGroup M.service run → Worked (stage holds p old) (stage mid p' new) run → (holds'.is_honest → KeepsHeld mid holds') → (holds'.is_honest → mid.is_honest)
    → (holds'.is_honest → IsFirm mid → IsFirm holds')
    → RanEvents holds holds' p run old new
group_ran M sees holds mid holds' run p p' old new one worked keeps was firm =
    let cs = commits_in M.service run in
    let handed_is = handed_group M.service p run one in
    let fresh_ids = λ (t u : List ℕ) (within : Includes u t) (pending : Includes u p) (none : NoneReused M.service u run).
    all_unsettled_too u (t ++ handed_to cs p) cs (includes_both u t (handed_to cs p) within (handed_within u p cs pending)) (none_reused M.service u run none) in
    record {
      added = worked.added;
      items = worked.items;
      count = worked.count;
      stands = λ is s h t u so within pending none.
          subst (λ (x : List ℕ). StandsFor holds' s (committed M.service h run) (t ++ x)) (sym handed_is)
          (stands_kept M mid holds' s (committed M.service h run) (t ++ handed_to cs p) (keeps is) (worked.stands (was is) s h t so (fresh_ids t u within pending none)));
      outcomes = λ is earlier later parts s h t u so within pending none. worked.outcomes (was is) earlier later parts s h t so
          (all_unsettled_too u (t ++ handed_to cs p) (commits_in M.service earlier)
          (includes_both u t (handed_to cs p) within (handed_within u p cs pending)) (none_reused M.service u earlier none));
      records = λ is rows records held rowed.
          let done = worked.records (was is) rows records held rowed in
          let others = subst (λ (es : List Entry). OthersStay records (handed_to cs p) es done.records) (kept_performs sees M.service run) done.others in
          record {
            rows = done.rows;
            records = done.records;
            held = keeps is done.rows done.records done.held;
            rowed = done.rowed;
            left = record {
              others = λ i isnt. others i isnt ∙ ap (λ x. if is_in x i then None else records i) (sym handed_is);
              gone = λ u within none i there.
                  let handed = sym (ap (λ x. is_in x i) handed_is) ∙ there in
                  others i (not_among u cs i (none_reused M.service u run none) (handed_within u p cs within i handed))
                  ∙ ap (λ b. if b then None else records i) handed;
            };
          };
      firm = λ is so. firm is (worked.firm (was is) so);
    }

-- ---- an event that is lost

pub commits_lost : (V : Service) (e : Event) → e.fate ≡ DiedBeforeCommit → commits V e ≡ []
commits_lost V e is = ap (λ f. commits_by f (entry_if (class_for V e.bytes) (message_entry e.bytes e.moment))) is

lost_begins : (M : Model) (s : M.State) (h : History) (e : Event) (earlier later : List Event) → e.fate ≡ DiedBeforeCommit → e ∷ [] ≡ earlier ++ later
    → OutcomesBegin M s h earlier (None ∷ [])
lost_begins M s h e [] later lost is = (None ∷ [], refl)
lost_begins M s h e (x ∷ []) later lost is =
    let same : e ≡ x = cc is in
    let dead : x.fate ≡ DiedBeforeCommit = sym (ap (λ (o : Event). o.fate) same) ∙ lost in
    let answer = answer_in (class_for M.service x.bytes) (said M s (committed M.service h (x ∷ [])) (message_id x.bytes))
    (answer_to M (after M s h) (message_entry x.bytes x.moment)) (unique_of x.bytes) in
    ([], ap (λ f. where_taken (is_taken f) answer ∷ []) (sym dead))
lost_begins M s h e (x ∷ y ∷ earlier) later lost is = absurd (cc is)

pub lost_ran : (M : Model) (holds holds' : KeeperState M) (l : List ℕ) (e : Event) (old new : List (Option Outcome)) → e.fate ≡ DiedBeforeCommit
    → new ≡ old ++ None ∷ [] → (holds'.is_honest → KeepsHeld holds holds') → (holds'.is_honest → IsFirm holds → IsFirm holds')
    → RanEvents holds holds' l (e ∷ []) old new
lost_ran M holds holds' l e old new lost pushed keeps firm =
    let none : commits_in M.service (e ∷ []) ≡ [] = ap (λ (cs : List Entry). cs ++ []) (commits_lost M.service e lost) in
    let unhanded : handed_on M.service l (e ∷ []) ≡ [] = handed_group M.service l (e ∷ []) (lost_alone M.service e (ap dies lost)) ∙ ap (λ cs. handed_to cs l) none in
    record {
      added = None ∷ [];
      items = pushed;
      count = refl;
      stands = λ is s h t u so within pending again.
          subst (λ (x : List ℕ). StandsFor holds' s (committed M.service h (e ∷ [])) (t ++ x)) (sym unhanded)
          (subst (StandsFor holds' s (committed M.service h (e ∷ []))) (sym (append-nil t))
          (subst (λ g. StandsFor holds' s g t) (ap (grown h) (sym none)) (stands_kept M holds holds' s h t (keeps is) so)));
      outcomes = λ is earlier later parts s h t u so within pending again. lost_begins M s h e earlier later lost parts;
      records = λ is rows records held rowed. record {
        rows = rows;
        records = records;
        held = keeps is rows records held;
        rowed = rowed;
        left = record {
          others = λ i _. ap (λ x. if is_in x i then None else records i) (sym unhanded);
          gone = λ u _ _ i there. absurd (let no_way = sym (ap (λ x. is_in x i) unhanded) ∙ there in cc no_way);
        };
      };
      firm = firm;
    }

-- ---- what is said of it

pub count_taken : (V : Service) (run : List Event) (taken : List (Request × Moment)) → entries_of taken ≡ performs_in V run → length (performs_in V run) ≡ length taken
count_taken V run taken entries = sym (ap length entries) ∙ length-map taken entry_of

-- no more are performed than were taken, and no more are kept
pub few_taken : (V : Service) (run : List Event) (taken : List (Request × Moment)) (n : ℕ) → entries_of taken ≡ performs_in V run → length taken ≤ n
    → length (performs_in V run) ≤ n
few_taken V run taken n entries few = omega (arith, few, count_taken V run taken entries)

pub few_kept : (V : Service) (run : List Event) (taken : List (Request × Moment)) (n : ℕ) → entries_of taken ≡ performs_in V run → length taken ≤ n
    → length (commits_in V run) ≤ n
few_kept V run taken n entries few = omega (arith, few_taken V run taken n entries few, commits_fewer V run)

pub group_moved : (M : Model) → SeenByClass → (holds mid holds' : KeeperState M) (group : Group) (run slice others : List Event) (p p_mid p' : List ℕ)
    (old new : List (Option Outcome)) → GathersEvents M run group → slice ≡ run → StopsAt M.service group others
    → Worked (stage holds p old) (stage mid p_mid new) slice → (holds'.is_honest → KeepsHeld mid holds') → (holds'.is_honest → mid.is_honest)
    → (holds'.is_honest → IsFirm mid → IsFirm holds')
    → p' ≡ (if group.died then [] else p_mid)
    → Moved (stage holds p old) (stage holds' p' new) run others
group_moved M sees holds mid holds' group run slice others p p_mid p' old new gathers same stops all keeps was firm left =
    let V = M.service in
    let worked = subst (λ x. Worked (stage holds p old) (stage mid p_mid new) x) same all in
    let few = few_taken V run group.taken.items 16 gathers.entries gathers.few in
    let one = group_alone V group.died run gathers.goes few in
    let pending = left_pending (commits_in V run) p ++ settles_in V run in
    record {
      fit = gathers.fit;
      ran = group_ran M sees holds mid holds' run p p_mid old new one worked keeps was firm;
      pending = left ∙ ap (λ (x : List ℕ). if group.died then [] else x) worked.handed
          ∙ ap (λ b. if b then [] else pending) (sym (group_dies group.died run gathers.goes)) ∙ sym (pending_group V p run one);
      ends = group_ends V group run others gathers.goes (count_taken V run group.taken.items gathers.entries) few stops;
    }

pub ids_left : (died : Bool) (pending' pending : List Id) → pending' ≡ (if died then [] else pending) → ids_of pending' ≡ (if died then [] else ids_of pending)
ids_left true pending' pending is = ap ids_of is
ids_left false pending' pending is = ap ids_of is

few_if : (died : Bool) (pending' pending : List Id) (n : ℕ) → pending' ≡ (if died then [] else pending) → length pending ≤ n → length pending' ≤ n
few_if true pending' pending n is few = omega (arith, ap length is)
few_if false pending' pending n is few = omega (arith, ap length is, few)

-- no more than 16 are pending
pub few_left : (V : Service) (died : Bool) (run : List Event) (old pending pending' : List Id) (n : ℕ) → pending' ≡ (if died then [] else pending)
    → ids_of pending ≡ left_pending (commits_in V run) (ids_of old) ++ settles_in V run
    → length old ≤ n → length (commits_in V run) ≤ n → length pending' ≤ n
few_left V died run old pending pending' n left handed few many = few_if died pending' pending n left
    (omega (
      arith,
      ap length handed,
      length-map pending (λ (id : Id). id.0),
      few_pending V run (ids_of old) n (omega (arith, few, length-map old (λ (id : Id). id.0))) many,
    ))

-- ---- what comes next

pub begins_at : (events : List Event) (at : ℕ) (e : Event) → at < length events → e ≡ get_or events at e → IsFit e → dies_before e.fate ≡ false
    → BeginsGroup (drop at events)
begins_at events at e lt is fit goes_on = subst BeginsGroup (sym (drop-cons events at e lt))
    (subst (λ (x : Event). IsFit x × (dies_before x.fate ≡ false)) is (fit, goes_on))

pub is_lost : (fate : Fate) → dies_before fate ≡ true → fate ≡ DiedBeforeCommit
is_lost Answered is = absurd (cc is)
is_lost AnswerLost is = absurd (cc is)
is_lost DiedBeforeCommit is = refl
is_lost DiedAfterCommit is = absurd (cc is)

pub lost_one : (events : List Event) (at : ℕ) (e : Event) → at < length events → e ≡ get_or events at e → e ∷ [] ≡ take 1 (drop at events)
lost_one events at e lt is = ap (λ (x : Event). x ∷ []) is ∙ ap (take 1) (sym (drop-cons events at e lt))

pub lost_moved : (M : Model) (holds holds' : KeeperState M) (p : List ℕ) (events rest : List Event) (at : ℕ) (e : Event) (p' : List ℕ)
    (old new : List (Option Outcome))
    → at < length events → e ≡ get_or events at e → IsFit e → dies_before e.fate ≡ true → new ≡ old ++ None ∷ [] → p' ≡ []
    → (holds'.is_honest → KeepsHeld holds holds') → (holds'.is_honest → IsFirm holds → IsFirm holds')
    → Moved (stage holds p old) (stage holds' p' new) (take 1 (drop at events)) rest
lost_moved M holds holds' p events rest at e p' old new lt is fit before pushed none keeps firm =
    let V = M.service in
    let lost = is_lost e.fate before in
    let died : dies e.fate ≡ true = ap dies lost in
    let forgot : pending_by V p (e ∷ []) ≡ [] = pending_group V p (e ∷ []) (lost_alone V e died)
    ∙ ap (λ b. if b || false then [] else left_pending (commits_in V (e ∷ [])) p ++ settles_in V (e ∷ [])) died in
    subst (λ run. Moved (stage holds p old) (stage holds' p' new) run rest) (lost_one events at e lt is) (record {
      fit = only_one IsFit e fit;
      ran = lost_ran M holds holds' p e old new lost pushed keeps firm;
      pending = none ∙ sym forgot;
      ends = lost_ends V e rest died;
    })
