-- Groups, one message after another.
use Rattle.std.proofs.Common.{◌≡◌, ◌≢◌, inl, inr, ℕ, ◌+◌, ◌<◌, ◌==◌, Bool, true, false, not, ◌&&◌, if◌then◌else◌, List, [], ◌∷◌, ◌++◌, length, take}
use Rattle.std.proofs.Common.{get_or}
use Rattle.std.proofs.Common.{All, refl, sym, ap, subst, ◌∙◌, arith}
use Rattle.std.proofs.lemmas.List.{take_more, append-nil, map-append, map_more, length-map, length-take}
use Rattle.std.proofs.lemmas.List.Concat.{flat_map-append}
use Rattle.std.proofs.lemmas.List.Elements.{All-append, All-take}
use Rattle.fuse_request.specs.Opcodes.{Service}
use Rattle.fuse_request.specs.Stream.{IsMessage}
use Rattle.fuse_wire.specs.Ids.{id_of}
use Rattle.fuse_wire.specs.declared.moment.Moment.{Moment}
use Rattle.fuse_request.specs.declared.request.Request.{Request}
use Rattle.fuse_request.specs.declared.class.Class.{Class}
use Rattle.fuse_request.specs.declared.class.Class.TheVariants.{Silent, Bare, Kept, Seen}
use Rattle.fuse_request.specs.Classes.{class_for, class_by, class_if, is_zero, SeenByClass}
use Rattle.fuse_request.specs.Faults.{first_fault}
use Rattle.fuse_request.specs.Header.{raw_of}
use Rattle.fuse_wire.specs.Opcodes.{silent}
use Rattle.fuse_keeper.specs.History.{Entry, kept_of}
use Rattle.fuse_answer.specs.Said.{Said}
use Rattle.fuse_keeper.specs.declared.keeper.Done.{Done}
use Rattle.fuse_keeper.specs.Model.{Model}
use Rattle.fuse_keeper.specs.Group.{entry_of, entries_of, HasId, IsPerformed}
use Rattle.fuse_session.specs.Processed.{Timed, kept_in, performed_of, performed_if, message_entry, destroys, destroys_by, moment_if}
use Rattle.fuse_session.specs.Processed.{bytes_of, timed_entry, moments_in}
use Rattle.fuse_session.specs.Grouping.{is_performed_class}
use Rattle.fuse_session.specs.inner.Group.{NoZero, NoDestroy, DestroyLast, Gathers, classes_in, answers_in, left_by, AreEnough}
use Rattle.fuse_session.proofs.Outs.{kept_performed, performed_of-append}
use Rattle.fuse_session.proofs.Settled.{only_one}

NoZero-append : (xs : List Timed) (t : Timed) → NoZero xs → is_zero t.bytes ≡ false → NoZero (xs ++ t ∷ [])
NoZero-append [] t each here = (here, tt)
NoZero-append (x ∷ xs) t each here = (each.0, NoZero-append xs t each.1 here)

NoDestroy-append : (V : Service) → (xs : List Timed) (t : Timed) → NoDestroy V xs → destroys V t.bytes ≡ false → NoDestroy V (xs ++ t ∷ [])
NoDestroy-append V [] t each here = (here, tt)
NoDestroy-append V (x ∷ xs) t each here = (each.0, NoDestroy-append V xs t each.1 here)

DestroyLast-append : (V : Service) → (xs : List Timed) (t : Timed) → NoDestroy V xs → DestroyLast V (xs ++ t ∷ [])
DestroyLast-append V [] t each = (inl refl, tt)
DestroyLast-append V (x ∷ xs) t each = (inr each.0, DestroyLast-append V xs t each.1)

pub moments-append : (V : Service) → (xs ys : List Timed) → moments_in V (xs ++ ys) ≡ moments_in V xs ++ moments_in V ys
moments-append V xs ys = flat_map-append (λ t. moment_if (class_for V t.bytes) t.moment) xs ys

-- what was given for these messages, and joins for those
pub gave_more : (V : Service) → (gave gave' gave'' : List Moment → Type 0) (xs ys : List Timed) → ((one two : List Moment) → gave one → gave' two → gave'' (one ++ two))
    → gave (moments_in V xs) → gave' (moments_in V ys) → gave'' (moments_in V (xs ++ ys))
gave_more V gave gave' gave'' xs ys joins one two = subst gave'' (sym (moments-append V xs ys)) (joins (moments_in V xs) (moments_in V ys) one two)

-- what is kept of a group is what is kept of its messages
pub kept_gathered : SeenByClass → (V : Service) → (gave : List Moment → Type 0) (prefix : List (List ℕ)) (taken : List (Request × Moment)) (ends : Bool)
    (group : List (Request × Moment)) → (gathers : Gathers V gave prefix taken ends) → group ≡ taken
    → kept_of V (entries_of group) ≡ kept_in V gathers.timed
kept_gathered sees V gave prefix taken ends group gathers same = ap (λ l. kept_of V (entries_of l)) same ∙ ap (kept_of V) gathers.entries
    ∙ kept_performed sees V gathers.timed

pub none_yet_gathered : (V : Service) → (gave : List Moment → Type 0) (taken : List (Request × Moment)) → gave [] → taken ≡ [] → Gathers V gave [] taken false
none_yet_gathered V gave taken none is = record {
  timed = [];
  bytes = refl;
  entries = ap entries_of is;
  moments = none;
  no_zero = tt;
  none = λ _. tt;
  only = tt;
  ended = λ isnt. absurd (cc isnt);
}

one_more_gathered : (V : Service) → (gave gave' gave'' : List Moment → Type 0) → ((one two : List Moment) → gave one → gave' two → gave'' (one ++ two))
    → (prefix : List (List ℕ)) (taken taken' : List (Request × Moment)) (m : List ℕ) (t : Moment) (b : Bool) → Gathers V gave prefix taken false → is_zero m ≡ false
    → entries_of taken' ≡ entries_of taken ++ performed_if (class_for V m) (message_entry m t) → (b ≡ false → destroys V m ≡ false) → (b ≡ true → destroys V m ≡ true)
    → gave' (moment_if (class_for V m) t) → Gathers V gave'' (prefix ++ m ∷ []) taken' b
one_more_gathered V gave gave' gave'' joins prefix taken taken' m t b so_far named entries last it moment =
    let one : Timed = record { bytes = m; moment = t } in
    record {
      timed = so_far.timed ++ one ∷ [];
      bytes = ap (λ r. r ++ m ∷ []) so_far.bytes ∙ sym (map-append (λ (x : Timed). x.bytes) so_far.timed (one ∷ []));
      entries = entries ∙ ap (λ r. r ++ performed_if (class_for V m) (message_entry m t)) so_far.entries
          ∙ ap (λ r. performed_of V so_far.timed ++ r) (sym (append-nil (performed_if (class_for V m) (message_entry m t)))) ∙ sym (performed_of-append V so_far.timed (one ∷ []));
      moments = gave_more V gave gave' gave'' so_far.timed (one ∷ []) joins so_far.moments (subst gave' (sym (append-nil (moment_if (class_for V m) t))) moment);
      no_zero = NoZero-append so_far.timed one so_far.no_zero named;
      none = λ is. NoDestroy-append V so_far.timed one (so_far.none refl) (last is);
      only = DestroyLast-append V so_far.timed one (so_far.none refl);
      ended = λ is. record { earlier = so_far.timed; one = one; parts = refl; destroy = it is };
    }

not_kept : (class : Class) (e : Entry) (opcode : ℕ) → [] ≡ performed_if class e → destroys_by class opcode ≡ false
not_kept Silent e opcode is = refl
not_kept (Bare errno) e opcode is = refl
not_kept Kept e opcode is = absurd (cc is)
not_kept Seen e opcode is = absurd (cc is)

-- a message that isn't performed
pub gathers_none : (V : Service) → (gave gave' gave'' : List Moment → Type 0) → ((one two : List Moment) → gave one → gave' two → gave'' (one ++ two))
    → (ms : List (List ℕ)) (i : ℕ) (m bytes : List ℕ) (taken : List (Request × Moment)) (t : Moment) → i < length ms → m ≡ get_or ms i m → bytes ≡ m
    → Gathers V gave (take i ms) taken false
    → is_zero bytes ≡ false → [] ≡ performed_if (class_for V bytes) (message_entry bytes t) → gave' (moment_if (class_for V bytes) t)
    → Gathers V gave'' (take (i + 1) ms) taken false
gathers_none V gave gave' gave'' joins ms i m bytes taken t lt at is so_far named none moment =
    let grown = one_more_gathered V gave gave' gave'' joins (take i ms) taken taken bytes t false so_far named (sym (append-nil (entries_of taken))
    ∙ ap (λ r. entries_of taken ++ r) none)
    (λ _. not_kept (class_for V bytes) (message_entry bytes t) (raw_of bytes).opcode none) (λ isnt. absurd (cc isnt)) moment in
    subst (λ prefix. Gathers V gave'' prefix taken false) (ap (λ x. take i ms ++ x ∷ []) (is ∙ at) ∙ sym (take_more ms i m lt)) grown

-- one that is
pub gathers_some : (V : Service) → (gave gave' gave'' : List Moment → Type 0) → ((one two : List Moment) → gave one → gave' two → gave'' (one ++ two))
    → (ms : List (List ℕ)) (i : ℕ) (m bytes : List ℕ) (taken taken' : List (Request × Moment)) (one : Request × Moment) (t : Moment) (b : Bool) → i < length ms
    → m ≡ get_or ms i m → bytes ≡ m → Gathers V gave (take i ms) taken false
    → is_zero bytes ≡ false → entry_of one ∷ [] ≡ performed_if (class_for V bytes) (message_entry bytes t) → taken' ≡ taken ++ one ∷ []
    → b ≡ destroys_by (class_for V bytes) (raw_of bytes).opcode → gave' (moment_if (class_for V bytes) t) → Gathers V gave'' (take (i + 1) ms) taken' b
gathers_some V gave gave' gave'' joins ms i m bytes taken taken' one t b lt at is so_far named some pushed last moment =
    let grown = one_more_gathered V gave gave' gave'' joins (take i ms) taken taken' bytes t b so_far named
    (ap entries_of pushed ∙ map-append entry_of taken (one ∷ []) ∙ ap (λ r. entries_of taken ++ r) some)
    (λ isnt. sym last ∙ isnt) (λ is_so. sym last ∙ is_so) moment in
    subst (λ prefix. Gathers V gave'' prefix taken' b) (ap (λ x. take i ms ++ x ∷ []) (is ∙ at) ∙ sym (take_more ms i m lt)) grown

-- whether it is a kept DESTROY, by its class
pub destroys_is : (V : Service) (bytes : List ℕ) (class : Class) (b : Bool) → class ≡ class_for V bytes
    → b ≡ destroys_by class (raw_of bytes).opcode
    → b ≡ destroys V bytes
destroys_is V bytes class b class_is is = is ∙ ap (λ k. destroys_by k (raw_of bytes).opcode) class_is

-- one of a class that is performed
is_active : (class : Class) (x e : Entry) → x ∷ [] ≡ performed_if class e → ((seen : Bool) × (class ≡ class_if seen)) × (x ≡ e)
is_active Silent x e is = absurd (cc is)
is_active (Bare errno) x e is = absurd (cc is)
is_active Kept x e is = ((false, refl), cc is)
is_active Seen x e is = ((true, refl), cc is)

not_zero : (n : ℕ) → (n == 0) ≡ false → n ≢ 0
not_zero n isnt is = grind arith

spoken : (s e : Bool) → s ≡ false → (not s && e) ≡ false → e ≡ false
spoken true e isnt both = absurd (cc isnt)
spoken false e isnt both = both

not_silent : (seen : Bool) → Silent ≡ class_if seen → ⊥
not_silent true is = cc is
not_silent false is = cc is

-- a kept or a seen message is answered
performed_speaks : (V : Service) (m : List ℕ) (seen : Bool) → class_for V m ≡ class_if seen → silent (raw_of m).opcode ≡ false
unfolding class_for
performed_speaks V m seen is =
    elim (silent (raw_of m).opcode) as (λ s. (if s then Silent else class_by V (first_fault m) (raw_of m).opcode) ≡ class_if seen → s ≡ false)
    [ true ↦ λ isnt. absurd (not_silent seen isnt) | false ↦ λ _. refl ] is

pub has_id : (V : Service) → (m : List ℕ) (t : Moment) (seen : Bool) → class_for V m ≡ class_if seen → is_zero m ≡ false → HasId (message_entry m t)
has_id V m t seen is named =
    not_zero (id_of (raw_of m).unique) (spoken (silent (raw_of m).opcode) (id_of (raw_of m).unique == 0) (performed_speaks V m seen is) named)

pub named_some : (V : Service) → (bytes : List ℕ) (taken taken' : List (Request × Moment)) (one : Request × Moment) (t : Moment) → All HasId (entries_of taken)
    → is_zero bytes ≡ false
    → entry_of one ∷ [] ≡ performed_if (class_for V bytes) (message_entry bytes t) → taken' ≡ taken ++ one ∷ [] → All HasId (entries_of taken')
named_some V bytes taken taken' one t each named some pushed =
    let active = is_active (class_for V bytes) (entry_of one) (message_entry bytes t) some in
    let here : HasId (entry_of one) = subst HasId (sym active.1) (has_id V bytes t active.0.0 active.0.1 named) in
    subst (All HasId) (sym (ap entries_of pushed ∙ map-append entry_of taken (one ∷ [])))
    (All-append HasId (entries_of taken) (entry_of one ∷ []) each (only_one HasId (entry_of one) here))

pub kept_some : (V : Service) → (taken taken' : List (Request × Moment)) (one : Request × Moment) → All (IsPerformed V) (entries_of taken) → All (IsPerformed V) (entry_of one ∷ [])
    → taken' ≡ taken ++ one ∷ [] → All (IsPerformed V) (entries_of taken')
kept_some V taken taken' one each here pushed =
    subst (All (IsPerformed V)) (sym (ap entries_of pushed ∙ map-append entry_of taken (one ∷ []))) (All-append (IsPerformed V) (entries_of taken) (entry_of one ∷ []) each here)

-- the class of one message more
pub classes_more : (V : Service) → (ms : List (List ℕ)) (i : ℕ) (m bytes : List ℕ) (classes classes' : List Class) (class : Class) → i < length ms → m ≡ get_or ms i m
    → bytes ≡ m
    → classes ≡ classes_in V (take i ms) → class ≡ class_for V bytes → classes' ≡ classes ++ class ∷ [] → classes' ≡ classes_in V (take (i + 1) ms)
classes_more V ms i m bytes classes classes' class lt at is so here pushed =
    pushed ∙ ap (λ (cs : List Class). cs ++ class ∷ []) so
    ∙ ap (λ (k : Class). classes_in V (take i ms) ++ k ∷ []) (here ∙ ap (class_for V) (is ∙ at))
    ∙ sym (map_more (class_for V) ms i m lt)

-- ---- each kept and each seen message has an answer

enough_by : (class : Class) (e : Entry) (es : List Entry) (list : List Said) → length list ≡ length (performed_if class e ++ es)
    → (is_performed_class class ≡ true → 0 < length list) × (length (left_by class list) ≡ length es)
enough_by Silent e es list is = (λ isnt. absurd (cc isnt), is)
enough_by (Bare errno) e es list is = (λ isnt. absurd (cc isnt), is)
enough_by Kept e es [] is = absurd (omega arith)
enough_by Kept e es (a ∷ list) is = (λ _. omega arith, omega arith)
enough_by Seen e es [] is = absurd (omega arith)
enough_by Seen e es (a ∷ list) is = (λ _. omega arith, omega arith)

enough : (V : Service) → (ts : List Timed) (list : List Said) → length list ≡ length (performed_of V ts) → AreEnough V (bytes_of ts) list
enough V [] list is = tt
enough V (t ∷ ts) list is =
    let p = enough_by (class_for V t.bytes) (timed_entry t) (performed_of V ts) list is in
    (p.0, enough V ts (left_by (class_for V t.bytes) list) p.1)

pub are_enough : (V : Service) → (gave : List Moment → Type 0) (prefix : List (List ℕ)) (taken : List (Request × Moment)) (ends : Bool)
    (slice : List (List ℕ)) (group : List (Request × Moment)) (dones list : List Done)
    → Gathers V gave prefix taken ends → slice ≡ prefix → group ≡ taken → length dones ≡ length group → list ≡ dones
    → AreEnough V slice (answers_in list)
are_enough V gave prefix taken ends slice group dones list gathers same same_group count same_list =
    subst (λ f. AreEnough V f (answers_in list)) (sym (same ∙ gathers.bytes))
    (enough V gathers.timed (answers_in list) (length-map list (λ (d : Done). d.answer) ∙ ap length same_list ∙ count ∙ ap length same_group
    ∙ sym (length-map taken entry_of) ∙ ap length gathers.entries))

-- a group was read off so many messages
pub gathers_to : (V : Service) → (gave : List Moment → Type 0) (messages : List (List ℕ)) (n count : ℕ)
    (taken : List (Request × Moment)) (ends : Bool) → count ≡ n
    → Gathers V gave (take n messages) taken ends → Gathers V gave (take count messages) taken ends
gathers_to V gave messages n count taken ends is gathers = subst (λ k. Gathers V gave (take k messages) taken ends) (sym is) gathers

-- ---- the first messages

pub first_messages : (n : ℕ) (ms : List (List ℕ)) → All IsMessage ms → All IsMessage (take n ms)
first_messages n ms each = All-take IsMessage n ms each

pub first_few : (n : ℕ) (ms : List (List ℕ)) (bound : ℕ) → length ms < bound → length (take n ms) < bound
first_few n ms bound few = omega (arith, length-take n ms, few)
