-- Which ids are settled, group after group.
use Rattle.std.proofs.Common.{◌≡◌, ◌⊎◌, inl, inr, ℕ, Bool, true, false, ◌||◌, ◌==◌, List, [], ◌∷◌, ◌++◌, length, All, refl, sym, ap, subst, ◌∙◌}
use Rattle.std.proofs.Common.{◌≤◌, append_assoc, arith, length-append}
use Rattle.std.proofs.Math.Bool.{or-true}
use Rattle.std.proofs.lemmas.List.{append-nil, map-append}
use Rattle.std.proofs.lemmas.List.Folds.{list_any-append}
use Rattle.std.proofs.lemmas.Bool.{eqb-true, or_cases, false_from_ne_true, both_ways}
use Rattle.std.proofs.lemmas.List.Elements.{All-append, All-nil, All-cons, All-head, All-tail}
use Rattle.fuse_request.specs.Opcodes.{Service}
use Rattle.fuse_request.specs.declared.class.Class.{Class}
use Rattle.fuse_request.specs.declared.class.Class.TheVariants.{Silent, Bare, Kept, Seen}
use Rattle.fuse_request.specs.Classes.{class_for}
use Rattle.fuse_keeper.specs.History.{Entry, entry_id, is_in, ids_in, Includes, IsUnsettled}
use Rattle.fuse_session.specs.Processed.{Timed, bytes_of, kept_in, entries_at, entry_if, timed_entry, message_id}
use Rattle.fuse_session.specs.Settling.{Mark, settles_by_mark, settles_if, settled_in, comes_again, NoneComesAgain}

-- ---- lists of ids

is_in-append : (xs ys : List ℕ) (i : ℕ) → is_in (xs ++ ys) i ≡ (is_in xs i || is_in ys i)
is_in-append xs ys i = list_any-append (λ x. x == i) xs ys

pub includes_left : (xs ys : List ℕ) → Includes (xs ++ ys) xs
includes_left xs ys i there = is_in-append xs ys i ∙ ap (λ b. b || is_in ys i) there

pub includes_right : (xs ys : List ℕ) → Includes (xs ++ ys) ys
includes_right xs ys i there = is_in-append xs ys i ∙ ap (λ b. is_in xs i || b) there ∙ or-true (is_in xs i)

pub in_either : (xs ys : List ℕ) (i : ℕ) → is_in (xs ++ ys) i ≡ true → (is_in xs i ≡ true) ⊎ (is_in ys i ≡ true)
in_either xs ys i there = or_cases (is_in xs i) (is_in ys i) (sym (is_in-append xs ys i) ∙ there)

pub unsettled_too : (all some : List ℕ) (i : ℕ) → Includes all some → is_in all i ≡ false → is_in some i ≡ false
unsettled_too all some i within isnt = false_from_ne_true (is_in some i) (λ there. both_ways (is_in all i) isnt (within i there))

-- ---- what is settled by messages

if_not : (b rest : Bool) → (b ≡ true → ⊥) → rest ≡ false → (b || rest) ≡ false
if_not true rest isnt absent = absurd (isnt refl)
if_not false rest isnt absent = absent

pub settled-append : (V : Service) → (c : Bool) (xs ys : List (List ℕ)) (ms ns : List Mark) → length ms ≡ length xs → settled_in V c (xs ++ ys) (ms ++ ns) ≡ settled_in V c xs ms
    ++ settled_in V c ys ns
settled-append V c [] ys [] ns same = refl
settled-append V c [] ys (m ∷ ms) ns same = absurd (omega arith)
settled-append V c (x ∷ xs) ys [] ns same = absurd (omega arith)
settled-append V c (x ∷ xs) ys (m ∷ ms) ns same =
    ap (λ (r : List ℕ). settles_by_mark V c x m ++ r) (settled-append V c xs ys ms ns (omega arith))
    ∙ sym (append_assoc (settles_by_mark V c x m) (settled_in V c xs ms) (settled_in V c ys ns))

pub settled_none : (V : Service) → (c : Bool) (xs : List (List ℕ)) → settled_in V c xs [] ≡ []
settled_none V c [] = refl
settled_none V c (x ∷ xs) = refl

-- messages, and then others
pub again-parts : (V : Service) → (c : Bool) (t : List ℕ) (xs ys : List (List ℕ)) (ms ns : List Mark) → length ms ≡ length xs → NoneComesAgain V c t (xs ++ ys) (ms ++ ns)
    → NoneComesAgain V c t xs ms × NoneComesAgain V c (t ++ settled_in V c xs ms) ys ns
again-parts V c t [] ys [] ns same each = (tt, subst (λ (u : List ℕ). NoneComesAgain V c u ys ns) (sym (append-nil t)) each)
again-parts V c t [] ys (m ∷ ms) ns same each = absurd (omega arith)
again-parts V c t (x ∷ xs) ys [] ns same each = absurd (omega arith)
again-parts V c t (x ∷ xs) ys (m ∷ ms) ns same each =
    let rest = again-parts V c (t ++ settles_by_mark V c x m) xs ys ms ns (omega arith) each.1 in
    ((each.0, rest.0), subst (λ (u : List ℕ). NoneComesAgain V c u ys ns) (append_assoc t (settles_by_mark V c x m) (settled_in V c xs ms)) rest.1)

fewer : (t more : List ℕ) (es : List Entry) → All (IsUnsettled (t ++ more)) es → All (IsUnsettled t) es
fewer t more es each k d lt = unsettled_too (t ++ more) t _ (includes_left t more) (each k d lt)

pub only_one : {A : Type 0} (P : A → Type 0) (x : A) → P x → All P (x ∷ [])
only_one P x p = All-cons P x [] p (All-nil P)

one_unsettled : (t : List ℕ) (m : Timed) (class : Class) → comes_again t class (message_id m.bytes) ≡ false
    → All (IsUnsettled t) (entry_if class (timed_entry m))
one_unsettled t m Silent may = All-nil (IsUnsettled t)
one_unsettled t m (Bare errno) may = All-nil (IsUnsettled t)
one_unsettled t m Kept may = only_one (IsUnsettled t) (timed_entry m) may
one_unsettled t m Seen may = All-nil (IsUnsettled t)

-- none of a group's entries has an id that was settled before the group
pub group_unsettled : (V : Service) → (c : Bool) (t : List ℕ) (ts : List Timed) (marks : List Mark) → NoneComesAgain V c t (bytes_of ts) marks → All (IsUnsettled t) (kept_in V ts)
group_unsettled V c t [] marks each = All-nil (IsUnsettled t)
group_unsettled V c t (m ∷ ts) [] each =
    All-append (IsUnsettled t) (entries_at V m) (kept_in V ts) (one_unsettled t m (class_for V m.bytes) each.0) (group_unsettled V c t ts [] each.1)
group_unsettled V c t (m ∷ ts) (mark ∷ marks) each =
    All-append (IsUnsettled t) (entries_at V m) (kept_in V ts) (one_unsettled t m (class_for V m.bytes) each.0)
    (fewer t (settles_by_mark V c m.bytes mark) (kept_in V ts) (group_unsettled V c (t ++ settles_by_mark V c m.bytes mark) ts marks each.1))

-- ---- what is settled by a group

-- where the port confirms, the answers to messages settle the ids of all kept ones
kept_settled : (t : Timed) (m : Mark) (class : Class) → settles_if (true || m.gone) class (message_id t.bytes) ≡ ids_in (entry_if class (timed_entry t))
kept_settled t m Silent = refl
kept_settled t m (Bare errno) = refl
kept_settled t m Kept = refl
kept_settled t m Seen = refl

pub all_settled : (V : Service) → (ts : List Timed) (marks : List Mark) → length marks ≡ length ts → settled_in V true (bytes_of ts) marks ≡ ids_in (kept_in V ts)
all_settled V [] [] same = refl
all_settled V [] (m ∷ marks) same = absurd (omega arith)
all_settled V (t ∷ ts) [] same = absurd (omega arith)
all_settled V (t ∷ ts) (m ∷ marks) same =
    ap (λ (r : List ℕ). r ++ settled_in V true (bytes_of ts) marks) (kept_settled t m (class_for V t.bytes))
    ∙ ap (λ (r : List ℕ). ids_in (entries_at V t) ++ r) (all_settled V ts marks (omega arith)) ∙ sym (map-append entry_id (entries_at V t) (kept_in V ts))

one_within : (b : Bool) (t : Timed) (class : Class) (i : ℕ) → is_in (settles_if b class (message_id t.bytes)) i ≡ true
    → is_in (ids_in (entry_if class (timed_entry t))) i ≡ true
one_within false t class i there = absurd (cc there)
one_within true t Silent i there = there
one_within true t (Bare errno) i there = there
one_within true t Kept i there = there
one_within true t Seen i there = there

-- only the ids of kept messages are settled
pub settled_within : (V : Service) → (c : Bool) (ts : List Timed) (marks : List Mark) → Includes (ids_in (kept_in V ts)) (settled_in V c (bytes_of ts) marks)
settled_within V c [] marks i there = absurd (cc there)
settled_within V c (t ∷ ts) [] i there = absurd (cc there)
settled_within V c (t ∷ ts) (m ∷ marks) i there =
    let here = ids_in (entries_at V t) in
    let rest = ids_in (kept_in V ts) in
    ap (λ x. is_in x i) (map-append entry_id (entries_at V t) (kept_in V ts))
    ∙ (elim (in_either (settles_by_mark V c t.bytes m) (settled_in V c (bytes_of ts) marks) i there) [
      | inl one ↦ includes_left here rest i (one_within (c || m.gone) t (class_for V t.bytes) i one)
      | inr more ↦ includes_right here rest i (settled_within V c ts marks i more)
    ])

short_one : (b : Bool) (t : Timed) (class : Class) → length (settles_if b class (message_id t.bytes)) ≤ length (entry_if class
    (timed_entry t))
short_one false t class = omega arith
short_one true t Silent = omega arith
short_one true t (Bare errno) = omega arith
short_one true t Kept = omega arith
short_one true t Seen = omega arith

-- and no more of them
pub settled_short : (V : Service) → (c : Bool) (ts : List Timed) (marks : List Mark)
    → length (settled_in V c (bytes_of ts) marks) ≤ length (kept_in V ts)
settled_short V c [] marks = omega arith
settled_short V c (t ∷ ts) [] = omega arith
settled_short V c (t ∷ ts) (m ∷ marks) = omega (
  arith,
  short_one (c || m.gone) t (class_for V t.bytes),
  settled_short V c ts marks,
  length-append (settles_by_mark V c t.bytes m) (settled_in V c (bytes_of ts) marks),
  length-append (entries_at V t) (kept_in V ts),
)

-- an id that was settled before is none of a group's
pub none_again : (u : List ℕ) (es : List Entry) (i : ℕ) → All (IsUnsettled u) es → is_in u i ≡ true → is_in (ids_in es) i ≡ false
none_again u [] i each there = refl
none_again u (e ∷ es) i each there =
    if_not (entry_id e == i) (is_in (ids_in es) i)
    (λ is. let same = eqb-true (entry_id e) i is in let first = All-head (IsUnsettled u) e es each in absurd (cc (same, first, there)))
    (none_again u es i (All-tail (IsUnsettled u) e es each) there)
