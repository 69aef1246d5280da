-- How messages count, one after another.
use Rattle.std.proofs.Common.{◌≡◌, ◌&&◌, not, ◌+◌, ◌≤◌, ◌<◌, ℕ, Bool, true, false, List, [], ◌∷◌, ◌++◌, length, drop, refl, sym, ap, subst, ◌∙◌, arith, add-one}
use Rattle.std.proofs.lemmas.List.{get_or-map, drop_all, length-map}
use Rattle.std.proofs.Math.Nat.{zero-add, add-zero, add_assoc}
use Rattle.fuse_request.specs.Opcodes.{Service}
use Rattle.fuse_request.specs.declared.class.Class.{Class}
use Rattle.fuse_request.specs.declared.class.Class.TheVariants.{Silent, Bare, Kept, Seen}
use Rattle.fuse_request.specs.Classes.{class_for, SeenByClass}
use Rattle.std.proofs.Common.{zero, suc, get_or}
use Rattle.fuse_keeper.specs.declared.keeper.Done.{Done}
use Rattle.fuse_keeper.specs.History.{Entry, entry_id, History, has, grown, unless_seen, repeats}
use Rattle.fuse_session.specs.declared.counts.SessionCounts.{SessionCounts}
use Rattle.fuse_session.specs.Processed.{Timed, bytes_of, kept_in, entries_at, entry_if, performed_if, performed_of, timed_entry}
use Rattle.fuse_session.specs.Counting.{plus, none_counted, counted_one, counted, one_if, is_interrupt}
use Rattle.fuse_session.specs.inner.Counting.{IsBelow}
use Rattle.fuse_session.specs.inner.Group.{tallied, head_repeat, left_by, repeats_in, classes_in}
use Rattle.fuse_session.proofs.Outs.{grown-append}

pub plus_assoc : (a b c : SessionCounts) → plus (plus a b) c ≡ plus a (plus b c)
plus_assoc a b c = simp add_assoc

pub none_plus : (a : SessionCounts) → plus none_counted a ≡ a
none_plus a = simp zero-add

pub plus_none : (a : SessionCounts) → plus a none_counted ≡ a
plus_none a = simp add-zero

pub counted-append : (V : Service) → (h : History) (xs ys : List Timed) → counted V h (xs ++ ys) ≡ plus (counted V h xs) (counted V (grown h (kept_in V xs)) ys)
counted-append V h [] ys = sym (none_plus (counted V h ys))
counted-append V h (x ∷ xs) ys =
    let g = grown h (entries_at V x) in
    let one = counted_one (class_for V x.bytes) (has h (entry_id (timed_entry x))) (is_interrupt x.bytes) in
    ap (plus one) (counted-append V g xs ys)
    ∙ ap (λ f. plus one (plus (counted V g xs) (counted V f ys))) (sym (grown-append h (entries_at V x) (kept_in V xs)))
    ∙ sym (plus_assoc one (counted V g xs) (counted V (grown h (entries_at V x ++ kept_in V xs)) ys))

tally_one : SeenByClass → (V : Service) (h : History) (t : Timed) (es : List Entry) (class : Class) (i : Bool) → class_for V t.bytes ≡ class
    → counted_one class (head_repeat (repeats V h (performed_if class (timed_entry t) ++ es))) i ≡ counted_one class (has h (entry_id (timed_entry t))) i
tally_one sees V h t es Silent i is = refl
tally_one sees V h t es (Bare errno) i is = refl
tally_one sees V h t es Kept i is = ap (λ b. counted_one Kept (not b && has h (entry_id (timed_entry t))) i) (sees V t.bytes false is)
tally_one sees V h t es Seen i is = refl

tally_left : SeenByClass → (V : Service) (h : History) (t : Timed) (es : List Entry) (class : Class) → class_for V t.bytes ≡ class
    → left_by class (repeats V h (performed_if class (timed_entry t) ++ es)) ≡ repeats V (grown h (entry_if class (timed_entry t))) es
tally_left sees V h t es Silent is = refl
tally_left sees V h t es (Bare errno) is = refl
tally_left sees V h t es Kept is = ap (λ b. repeats V (grown h (unless_seen b (timed_entry t))) es) (sees V t.bytes false is)
tally_left sees V h t es Seen is = ap (λ b. repeats V (grown h (unless_seen b (timed_entry t))) es) (sees V t.bytes true is)

-- what each message is by the answers is what it is by the history
pub tallied_is : SeenByClass → (V : Service) → (ts : List Timed) (h : History) → tallied V (bytes_of ts) (repeats V h (performed_of V ts)) ≡ counted V h ts
tallied_is sees V [] h = refl
tallied_is sees V (t ∷ ts) h =
    let class = class_for V t.bytes in
    let one = counted_one class (has h (entry_id (timed_entry t))) (is_interrupt t.bytes) in
    ap (λ c. plus c (tallied V (bytes_of ts) (left_by class (repeats V h (performed_if class (timed_entry t) ++ performed_of V ts)))))
    (tally_one sees V h t (performed_of V ts) class (is_interrupt t.bytes) refl)
    ∙ ap (λ r. plus one (tallied V (bytes_of ts) r)) (tally_left sees V h t (performed_of V ts) class refl)
    ∙ ap (plus one) (tallied_is sees V ts (grown h (entries_at V t)))

one_if_below : (b : Bool) → one_if b ≤ 1
one_if_below true = omega arith
one_if_below false = omega arith

one_below : (class : Class) (b i : Bool) → IsBelow (counted_one class b i) 1
one_below Silent b i = record {
  messages = omega arith;
  kept = omega arith;
  repeated = omega arith;
  seen = omega arith;
  bare = omega arith;
  silent = omega arith;
  interrupts =
      one_if_below i;
}
one_below (Bare errno) b i = record {
  messages = omega arith;
  kept = omega arith;
  repeated = omega arith;
  seen = omega arith;
  bare = omega arith;
  silent = omega arith;
  interrupts =
      omega arith;
}
one_below Kept b i = record {
  messages = omega arith;
  kept = omega arith;
  repeated = one_if_below b;
  seen = omega arith;
  bare = omega arith;
  silent = omega arith;
  interrupts =
      omega arith;
}
one_below Seen b i = record {
  messages = omega arith;
  kept = omega arith;
  repeated = omega arith;
  seen = omega arith;
  bare = omega arith;
  silent = omega arith;
  interrupts =
      omega arith;
}

pub plus_below : (a b : SessionCounts) (m n : ℕ) → IsBelow a m → IsBelow b n → IsBelow (plus a b) (m + n)
plus_below a b m n x y = record {
  messages = omega (arith, x.messages, y.messages);
  kept = omega (arith, x.kept, y.kept);
  repeated = omega (arith, x.repeated, y.repeated);
  seen = omega (arith, x.seen, y.seen);
  bare = omega (arith, x.bare, y.bare);
  silent = omega (arith, x.silent, y.silent);
  interrupts = omega (arith, x.interrupts, y.interrupts);
}

pub below_more : (a : SessionCounts) (m n : ℕ) → m ≤ n → IsBelow a m → IsBelow a n
below_more a m n le x = record {
  messages = omega (arith, x.messages);
  kept = omega (arith, x.kept);
  repeated = omega (arith, x.repeated);
  seen = omega (arith, x.seen);
  bare = omega (arith, x.bare);
  silent = omega (arith, x.silent);
  interrupts = omega (arith, x.interrupts);
}

pub one_counted_below : (c : SessionCounts) (class : Class) (b i : Bool) → c ≡ counted_one class b i → IsBelow c 1
one_counted_below c class b i is = subst (λ x. IsBelow x 1) (sym is) (one_below class b i)

-- one message more
pub tallied_more : (V : Service) → (ms rest : List (List ℕ)) (repeated repeated' : List Bool) (m : List ℕ) (counts one counts' all : SessionCounts) → ms ≡ m ∷ rest
    → one ≡ counted_one (class_for V m) (head_repeat repeated) (is_interrupt m)
    → counts' ≡ plus counts one → repeated' ≡ left_by (class_for V m) repeated → plus counts (tallied V ms repeated) ≡ all
    → plus counts' (tallied V rest repeated') ≡ all
tallied_more V ms rest repeated repeated' m counts one counts' all is one_is now left so_far =
    ap (λ c. plus c (tallied V rest repeated')) now
    ∙ ap (λ r. plus (plus counts one) (tallied V rest r)) left
    ∙ plus_assoc counts one (tallied V rest (left_by (class_for V m) repeated))
    ∙ ap (λ x. plus counts (plus x (tallied V rest (left_by (class_for V m) repeated)))) one_is
    ∙ ap (λ x. plus counts (tallied V x repeated)) (sym is)
    ∙ so_far

-- ---- whether the next kept message is a repeat

pub repeat_here : (dones : List Done) (n : ℕ) (d : Done) → n < length dones → d ≡ get_or dones n d → d.repeated ≡ head_repeat (drop n (repeats_in dones))
repeat_here [] n d lt at = absurd (omega arith)
repeat_here (x ∷ xs) zero d lt at = ap (λ (y : Done). y.repeated) at
repeat_here (x ∷ xs) (suc n) d lt at = repeat_here xs n d (omega arith) at

pub repeat_none : (dones : List Done) (n : ℕ) → length dones ≤ n → false ≡ head_repeat (drop n (repeats_in dones))
repeat_none [] zero le = refl
repeat_none [] (suc n) le = refl
repeat_none (x ∷ xs) zero le = absurd (omega arith)
repeat_none (x ∷ xs) (suc n) le = repeat_none xs n (omega arith)

used_one : (dones : List Done) (n : ℕ) → n < length dones → drop (suc n) (repeats_in dones) ≡ left_by Kept (drop n (repeats_in dones))
used_one [] n lt = absurd (omega arith)
used_one (x ∷ xs) zero lt = refl
used_one (x ∷ xs) (suc n) lt = used_one xs n (omega arith)

pub used_kept : (class : Class) (dones : List Done) (n : ℕ) → Kept ≡ class → n < length dones
    → drop (n + 1) (repeats_in dones) ≡ left_by class (drop n (repeats_in dones))
used_kept class dones n is lt = subst (λ k. drop (n + 1) (repeats_in dones) ≡ left_by k (drop n (repeats_in dones))) is (rw add-one (used_one dones n lt))

seen_as_kept : {A : Type 0} (xs : List A) → left_by Kept xs ≡ left_by Seen xs
seen_as_kept [] = refl
seen_as_kept (x ∷ xs) = refl

pub used_seen : (class : Class) (dones : List Done) (n : ℕ) → Seen ≡ class → n < length dones
    → drop (n + 1) (repeats_in dones) ≡ left_by class (drop n (repeats_in dones))
used_seen class dones n is lt =
    used_kept Kept dones n refl lt ∙ seen_as_kept (drop n (repeats_in dones)) ∙ ap (λ k. left_by k (drop n (repeats_in dones))) is

left_none : {A : Type 0} (class : Class) (xs : List A) → xs ≡ [] → xs ≡ left_by class xs
left_none Silent xs is = refl
left_none (Bare errno) xs is = refl
left_none Kept [] is = refl
left_none Kept (x ∷ xs) is = absurd (cc is)
left_none Seen [] is = refl
left_none Seen (x ∷ xs) is = absurd (cc is)

pub used_none : (class : Class) (dones : List Done) (n : ℕ) → length dones ≤ n
    → drop n (repeats_in dones) ≡ left_by class (drop n (repeats_in dones))
used_none class dones n past =
    let same = length-map dones (λ (d : Done). d.repeated) in
    left_none class (drop n (repeats_in dones)) (drop_all n (repeats_in dones) (omega (arith, past, same)))

-- ---- the class at a place

pub class_at : (V : Service) → (ms : List (List ℕ)) (classes : List Class) (i : ℕ) (m bytes : List ℕ) (d : Class) → classes ≡ classes_in V ms → i < length ms → m ≡ get_or ms i m
    → bytes ≡ m
    → get_or classes i d ≡ class_for V bytes
class_at V ms classes i m bytes d are lt at is = ap (λ cs. get_or cs i d) are ∙ get_or-map (class_for V) ms i m d lt ∙ ap (class_for V) (sym (is ∙ at))
