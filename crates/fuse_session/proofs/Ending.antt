-- Which messages end a session.
use Rattle.std.proofs.Common.{◌≡◌, inl, inr, ℕ, Bool, true, false, ◌==◌, List, [], ◌∷◌, ◌++◌, map, Option, Some, refl, sym, ap, ◌∙◌}
use Rattle.fuse_answer.specs.Said.{Said}
use Rattle.fuse_request.specs.declared.class.Class.{Class}
use Rattle.fuse_request.specs.declared.class.Class.TheVariants.{Silent, Bare, Kept, Seen}
use Rattle.fuse_request.specs.Classes.{class_for, SeenByClass}
use Rattle.fuse_request.specs.Header.{raw_of}
use Rattle.fuse_keeper.specs.Model.{Model}
use Rattle.fuse_keeper.specs.History.{entry_id, History, add, said, grown, kept_of, answer_if, answer_after, answers_over, HistoriesGrow}
use Rattle.fuse_session.specs.Processed.{Timed, kept_in, performed_of, performed_if, entries_at, entry_if, timed_entry, message_id}
use Rattle.fuse_session.specs.Processed.{destroys, destroys_by, says_zero, GoesOn, Works, EndsLast, LastDestroys}
use Rattle.fuse_session.specs.inner.Group.{NoZero, NoDestroy, DestroyLast, last_zero, left_by}
use Rattle.fuse_session.proofs.Outs.{grown_kept, kept_performed, performed_of-append, head_is, answers_kept_first}

two_ways : (b : Bool) → b ≡ true → b ≡ false → ⊥
two_ways true t f = cc
two_ways false t f = cc

pub goes_none : (M : Model) → (s : M.State) (h : History) (ts : List Timed) → NoZero ts → NoDestroy M.service ts → GoesOn M s h ts
goes_none M s h [] zero none = tt
goes_none M s h (t ∷ ts) named none = (named.0, λ ends. two_ways (destroys M.service t.bytes) ends.0 none.0, goes_none M s (grown h (entries_at M.service t)) ts named.1 none.1)

pub works_group : (M : Model) → (s : M.State) (h : History) (ts : List Timed) → NoZero ts → DestroyLast M.service ts → Works M s h ts
works_group M s h [] named only = tt
works_group M s h (t ∷ ts) named only = (
  named.0,
  elim only.0 [ inl empty ↦ inl empty | inr none ↦ inr (λ ends. two_ways (destroys M.service t.bytes) ends.0 none) ],
  works_group M s
      (grown h (entries_at M.service t)) ts named.1 only.1,
)

last_tail : (a : Said) (list : List Said) → last_zero (a ∷ list) ≡ false → last_zero list ≡ false
last_tail a [] h = refl
last_tail a (b ∷ list) h = h

last_left : (class : Class) (list : List Said) → last_zero list ≡ false → last_zero (left_by class list) ≡ false
last_left Silent list last = last
last_left (Bare errno) list last = last
last_left Kept [] last = refl
last_left Kept (a ∷ list) last = last_tail a list last
last_left Seen [] last = refl
last_left Seen (a ∷ list) last = last_tail a list last

not_ending : (M : Model) → SeenByClass → (s : M.State) (h : History) (t : Timed) (class : Class) (list : List Said) → class_for M.service t.bytes ≡ class
    → map (λ a. Some a) list ≡ answers_over M s h (performed_if class (timed_entry t) ++ [])
    → last_zero list ≡ false → destroys_by class (raw_of t.bytes).opcode ≡ true
    → says_zero (said M s (grown h (entry_if class (timed_entry t))) (message_id t.bytes)) ≡ true → ⊥
not_ending M sees s h t Silent list is are last d z = cc d
not_ending M sees s h t (Bare errno) list is are last d z = cc d
not_ending M sees s h t Kept [] is are last d z = cc are
not_ending M sees s h t Kept (a ∷ []) is are last d z =
    let here : Some a ≡ said M s (add h (timed_entry t)) (message_id t.bytes) = cc (are ∙ answers_kept_first M sees s h t [] is) in
    two_ways (a.errno == 0) (ap says_zero here ∙ z) last
not_ending M sees s h t Kept (a ∷ b ∷ list) is are last d z = cc are
not_ending M sees s h t Seen list is are last d z = cc d

pub goes_last : (M : Model) → SeenByClass → (s : M.State) (h : History) (ts : List Timed) (list : List Said) → NoZero ts → DestroyLast M.service ts
    → map (λ a. Some a) list ≡ answers_over M s h (performed_of M.service ts) → last_zero list ≡ false → GoesOn M s h ts
goes_last M sees s h [] list named only are last = tt
goes_last M sees s h (t ∷ ts) list named only are last =
    let V = M.service in
    let class = class_for V t.bytes in
    let left = (head_is M sees s h t (performed_of V ts) class list refl are).1 in (
      named.0,
      elim only.0 [
        | inl empty ↦ λ ends. not_ending M sees s h t class list refl
            (are ∙ ap (λ (r : List Timed). answers_over M s h (performed_if class
            (timed_entry t) ++ performed_of V r)) empty) last ends.0 ends.1
        | inr none ↦ λ ends. two_ways (destroys V t.bytes) ends.0 none
      ],
      goes_last M sees s (grown h (entries_at V t)) ts (left_by class list) named.1 only.1 left (last_left class list last),
    )

last_of : (list : List Said) (ys : List (Option Said)) (o : Option Said) → map (λ a. Some a) list ≡ ys ++ o ∷ [] → last_zero list ≡ says_zero o
last_of [] [] o is = absurd (cc is)
last_of [] (y ∷ ys) o is = absurd (cc is)
last_of (a ∷ []) [] o is = let same : Some a ≡ o = cc is in ap says_zero same
last_of (a ∷ []) (y ∷ []) o is = absurd (cc is)
last_of (a ∷ []) (y ∷ z ∷ ys) o is = absurd (cc is)
last_of (a ∷ b ∷ list) [] o is = absurd (cc is)
last_of (a ∷ b ∷ list) (y ∷ ys) o is = last_of (b ∷ list) ys o (cc is)

kept_if : (class : Class) (opcode : ℕ) → destroys_by class opcode ≡ true → class ≡ Kept
kept_if Silent opcode is = absurd (cc is)
kept_if (Bare errno) opcode is = absurd (cc is)
kept_if Kept opcode is = refl
kept_if Seen opcode is = absurd (cc is)

pub ends_last : (M : Model) → HistoriesGrow M → SeenByClass → (s : M.State) (h : History) (timed : List Timed) (list : List Said) → LastDestroys M.service timed
    → map (λ a. Some a) list ≡ answers_over M s h (performed_of M.service timed) → last_zero list ≡ true → EndsLast M s h timed
ends_last M grows sees s h timed list l are zero =
    let V = M.service in
    let e = timed_entry l.one in
    let g = grown h (kept_in V l.earlier) in
    let first = performed_of V l.earlier in
    let kept = kept_if (class_for V l.one.bytes) (raw_of l.one.bytes).opcode l.destroy in
    let entries : performed_of V timed ≡ first ++ e ∷ [] = ap (performed_of V) l.parts ∙ performed_of-append V l.earlier (l.one ∷ [])
    ∙ ap (λ c. first ++ (performed_if c e ++ [])) kept in
    let answer : answer_after M s (grown h (kept_of V first)) e ≡ said M s (add g e) (entry_id e) =
    ap (λ es. answer_after M s (grown h es) e) (kept_performed sees V l.earlier)
    ∙ ap (λ b. answer_if M b s g e) (sees V l.one.bytes false kept) in
    let says = last_of list (answers_over M s h first) (answer_after M s (grown h (kept_of V first)) e)
    (are ∙ ap (answers_over M s h) entries ∙ grows.one_more s h first e) in
    let last : grown h (kept_in V timed) ≡ add g e = ap (λ ts. grown h (kept_in V ts)) l.parts ∙ grown_kept V h l.earlier (l.one ∷ [])
    ∙ ap (λ c. grown g (entry_if c e ++ [])) kept in
    record {
      earlier = l.earlier;
      one = l.one;
      parts = l.parts;
      ends = (l.destroy, ap (λ x. says_zero (said M s x (message_id l.one.bytes))) last ∙ ap says_zero (sym answer) ∙ sym says ∙ zero);
    }
