-- Up to the first message that comes again: the first messages of a group, and of several.
use Rattle.std.proofs.Common.{◌≡◌, ◌⊎◌, inl, inr, ℕ, zero, suc, ◌≤◌, Bool, true, List, [], ◌∷◌, ◌++◌, length, map, take, All, Some}
use Rattle.std.proofs.Common.{refl, sym, ap, subst, ◌∙◌, arith}
use Rattle.std.proofs.lemmas.List.{map-append}
use Rattle.std.proofs.lemmas.Simd.{map-map}
use Rattle.fuse_answer.specs.Said.{Said}
use Rattle.fuse_request.specs.Opcodes.{Service}
use Rattle.fuse_request.specs.declared.class.Class.{Class}
use Rattle.fuse_request.specs.declared.class.Class.TheVariants.{Silent, Bare, Kept, Seen}
use Rattle.fuse_request.specs.Classes.{class_for, SeenByClass}
use Rattle.fuse_keeper.specs.declared.keeper.Done.{Done}
use Rattle.fuse_keeper.specs.History.{Entry, History, after, grown, kept_of, answers_over, is_in, Includes, IsUnsettled, HistoriesGrow}
use Rattle.fuse_keeper.specs.Model.{Model, IsOfGoodState}
use Rattle.fuse_keeper.specs.KeeperState.{KeeperState, ActsOn}
use Rattle.fuse_keeper.specs.Taking.{GroupsGrow}
use Rattle.fuse_keeper.specs.Group.{handed_to}
use Rattle.fuse_session.specs.Processed.{Timed, bytes_of, kept_in, performed_of, performed_if, entries_at, timed_entry, unique_of, answered}
use Rattle.fuse_session.specs.Processed.{own_answers, Works}
use Rattle.fuse_session.specs.Settling.{Mark, replies, settles_by_mark, NoneComesAgain}
use Rattle.fuse_session.specs.Exchange.{FirstAnswered}
use Rattle.fuse_session.specs.inner.Group.{answers_in, head_wire, left_by, wires}
use Rattle.fuse_session.proofs.Standing.{exchanged}
use Rattle.fuse_session.proofs.Settled.{group_unsettled, in_either, unsettled_too}
use Rattle.fuse_session.proofs.Outs.{outs, length_outs, answers_are_outs, kept_performed, performed_of-append, head_is}

-- ---- lists

-- a list in two parts is also in two other parts: the cut of these is in the first part, or in the second
pub either_part : {A : Type 0} (xs ys us vs : List A) → xs ++ ys ≡ us ++ vs
    → ((zs : List A) × (xs ≡ us ++ zs)) ⊎ ((zs : List A) × (us ≡ xs ++ zs) × (ys ≡ zs ++ vs))
either_part [] ys us vs is = inr (us, refl, is)
either_part (x ∷ xs) ys [] vs is = inl (x ∷ xs, refl)
either_part {A} (x ∷ xs) ys (a ∷ us) vs is =
    let head : x ≡ a = cc is in
    let tail : xs ++ ys ≡ us ++ vs = cc is in
    elim (either_part xs ys us vs tail) [
      | inl first ↦ inl (first.0, ap (λ y. y ∷ xs) head ∙ ap (λ (l : List A). a ∷ l) first.1)
      | inr more ↦ inr (more.0, ap (λ (l : List A). a ∷ l) more.1 ∙ ap (λ y. y ∷ (xs ++ more.0)) (sym head), more.2)
    ]

-- the first of some answers, where marks begin all of them
answers_begin : (us vs : List (List ℕ)) (marks : List Mark) (later : List (List ℕ)) → us ++ vs ≡ replies marks ++ later
    → (unsent : List (List ℕ)) × (us ≡ replies (take (length us) marks) ++ unsent)
answers_begin [] vs [] later is = ([], refl)
answers_begin [] vs (m ∷ marks) later is = ([], refl)
answers_begin (a ∷ us) vs [] later is = (a ∷ us, refl)
answers_begin (a ∷ us) vs (m ∷ marks) later is =
    let head : a ≡ m.reply = cc is in
    let rest = answers_begin us vs marks later (cc is) in
    (rest.0, ap (λ y. y ∷ us) head ∙ ap (λ (l : List (List ℕ)). m.reply ∷ l) rest.1)

none_left : (xs ys : List Timed) → xs ++ ys ≡ [] → xs ≡ []
none_left [] ys is = refl
none_left (x ∷ xs) ys is = absurd (cc is)

-- the first of some messages that were processed
works_first : (M : Model) (s : M.State) (h : History) (xs ys : List Timed) → Works M s h (xs ++ ys) → Works M s h xs
works_first M s h [] ys works = tt
works_first M s h (x ∷ xs) ys works = (
  works.0,
  elim works.1 [
    | inl last ↦ inl (none_left xs ys last)
    | inr goes ↦ inr goes
  ],
  works_first M s (grown h (entries_at M.service x)) xs ys works.2,
)

-- later answers say nothing of earlier messages
pub again_some : (V : Service) (c : Bool) (t : List ℕ) (ms : List (List ℕ)) (xs ys : List Mark) → length ms ≤ length xs → NoneComesAgain V c t ms (xs ++ ys)
    → NoneComesAgain V c t ms xs
again_some V c t [] xs ys few again = tt
again_some V c t (m ∷ ms) [] ys few again = absurd (omega (arith, few))
again_some V c t (m ∷ ms) (x ∷ xs) ys few again = (again.0, again_some V c (t ++ settles_by_mark V c m x) ms xs ys (omega (arith, few)) again.1)

-- ---- what the first of a list of answers sends

head_parts : (M : Model) (s : M.State) (h : History) (class : Class) (e : Entry) (es : List Entry) (unique : ℕ) (list others : List Said)
    → map (λ a. Some a) list ≡ answers_over M s h (performed_if class e ++ es)
    → (head_wire class unique (list ++ others) ≡ head_wire class unique list)
    × (left_by class (list ++ others) ≡ left_by class list ++ others)
head_parts M s h Silent e es unique list others are = (refl, refl)
head_parts M s h (Bare errno) e es unique list others are = (refl, refl)
head_parts M s h Kept e es unique [] others are = absurd (cc are)
head_parts M s h Kept e es unique (a ∷ list) others are = (refl, refl)
head_parts M s h Seen e es unique [] others are = absurd (cc are)
head_parts M s h Seen e es unique (a ∷ list) others are = (refl, refl)

wires_first : (M : Model) → SeenByClass → (s : M.State) (h : History) (first later : List Timed) (list others : List Said)
    → map (λ a. Some a) list ≡ answers_over M s h (performed_of M.service first)
    → wires M.service (bytes_of (first ++ later)) (list ++ others) ≡ outs M s h first ++ wires M.service (bytes_of later) others
wires_first M sees s h [] later [] others are = refl
wires_first M sees s h [] later (a ∷ list) others are = absurd (cc are)
wires_first M sees s h (t ∷ first) later list others are =
    let V = M.service in
    let class = class_for V t.bytes in
    let es = performed_of V first in
    let g = grown h (entries_at V t) in
    let both = head_parts M s h class (timed_entry t) es (unique_of t.bytes) list others are in
    let p = head_is M sees s h t es class list refl are in
    ap (λ w. w ∷ wires V (bytes_of (first ++ later)) (left_by class (list ++ others))) (both.0 ∙ p.0)
    ∙ ap (λ (l : List Said). answered M s g h t ∷ wires V (bytes_of (first ++ later)) l) both.1
    ∙ ap (λ ws. answered M s g h t ∷ ws) (wires_first M sees s g first later (left_by class list) others p.1)

-- ---- a group

pub same_answers : (dones : List Done) → map (λ a. Some a) (answers_in dones) ≡ map (λ (d : Done). Some d.answer) dones
same_answers dones = map-map (λ a. Some a) (λ (d : Done). d.answer) dones

handed_pending : (pending : List ℕ) (es : List Entry) (i : ℕ) → is_in (handed_to es pending) i ≡ true → is_in pending i ≡ true
handed_pending pending [] i there = absurd (cc there)
handed_pending pending (e ∷ es) i there = there

with_handed : (t pending : List ℕ) (es : List Entry) → Includes t pending → Includes t (t ++ handed_to es pending)
with_handed t pending es within i there = elim (in_either t (handed_to es pending) i there) [
  | inl old ↦ old
  | inr new ↦ within i (handed_pending pending es i new)
]

-- the first messages of a group that was performed, where these answers were sent of those to it
pub group_first : (M : Model) → HistoriesGrow M → GroupsGrow M → SeenByClass
    → (holds holds' : KeeperState M) (c : Bool) (pending : List ℕ) (ts : List Timed)
    (es : List Entry) (dones : List Done) (marks : List Mark) (later : List (List ℕ))
    → ((s : M.State) (h : History) → Works M s h ts) → es ≡ performed_of M.service ts
    → ActsOn holds holds' (handed_to (kept_of M.service es) pending) es dones
    → wires M.service (bytes_of ts) (answers_in dones) ≡ replies marks ++ later
    → holds'.is_honest → FirstAnswered holds pending (exchanged c ts marks)
unfolding IsOfGoodState
group_first M grows groups sees holds holds' c pending ts es dones marks later works is acts whole honest first others parts s h t so within
    again =
    let V = M.service in
    let handed = handed_to (kept_of V es) pending in
    let unsettled : All (IsUnsettled (t ++ handed)) (kept_in V first) =
    λ k d lt. unsettled_too t (t ++ handed) _ (with_handed t pending (kept_of V es) within)
    (group_unsettled V c t first marks again k d lt) in
    let fresh = subst (All (IsUnsettled (t ++ handed))) (sym (kept_performed sees V first)) unsettled in
    let done = acts honest so.rows so.records so.held (after M s h, so.stands.tree, so.stands.rows_are) in
    let f = groups.first_said (record { rows = so.rows; records = so.records }) handed es (performed_of V first) (performed_of V others)
    (record { rows = done.rows; records = done.records }) dones (record { state = s; history = h; settled = t }) done.taken
    (is ∙ ap (performed_of V) parts ∙ performed_of-append V first others) so.stands fresh in
    let split : outs M s h first ++ wires V (bytes_of others) (answers_in f.others) ≡ replies marks ++ later =
    sym (wires_first M sees s h first others (answers_in f.some) (answers_in f.others) (same_answers f.some ∙ f.says))
    ∙ ap (wires V (bytes_of (first ++ others))) (sym (map-append (λ (d : Done). d.answer) f.some f.others) ∙ sym (ap answers_in f.parts))
    ∙ ap (λ (l : List Timed). wires V (bytes_of l) (answers_in dones)) (sym parts) ∙ whole in
    let r = answers_begin (outs M s h first) (wires V (bytes_of others) (answers_in f.others)) marks later split in
    record {
      works = works_first M s h first others (subst (Works M s h) parts (works s h));
      unsent = r.0;
      sent = answers_are_outs M grows s h first ∙ r.1 ∙ ap (λ n. replies (take n marks) ++ r.0) (length_outs M s h first);
    }

-- where nothing was answered
take_none : (n : ℕ) → take {A = Mark} n [] ≡ []
take_none zero = refl
take_none (suc n) = refl

pub first_unsent : (M : Model) → (holds : KeeperState M) (c : Bool) (pending : List ℕ) (ts : List Timed) → ((s : M.State) (h : History) → Works M s h ts)
    → FirstAnswered holds pending (exchanged c ts [])
first_unsent M holds c pending ts works first others parts s h t so within again = record {
  works = works_first M s h first others (subst (Works M s h) parts (works s h));
  unsent = own_answers M s h first;
  sent = ap (λ (l : List Mark). replies l ++ own_answers M s h first) (sym (take_none (length first)));
}
