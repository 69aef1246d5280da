-- What a keeper was asked to perform, and which slices were handed over, one batch after another.
use Rattle.std.proofs.Common.{◌≡◌, inr, ℕ, Bool, List, [], ◌∷◌, ◌++◌, refl, sym, ap, subst, ◌∙◌, append_assoc}
use Rattle.std.proofs.lemmas.List.{append-nil}
use Rattle.fuse_request.specs.Opcodes.{Service}
use Rattle.fuse_request.specs.Classes.{SeenByClass}
use Rattle.fuse_keeper.specs.History.{Entry, kept_of}
use Rattle.fuse_keeper.specs.Group.{handed_to, left_pending}
use Rattle.fuse_keeper.specs.Performance.{Performance, performances_of}
use Rattle.fuse_session.specs.declared.port.Sent.{Sent}
use Rattle.fuse_session.specs.Processed.{Timed, bytes_of, kept_in, performed_of}
use Rattle.fuse_session.proofs.Outs.{kept_performed}
use Rattle.fuse_session.specs.Settling.{Mark, settled_in}
use Rattle.fuse_session.specs.Slices.{RestsOfWhole, RestsOfAll, RestsOfSome}
use Rattle.fuse_session.specs.Batches.{Batch, timed_in, marks_in, pending_after, handed_over, left_over, AnsweredButLast, AllAnswered, AreBatches}

-- ---- batches, and then others

timed-append : (bs cs : List Batch) → timed_in (bs ++ cs) ≡ timed_in bs ++ timed_in cs
timed-append [] cs = refl
timed-append (b ∷ bs) cs = ap (λ (r : List Timed). b.timed ++ r) (timed-append bs cs) ∙ sym (append_assoc b.timed (timed_in bs) (timed_in cs))

marks-append : (bs cs : List Batch) → marks_in (bs ++ cs) ≡ marks_in bs ++ marks_in cs
marks-append [] cs = refl
marks-append (b ∷ bs) cs = ap (λ (r : List Mark). b.marks ++ r) (marks-append bs cs) ∙ sym (append_assoc b.marks (marks_in bs) (marks_in cs))

pub are_more : (bs cs : List Batch) (xs ys : List Timed) (ms ns : List Mark) → AreBatches bs xs ms → AreBatches cs ys ns
    → AreBatches (bs ++ cs) (xs ++ ys) (ms ++ ns)
are_more bs cs xs ys ms ns one two = record {
  messages = ap (λ (r : List Timed). r ++ ys) one.messages ∙ ap (λ (r : List Timed). timed_in bs ++ r) two.messages ∙ sym (timed-append bs cs);
  answers = ap (λ (r : List Mark). r ++ ns) one.answers ∙ ap (λ (r : List Mark). marks_in bs ++ r) two.answers ∙ sym (marks-append bs cs);
}

pub answered_more : (bs cs : List Batch) → AllAnswered bs → AllAnswered cs → AllAnswered (bs ++ cs)
answered_more [] cs one two = two
answered_more (b ∷ bs) cs one two = (one.0, answered_more bs cs one.1 two)

pub answered_last : (bs cs : List Batch) → AllAnswered bs → AnsweredButLast cs → AnsweredButLast (bs ++ cs)
answered_last [] cs one two = two
answered_last (b ∷ bs) cs one two = (inr one.0, answered_last bs cs one.1 two)

pub answered_all : (bs : List Batch) → AllAnswered bs → AnsweredButLast bs
answered_all [] one = tt
answered_all (b ∷ bs) one = (inr one.0, answered_all bs one.1)

-- what is asked for batches, and then for others
asked-append : (V : Service) (c : Bool) (ids : List ℕ) (bs cs : List Batch)
    → handed_over V c ids (bs ++ cs) ≡ handed_over V c ids bs ++ handed_over V c (left_over V c ids bs) cs
asked-append V c ids [] cs = refl
asked-append V c ids (b ∷ bs) cs =
    let first = performances_of (performed_of V b.timed) (handed_to (kept_in V b.timed) ids) in
    let then_left = pending_after V c ids b in
    ap (λ (r : List Performance). first ++ r) (asked-append V c then_left bs cs)
    ∙ sym (append_assoc first (handed_over V c then_left bs) (handed_over V c (left_over V c then_left bs) cs))

left-append : (V : Service) (c : Bool) (ids : List ℕ) (bs cs : List Batch) → left_over V c ids (bs ++ cs) ≡ left_over V c (left_over V c ids bs) cs
left-append V c ids [] cs = refl
left-append V c ids (b ∷ bs) cs = left-append V c (pending_after V c ids b) bs cs

pub asked_both : (V : Service) (c c' : Bool) (ids ids' : List ℕ) (bs cs : List Batch) (xs ys : List Performance) → c' ≡ c → ids' ≡ left_over V c ids bs
    → xs ≡ handed_over V c ids bs → ys ≡ handed_over V c' ids' cs → xs ++ ys ≡ handed_over V c ids (bs ++ cs)
asked_both V c c' ids ids' bs cs xs ys same left one two =
    ap (λ (r : List Performance). r ++ ys) one ∙ ap (λ (r : List Performance). handed_over V c ids bs ++ r)
    (two ∙ ap (λ b. handed_over V b ids' cs) same ∙ ap (λ l. handed_over V c l cs) left) ∙ sym (asked-append V c ids bs cs)

pub left_both : (V : Service) (c c' : Bool) (ids ids' ids'' : List ℕ) (bs cs : List Batch) → c' ≡ c → ids' ≡ left_over V c ids bs
    → ids'' ≡ left_over V c' ids' cs → ids'' ≡ left_over V c ids (bs ++ cs)
left_both V c c' ids ids' ids'' bs cs same left two =
    two ∙ ap (λ b. left_over V b ids' cs) same ∙ ap (λ l. left_over V c l cs) left ∙ sym (left-append V c ids bs cs)

-- ---- one batch

abbrev pub one_batch : List Timed → List Mark → List Batch
one_batch timed marks = record { timed = timed; marks = marks } ∷ []

pub are_one : (timed : List Timed) (marks : List Mark) → AreBatches (one_batch timed marks) timed marks
are_one timed marks = record { messages = sym (append-nil timed); answers = sym (append-nil marks) }

pub asked_one : SeenByClass → (V : Service) (c : Bool) (ids : List ℕ) (timed : List Timed) (marks : List Mark) (es : List Entry) (xs : List Performance)
    → es ≡ performed_of V timed → xs ≡ performances_of es (handed_to (kept_of V es) ids) → xs ≡ handed_over V c ids (one_batch timed marks)
asked_one sees V c ids timed marks es xs same is =
    is ∙ ap (λ l. performances_of l (handed_to (kept_of V l) ids)) same
    ∙ ap (λ k. performances_of (performed_of V timed) (handed_to k ids)) (kept_performed sees V timed)
    ∙ sym (append-nil (performances_of (performed_of V timed) (handed_to (kept_in V timed) ids)))

pub left_one : SeenByClass → (V : Service) (c : Bool) (ids mid ids' : List ℕ) (timed : List Timed) (marks : List Mark) (es : List Entry) (prefix : List (List ℕ))
    → es ≡ performed_of V timed → mid ≡ left_pending (kept_of V es) ids → prefix ≡ bytes_of timed → ids' ≡ mid ++ settled_in V c prefix marks
    → ids' ≡ left_over V c ids (one_batch timed marks)
left_one sees V c ids mid ids' timed marks es prefix same left bytes is =
    is ∙ ap (λ p. mid ++ settled_in V c p marks) bytes ∙ ap (λ (l : List ℕ). l ++ settled_in V c (bytes_of timed) marks) (left
    ∙ ap (λ e. left_pending (kept_of V e) ids) same ∙ ap (λ k. left_pending k ids) (kept_performed sees V timed))

-- ---- slices of several answers

pub rests_more : (ms ns : List Mark) (xs ys : List (List ℕ × Sent)) → RestsOfAll ms xs → RestsOfAll ns ys → RestsOfAll (ms ++ ns) (xs ++ ys)
rests_more [] ns xs ys one two = subst (λ (l : List (List ℕ × Sent)). RestsOfAll ns (l ++ ys)) (sym one) two
rests_more (m ∷ ms) ns xs ys one two = (
  one.0,
  one.1 ++ ys,
  ap (λ (l : List (List ℕ × Sent)). l ++ ys) one.2 ∙ append_assoc one.0 one.1 ys,
  one.3,
  rests_more ms ns one.1 ys one.4 two,
)

pub rests_one : (m : Mark) (xs : List (List ℕ × Sent)) → RestsOfWhole m xs → RestsOfAll (m ∷ []) xs
rests_one m xs one = (xs, [], sym (append-nil xs), one, refl)

pub some_more : (ms ns : List Mark) (answer part : List ℕ) (xs ys : List (List ℕ × Sent)) → RestsOfAll ms xs → RestsOfSome ns answer part ys
    → RestsOfSome (ms ++ ns) answer part (xs ++ ys)
some_more ms ns answer part xs ys one two = record {
  whole = xs ++ two.whole;
  last = two.last;
  parts = ap (λ (l : List (List ℕ × Sent)). xs ++ l) two.parts ∙ sym (append_assoc xs two.whole two.last);
  answers = rests_more ms ns xs two.whole one two.answers;
  begun = two.begun;
  left = two.left;
  unsent = two.unsent;
  sent = two.sent;
  untaken = two.untaken;
}

pub some_all : (ms : List Mark) (xs : List (List ℕ × Sent)) → RestsOfAll ms xs → RestsOfSome ms [] [] xs
some_all ms xs one = record {
  whole = xs;
  last = [];
  parts = sym (append-nil xs);
  answers = one;
  begun = tt;
  left = λ some. some;
  unsent = [];
  sent = refl;
  untaken = ([], refl);
}
