-- The answers of a group, one after another.
use Rattle.std.proofs.Common.{◌≡◌, inl, inr, ℕ, zero, suc, ◌+◌, ◌<◌, true, false, List, [], ◌∷◌, ◌++◌, length, take, drop, get_or, refl, sym, ap, subst, ◌∙◌}
use Rattle.std.proofs.Common.{append_assoc, arith, add-one, drop-cons, length-append}
use Rattle.std.proofs.lemmas.List.{append-nil, take_more}
use Rattle.std.proofs.Common.{Bool, ◌||◌, Result, Ok, Err, IfOk}
use Rattle.std.specs.Prelude.{IfErr, OnOk}
use Rattle.fuse_request.specs.Opcodes.{Service}
use Rattle.fuse_wire.specs.declared.errno.Errno.{Errno}
use Rattle.fuse_answer.specs.Wire.{wire}
use Rattle.fuse_answer.specs.Said.{Said}
use Rattle.fuse_request.specs.declared.class.Class.TheVariants.{Silent, Bare, Kept, Seen}
use Rattle.fuse_request.specs.Classes.{class_for}
use Rattle.fuse_keeper.specs.declared.keeper.Done.{Done}
use Rattle.fuse_session.specs.declared.fault.Fault.{Fault}
use Rattle.fuse_session.specs.declared.fault.Fault.TheVariants.{PortFailed, Store, Memory}
use Rattle.fuse_session.specs.Port.{PortState, IsYoung, IsQuiet, SentWhole, MoreGone}
use Rattle.fuse_session.specs.Grouping.{is_performed_class}
use Rattle.fuse_session.specs.Processed.{unique_of, message_id}
use Rattle.fuse_session.specs.declared.port.Sent.{Sent}
use Rattle.fuse_session.specs.Transcript.{PortEvent, Steps, sends_of, Hands, SendsPart}
use Rattle.fuse_session.specs.Slices.{RestsOfAll, RestsOfSome}
use Rattle.fuse_session.specs.inner.Sending.{Sending, sending, HandsSlices, SendFails, SentNext, SentAll, SentSome}
use Rattle.fuse_session.proofs.Transcripts.{sends_more, gone_is}
use Rattle.fuse_session.proofs.Batching.{rests_more, rests_one, some_all}
use Rattle.fuse_session.specs.Settling.{Mark, replies, settles_by_mark, settles_if, settled_in, Replied}
use Rattle.fuse_session.specs.inner.Group.{answers_in, head_wire, left_by, wires, AreEnough}
use Rattle.fuse_session.proofs.Bytes.{appends_none, quiet_none, quiet_more}
use Rattle.fuse_session.proofs.Replies.{replied_none, replied_more, replied_one, replied_part, replies-append}
use Rattle.fuse_session.proofs.Settled.{settled-append}

-- the first of these answers were sent whole, and these are left
pub record SentFirst (V : Service) (x : Sending) (messages answers left : List (List ℕ)) : Type 0 where
  pub marks : List Mark
  pub whole : answers ≡ replies marks ++ left
  pub full : length marks ≡ length messages
  pub replied : Replied x.port x.port' marks []
  pub failures : x.port'.failures ≡ x.port.failures
  pub quiet : IsQuiet x.port x.port'
  pub hands : HandsSlices x.became (RestsOfAll marks)
  pub handed : x.pending' ≡ x.pending ++ settled_in V x.port.confirms messages marks

pub young_still : (a b : PortState) → b.failures ≡ a.failures → IsQuiet a b → IsYoung a → IsYoung b
young_still a b same quiet young = record { receives = omega (arith, quiet.receives, young.receives); failures = omega (arith, same, young.failures) }

-- nothing is sent for a message that isn't answered
pub sent_nothing : (V : Service) (became : List PortEvent → Type 0) → became [] → (p : PortState) (m : List ℕ) (pending : List ℕ) → settles_by_mark V p.confirms m (record { reply = []; gone = false }) ≡ []
    → SentNext V (sending became p p pending pending) m []
sent_nothing V became nothing p m pending none = record {
  mark = record { reply = []; gone = false };
  reply = refl;
  sent = record { sent = appends_none p.sent; some = λ _. refl; failures = refl; gone = refl; quiet = quiet_none p };
  hands = record { slices = []; calls = nothing; rests = tt; left = refl };
  handed = sym (ap (λ (r : List ℕ). pending ++ r) none ∙ append-nil pending);
}

pub sent_first_none : (V : Service) (became : List PortEvent → Type 0) → became [] → (p : PortState) (messages answers : List (List ℕ)) (pending : List ℕ)
    → SentFirst V (sending became p p pending pending) [] answers answers
sent_first_none V became nothing p messages answers pending = record {
  marks = [];
  whole = refl;
  full = refl;
  replied = replied_none p;
  failures = refl;
  quiet = quiet_none p;
  hands = record { slices = []; calls = nothing; kind = refl };
  handed = sym (append-nil pending);
}

-- the slices of answers, and then those of one more
hands_next : (became became' became'' : List PortEvent → Type 0) → ((xs ys : List PortEvent) → became xs → became' ys → became'' (xs ++ ys)) → (b c : PortState)
    → ((es : List PortEvent) → became' es → Steps b c es) → (marks : List Mark) (mark : Mark) → MoreGone mark.gone b.gone c.gone c.sent
    → HandsSlices became (RestsOfAll marks) → Hands became' mark.reply true → HandsSlices became'' (RestsOfAll (marks ++ mark ∷ []))
hands_next became became' became'' joins b c tells marks mark more one two = record {
  slices = one.slices ++ two.slices;
  calls = subst became'' (sym (sends_more one.slices two.slices)) (joins (sends_of one.slices) (sends_of two.slices) one.calls two.calls);
  kind = rests_more marks (mark ∷ []) one.slices two.slices one.kind (rests_one mark two.slices
      (two.rests, two.left, gone_is mark.gone b c two.slices (tells (sends_of two.slices) two.calls) more));
}

hands_some : (became became' became'' : List PortEvent → Type 0) → ((xs ys : List PortEvent) → became xs → became' ys → became'' (xs ++ ys)) → (b c : PortState) (marks : List Mark) (answer : List ℕ)
    → HandsSlices became (RestsOfAll marks) → (two : SendsPart became' b c answer) → HandsSlices became'' (RestsOfSome marks answer two.sent.part)
hands_some became became' became'' joins b c marks answer one two = record {
  slices = one.slices ++ two.hands.slices;
  calls = subst became'' (sym (sends_more one.slices two.hands.slices)) (joins (sends_of one.slices) (sends_of two.hands.slices) one.calls two.hands.calls);
  kind = record {
    whole = one.slices;
    last = two.hands.slices;
    parts = refl;
    answers = one.kind;
    begun = two.hands.rests;
    left = λ _. two.hands.left;
    unsent = two.sent.rest;
    sent = two.sent.parts;
    untaken = (two.more, two.untaken);
  };
}

hands_same : (became became' became'' : List PortEvent → Type 0) → ((xs ys : List PortEvent) → became xs → became' ys → became'' (xs ++ ys)) → (Kind : List (List ℕ × Sent) → Type 0) → HandsSlices became Kind → became' [] → HandsSlices became'' Kind
hands_same became became' became'' joins Kind one nothing = record {
  slices = one.slices;
  calls = subst became'' (append-nil (sends_of one.slices)) (joins (sends_of one.slices) [] one.calls nothing);
  kind = one.kind;
}

pub sent_first_more : (V : Service) (became became' became'' : List PortEvent → Type 0) → ((xs ys : List PortEvent) → became xs → became' ys → became'' (xs ++ ys)) → (a b c : PortState)
    → ((es : List PortEvent) → became' es → Steps b c es) → (prefix answers left left' : List (List ℕ)) (m bytes : List ℕ) (p q r : List ℕ) → left ≡ bytes ∷ left'
    → SentFirst V (sending became a b p q) prefix answers left → SentNext V (sending became' b c q r) m bytes
    → SentFirst V (sending became'' a c p r) (prefix ++ m ∷ []) answers left'
sent_first_more V became became' became'' joins a b c tells prefix answers left left' m bytes p q r is one two = record {
  marks = one.marks ++ two.mark ∷ [];
  whole = one.whole ∙ ap (λ l. replies one.marks ++ l) (is ∙ ap (λ x. x ∷ left') (sym two.reply))
      ∙ sym (append_assoc (replies one.marks) (two.mark.reply ∷ []) left') ∙ ap (λ x. x ++ left') (sym (replies-append one.marks (two.mark ∷ [])));
  full = length-append one.marks (two.mark ∷ []) ∙ ap (λ n. n + 1) one.full ∙ sym (length-append prefix (m ∷ []));
  replied = replied_more a b c one.marks (two.mark ∷ []) [] one.replied (replied_one b c two.mark two.sent);
  failures = two.sent.failures ∙ one.failures;
  quiet = quiet_more a b c one.quiet two.sent.quiet;
  hands = hands_next became became' became'' joins b c tells one.marks two.mark two.sent.gone one.hands two.hands;
  handed = two.handed ∙ ap (λ (x : List ℕ). x ++ settles_by_mark V b.confirms m two.mark) one.handed ∙ append_assoc p (settled_in V a.confirms prefix one.marks)
      (settles_by_mark V b.confirms m two.mark)
      ∙ ap (λ x. p ++ (settled_in V a.confirms prefix one.marks ++ settles_by_mark V x m two.mark)) one.quiet.confirms
      ∙ ap (λ (x : List ℕ). p ++ (settled_in V a.confirms prefix one.marks ++ x)) (sym (append-nil (settles_by_mark V a.confirms m two.mark)))
      ∙ ap (λ (x : List ℕ). p ++ x) (sym (settled-append V a.confirms prefix (m ∷ []) one.marks (two.mark ∷ []) one.full));
}

-- at the message at i
pub left_at : (ms : List (List ℕ)) (i : ℕ) (m bytes : List ℕ) → i < length ms → m ≡ get_or ms i m → bytes ≡ m → drop i ms ≡ bytes ∷ drop (i + 1) ms
left_at ms i m bytes lt at is = rw (add-one) (drop-cons ms i m lt) ∙ ap (λ x. x ∷ drop (i + 1) ms) (sym (is ∙ at))

pub taken_at : (ms : List (List ℕ)) (i : ℕ) (m bytes : List ℕ) → i < length ms → m ≡ get_or ms i m → bytes ≡ m → take i ms ++ bytes ∷ [] ≡ take (i + 1) ms
taken_at ms i m bytes lt at is = ap (λ x. take i ms ++ x ∷ []) (is ∙ at) ∙ sym (take_more ms i m lt)

pub sent_more : (V : Service) (became became' became'' : List PortEvent → Type 0) → ((xs ys : List PortEvent) → became xs → became' ys → became'' (xs ++ ys)) → (a b c : PortState)
    → ((es : List PortEvent) → became' es → Steps b c es) → (ms : List (List ℕ)) (i : ℕ) (m bytes : List ℕ) (list list' : List Said) (all : List (List ℕ)) (p q r : List ℕ)
    → i < length ms → m ≡ get_or ms i m → bytes ≡ m
    → list' ≡ left_by (class_for V bytes) list → SentFirst V (sending became a b p q) (take i ms) all (wires V (drop i ms) list)
    → SentNext V (sending became' b c q r) bytes (head_wire (class_for V bytes) (unique_of bytes) list)
    → SentFirst V (sending became'' a c p r) (take (i + 1) ms) all (wires V (drop (i + 1) ms) list')
sent_more V became became' became'' joins a b c tells ms i m bytes list list' all p q r lt at is left one two =
    let step = sent_first_more V became became' became'' joins a b c tells (take i ms) all (wires V (drop i ms) list) (wires V (drop (i + 1) ms) list') bytes
    (head_wire (class_for V bytes) (unique_of bytes) list) p q r
    (ap (λ x. wires V x list) (left_at ms i m bytes lt at is) ∙ ap (λ x. head_wire (class_for V bytes) (unique_of bytes) list ∷ wires V (drop (i + 1) ms) x)
    (sym left)) one two in
    subst (λ f. SentFirst V (sending became'' a c p r) f all (wires V (drop (i + 1) ms) list')) (taken_at ms i m bytes lt at is) step

-- an answer wasn't sent whole
some_by : (V : Service) (became became' became'' : List PortEvent → Type 0) → ((xs ys : List PortEvent) → became xs → became' ys → became'' (xs ++ ys)) → (fault : Fault) (a b c : PortState) (prefix answers left left' : List (List ℕ)) (bytes : List ℕ) (p q : List ℕ) → left ≡ bytes ∷ left'
    → SentFirst V (sending became a b p q) prefix answers left → SendFails fault became' b c bytes
    → SentSome became'' a c answers fault
some_by V became became' became'' joins Memory a b c prefix answers left left' bytes p q is one same =
    let all = hands_same became became' became'' joins (RestsOfAll one.marks) one.hands same.1 in
    record {
      marks = one.marks;
      answer = [];
      part = [];
      sent = record { later = left; first = one.whole; next = inl refl };
      replied = subst (λ x. Replied a x one.marks []) (sym same.0) one.replied;
      memory = λ _. refl;
      hands = record {
        slices = all.slices;
        calls = all.calls;
        kind = some_all one.marks all.slices all.kind;
      };
      all = λ _. all;
      sends = refl;
      failed = ap (λ (x : PortState). x.failures) same.0 ∙ one.failures;
      quiet = subst (IsQuiet a) (sym same.0) one.quiet;
    }
some_by V became became' became'' joins PortFailed a b c prefix answers left left' bytes p q is one sent =
    let two = sent.sent in
    record {
      marks = one.marks;
      answer = bytes;
      part = two.part;
      sent = record { later = left; first = one.whole; next = inr (left', is) };
      replied = subst (λ x. Replied a c x two.part) (append-nil one.marks) (replied_more a b c one.marks [] two.part one.replied (replied_part b c bytes two));
      memory = λ isnt. absurd (cc isnt);
      hands = hands_some became became' became'' joins b c one.marks bytes one.hands sent;
      all = λ isnt. absurd (cc isnt);
      sends = refl;
      failed = omega (arith, two.failures, one.failures);
      quiet = quiet_more a b c one.quiet two.quiet;
    }
some_by V became became' became'' joins (Store x) a b c prefix answers left left' bytes p q is one two = absurd two

pub sent_some : (V : Service) (became became' became'' : List PortEvent → Type 0) → ((xs ys : List PortEvent) → became xs → became' ys → became'' (xs ++ ys)) → (fault : Fault) (a b c : PortState) (ms : List (List ℕ)) (i : ℕ) (m bytes : List ℕ) (list : List Said) (all : List (List ℕ)) (p q : List ℕ)
    → i < length ms → m ≡ get_or ms i m → bytes ≡ m
    → SentFirst V (sending became a b p q) (take i ms) all (wires V (drop i ms) list) → SendFails fault became' b c (head_wire (class_for V bytes) (unique_of bytes) list)
    → SentSome became'' a c all fault
sent_some V became became' became'' joins fault a b c ms i m bytes list all p q lt at is one two =
    some_by V became became' became'' joins fault a b c (take i ms) all (wires V (drop i ms) list) (wires V (drop (i + 1) ms) (left_by (class_for V bytes) list))
    (head_wire (class_for V bytes) (unique_of bytes) list) p q
    (ap (λ x. wires V x list) (left_at ms i m bytes lt at is)) one two

pub sent_all : (V : Service) (became : List PortEvent → Type 0) → (a b : PortState) (ms left all : List (List ℕ)) (prefix : List (List ℕ)) (p q : List ℕ) → left ≡ [] → prefix ≡ ms
    → SentFirst V (sending became a b p q) prefix all left → SentAll V (sending became a b p q) ms all
sent_all V became a b ms left all prefix p q none same one = record {
  marks = one.marks;
  whole = sym (one.whole ∙ ap (λ x. replies one.marks ++ x) none ∙ append-nil (replies one.marks));
  full = one.full ∙ ap length same;
  replied = one.replied;
  failures = one.failures;
  quiet = one.quiet;
  hands = one.hands;
  handed = one.handed ∙ ap (λ f. p ++ settled_in V a.confirms f one.marks) same;
}

-- ---- the answers that are left

after_one : (dones : List Done) (n : ℕ) (d : Done) → n < length dones → d ≡ get_or dones n d
    → drop n (answers_in dones) ≡ d.answer ∷ drop (suc n) (answers_in dones)
after_one [] n d lt at = absurd (omega arith)
after_one (x ∷ xs) zero d lt at = ap (λ (y : Done). y.answer ∷ answers_in xs) (sym at)
after_one (x ∷ xs) (suc n) d lt at = after_one xs n d (omega arith) at

pub drop_answers : (dones : List Done) (n : ℕ) (d : Done) → n < length dones → d ≡ get_or dones n d
    → drop n (answers_in dones) ≡ d.answer ∷ drop (n + 1) (answers_in dones)
drop_answers dones n d lt at = rw add-one (after_one dones n d lt at)

length_left : (dones : List Done) (n : ℕ) → 0 < length (drop n (answers_in dones)) → n < length dones
length_left [] zero lt = absurd (omega arith)
length_left [] (suc n) lt = absurd (omega arith)
length_left (d ∷ dones) zero lt = omega arith
length_left (d ∷ dones) (suc n) lt = let more = length_left dones n lt in omega arith

-- the message at i uses an answer that is there
pub enough_at : (V : Service) → (ms : List (List ℕ)) (i : ℕ) (m bytes : List ℕ) (dones : List Done) (n : ℕ) → i < length ms → m ≡ get_or ms i m → bytes ≡ m
    → AreEnough V (drop i ms) (drop n (answers_in dones))
    → is_performed_class (class_for V bytes) ≡ true → n < length dones
enough_at V ms i m bytes dones n lt at is (enough) performed =
    let here = subst (λ x. AreEnough V x (drop n (answers_in dones))) (left_at ms i m bytes lt at is) (enough) in
    length_left dones n (here.0 performed)

pub enough_more : (V : Service) → (ms : List (List ℕ)) (i : ℕ) (m bytes : List ℕ) (list list' : List Said) → i < length ms → m ≡ get_or ms i m → bytes ≡ m
    → AreEnough V (drop i ms) list → list' ≡ left_by (class_for V bytes) list
    → AreEnough V (drop (i + 1) ms) list'
enough_more V ms i m bytes list list' lt at is (enough) left =
    let here = subst (λ x. AreEnough V x list) (left_at ms i m bytes lt at is) (enough) in
    subst (AreEnough V (drop (i + 1) ms)) (sym left) here.1

-- ---- one message

silent_settles : (b : Bool) (i : ℕ) → settles_if b Silent i ≡ []
silent_settles true i = refl
silent_settles false i = refl

bare_settles : (b : Bool) (e : Errno) (i : ℕ) → settles_if b (Bare e) i ≡ []
bare_settles true e i = refl
bare_settles false e i = refl

pub next_silent : (V : Service) (became : List PortEvent → Type 0) → became [] → (p : PortState) (m : List ℕ) (list : List Said) (pending : List ℕ) → Silent ≡ class_for V m
    → SentNext V (sending became p p pending pending) m (head_wire (class_for V m) (unique_of m) list)
next_silent V became nothing p m list pending is =
    subst (λ k. SentNext V (sending became p p pending pending) m (head_wire k (unique_of m) list)) is
    (sent_nothing V became nothing p m pending (subst (λ k. settles_if (p.confirms || false) k (message_id m) ≡ []) is (silent_settles (p.confirms || false) (message_id m))))

pub left_silent : (V : Service) → (m : List ℕ) (list : List Said) → Silent ≡ class_for V m → list ≡ left_by (class_for V m) list
left_silent V m list is = subst (λ k. list ≡ left_by k list) is refl

pub left_bare : (V : Service) → (m : List ℕ) (e : Errno) (list : List Said) → Bare e ≡ class_for V m → list ≡ left_by (class_for V m) list
left_bare V m e list is = subst (λ k. list ≡ left_by k list) is refl

pub next_bare : (V : Service) (became : List PortEvent → Type 0) → (a b : PortState) (m : List ℕ) (e : Errno) (gone : Bool) (list : List Said) (pending : List ℕ) → Bare e ≡ class_for V m
    → SentWhole a b (wire e.0 [] (unique_of m)) gone → Hands became (wire e.0 [] (unique_of m)) true
    → SentNext V (sending became a b pending pending) m (head_wire (class_for V m) (unique_of m) list)
next_bare V became a b m e gone list pending is sent hands =
    let none : settles_if (a.confirms || gone) (class_for V m) (message_id m) ≡ [] = subst (λ k. settles_if (a.confirms || gone) k (message_id m) ≡ []) is
    (bare_settles (a.confirms || gone) e (message_id m)) in
    subst (λ k. SentNext V (sending became a b pending pending) m (head_wire k (unique_of m) list)) is
    (record {
      mark = record { reply = wire e.0 [] (unique_of m); gone = gone };
      reply = refl;
      sent = sent;
      hands = hands;
      handed = sym (ap (λ (r : List ℕ). pending ++ r) none ∙ append-nil pending);
    })

pub fails_bare : (V : Service) (fault : Fault) (became : List PortEvent → Type 0) (a b : PortState) (m : List ℕ) (e : Errno) (list : List Said) → Bare e ≡ class_for V m
    → SendFails fault became a b (wire e.0 [] (unique_of m)) → SendFails fault became a b (head_wire (class_for V m) (unique_of m) list)
fails_bare V fault became a b m e list is f = subst (λ k. SendFails fault became a b (head_wire k (unique_of m) list)) is f

-- a kept message, and the answer at its place
head_kept : (V : Service) → (m : List ℕ) (dones : List Done) (n : ℕ) (d : Done) (a : Said) → Kept ≡ class_for V m → n < length dones → d ≡ get_or dones n d → a ≡ d.answer
    → wire a.errno a.body (unique_of m) ≡ head_wire (class_for V m) (unique_of m) (drop n (answers_in dones))
head_kept V m dones n d a is lt at same =
    ap (λ (x : Said). wire x.errno x.body (unique_of m)) same ∙ ap (head_wire Kept (unique_of m)) (sym (drop_answers dones n d lt at))
    ∙ ap (λ k. head_wire k (unique_of m) (drop n (answers_in dones))) is

pub next_kept : (V : Service) (became : List PortEvent → Type 0) → (a b : PortState) (m : List ℕ) (dones : List Done) (n : ℕ) (d : Done) (said : Said) (p q : List ℕ) → Kept ≡ class_for V m → n < length dones
    → d ≡ get_or dones n d → said ≡ d.answer
    → SentNext V (sending became a b p q) m (wire said.errno said.body (unique_of m)) → SentNext V (sending became a b p q) m (head_wire (class_for V m) (unique_of m) (drop n (answers_in dones)))
next_kept V became a b m dones n d said p q is lt at same sent = subst (λ w. SentNext V (sending became a b p q) m w) (head_kept V m dones n d said is lt at same) sent

pub fails_kept : (V : Service) (fault : Fault) (became : List PortEvent → Type 0) (a b : PortState) (m : List ℕ) (dones : List Done) (n : ℕ) (d : Done) (said : Said) → Kept ≡ class_for V m → n < length dones
    → d ≡ get_or dones n d → said ≡ d.answer
    → SendFails fault became a b (wire said.errno said.body (unique_of m)) → SendFails fault became a b (head_wire (class_for V m) (unique_of m) (drop n (answers_in dones)))
fails_kept V fault became a b m dones n d said is lt at same f = subst (SendFails fault became a b) (head_kept V m dones n d said is lt at same) f

pub left_kept : (V : Service) → (m : List ℕ) (dones : List Done) (n : ℕ) (d : Done) → Kept ≡ class_for V m → n < length dones → d ≡ get_or dones n d
    → drop (n + 1) (answers_in dones) ≡ left_by (class_for V m) (drop n (answers_in dones))
left_kept V m dones n d is lt at = subst (λ k. drop (n + 1) (answers_in dones) ≡ left_by k (drop n (answers_in dones))) is
    (ap (left_by Kept) (sym (drop_answers dones n d lt at)))

-- a seen message, and the answer at its place
head_seen : (V : Service) → (m : List ℕ) (dones : List Done) (n : ℕ) (d : Done) (a : Said) → Seen ≡ class_for V m → n < length dones
    → d ≡ get_or dones n d → a ≡ d.answer
    → wire a.errno a.body (unique_of m) ≡ head_wire (class_for V m) (unique_of m) (drop n (answers_in dones))
head_seen V m dones n d a is lt at same =
    ap (λ (x : Said). wire x.errno x.body (unique_of m)) same ∙ ap (head_wire Seen (unique_of m)) (sym (drop_answers dones n d lt at))
    ∙ ap (λ k. head_wire k (unique_of m) (drop n (answers_in dones))) is

seen_settles : (b : Bool) (i : ℕ) → settles_if b Seen i ≡ []
seen_settles true i = refl
seen_settles false i = refl

pub next_seen : (V : Service) (became : List PortEvent → Type 0)
    → (a b : PortState) (m : List ℕ) (gone : Bool) (dones : List Done) (n : ℕ) (d : Done) (said : Said)
    (pending : List ℕ) → Seen ≡ class_for V m → n < length dones → d ≡ get_or dones n d → said ≡ d.answer
    → SentWhole a b (wire said.errno said.body (unique_of m)) gone → Hands became (wire said.errno said.body (unique_of m)) true
    → SentNext V (sending became a b pending pending) m (head_wire (class_for V m) (unique_of m) (drop n (answers_in dones)))
next_seen V became a b m gone dones n d said pending is lt at same sent hands =
    let none : settles_if (a.confirms || gone) (class_for V m) (message_id m) ≡ [] = subst (λ k. settles_if (a.confirms || gone) k
    (message_id m) ≡ []) is
    (seen_settles (a.confirms || gone) (message_id m)) in
    subst (SentNext V (sending became a b pending pending) m) (head_seen V m dones n d said is lt at same) (record {
      mark = record { reply = wire said.errno said.body (unique_of m); gone = gone };
      reply = refl;
      sent = sent;
      hands = hands;
      handed = sym (ap (λ (r : List ℕ). pending ++ r) none ∙ append-nil pending);
    })

pub fails_seen : (V : Service) (fault : Fault) (became : List PortEvent
    → Type 0) (a b : PortState) (m : List ℕ) (dones : List Done) (n : ℕ) (d : Done) (said : Said) → Seen ≡ class_for V m → n < length dones
    → d ≡ get_or dones n d → said ≡ d.answer
    → SendFails fault became a b (wire said.errno said.body (unique_of m))
    → SendFails fault became a b (head_wire (class_for V m) (unique_of m) (drop n (answers_in dones)))
fails_seen V fault became a b m dones n d said is lt at same f = subst (SendFails fault became a b)
    (head_seen V m dones n d said is lt at same) f

pub left_seen : (V : Service) → (m : List ℕ) (dones : List Done) (n : ℕ) (d : Done) → Seen ≡ class_for V m → n < length dones
    → d ≡ get_or dones n d
    → drop (n + 1) (answers_in dones) ≡ left_by (class_for V m) (drop n (answers_in dones))
left_seen V m dones n d is lt at = subst (λ k. drop (n + 1) (answers_in dones) ≡ left_by k (drop n (answers_in dones))) is
    (ap (left_by Seen) (sym (drop_answers dones n d lt at)))

-- the id of a kept message that was answered is pending, where the answer settles it
kept_pending : (b : Bool) (i : ℕ) (p q : List ℕ) → (b ≡ true → q ≡ p ++ i ∷ []) → (b ≡ false → q ≡ p) → q ≡ p ++ settles_if b Kept i
kept_pending true i p q when_so when_not = when_so refl
kept_pending false i p q when_so when_not = when_not refl ∙ sym (append-nil p)

pub kept_next : (V : Service) (became : List PortEvent → Type 0) → (a b : PortState) (m bytes : List ℕ) (gone : Bool) (p q : List ℕ) → class_for V m ≡ Kept → SentWhole a b bytes gone → Hands became bytes true
    → ((b.confirms || gone) ≡ true → q ≡ p ++ message_id m ∷ []) → ((b.confirms || gone) ≡ false → q ≡ p)
    → SentNext V (sending became a b p q) m bytes
kept_next V became a b m bytes gone p q is sent hands when_so when_not = record {
  mark = record { reply = bytes; gone = gone };
  reply = refl;
  sent = sent;
  hands = hands;
  handed = kept_pending (b.confirms || gone) (message_id m) p q when_so when_not ∙ ap (λ c. p ++ settles_if (c || gone) Kept (message_id m)) sent.quiet.confirms
      ∙ ap (λ k. p ++ settles_if (a.confirms || gone) k (message_id m)) (sym is);
}

-- the wire of a refusal
bare_wire : (answer : Said) (e : Errno) (u v : ℕ) → answer ≡ record { errno = e.0; body = [] } → u ≡ v → wire answer.errno answer.body u ≡ wire e.0 [] v
bare_wire answer e u v is same = ap (λ (a : Said). wire a.errno a.body u) is ∙ ap (wire e.0 []) same

pub bare_sent : (a b : PortState) (answer : Said) (e : Errno) (u v : ℕ) (gone : Bool) → answer ≡ record { errno = e.0; body = [] } → u ≡ v
    → SentWhole a b (wire answer.errno answer.body u) gone → SentWhole a b (wire e.0 [] v) gone
bare_sent a b answer e u v gone is same sent = subst (λ w. SentWhole a b w gone) (bare_wire answer e u v is same) sent

pub bare_hands : (became : List PortEvent → Type 0) → (answer : Said) (e : Errno) (u v : ℕ) → answer ≡ record { errno = e.0; body = [] } → u ≡ v
    → Hands became (wire answer.errno answer.body u) true → Hands became (wire e.0 [] v) true
bare_hands became answer e u v is same hands = subst (λ w. Hands became w true) (bare_wire answer e u v is same) hands

pub bare_fails : (fault : Fault) (became : List PortEvent → Type 0) → (a b : PortState) (answer : Said) (e : Errno) (u v : ℕ) → answer ≡ record { errno = e.0; body = [] } → u ≡ v
    → SendFails fault became a b (wire answer.errno answer.body u) → SendFails fault became a b (wire e.0 [] v)
bare_fails fault became a b answer e u v is same f = subst (SendFails fault became a b) (bare_wire answer e u v is same) f

pub if_ok : {A E : Type 0} (r : Result A E) (P Q : A → Type 0) → ((x : A) → P x → Q x) → IfOk r P → IfOk r Q
if_ok (Ok x) P Q f p = f x p
if_ok (Err e) P Q f p = p

pub if_err : {A E : Type 0} (r : Result A E) (P Q : E → Type 0) → ((x : E) → P x → Q x) → IfErr r P → IfErr r Q
if_err (Ok x) P Q f p = p
if_err (Err e) P Q f p = f e p

pub on_ok : {A E : Type 0} (r : Result A E) (P Q : Type 0) → (P → Q) → OnOk r P → OnOk r Q
on_ok (Ok x) P Q f p = f p
on_ok (Err e) P Q f p = p
