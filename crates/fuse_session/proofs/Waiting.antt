-- Messages that are taken, one after another.
use Rattle.std.proofs.Common.{◌≡◌, ◌<◌, ◌+◌, ◌-◌, ℕ, List, [], ◌∷◌, ◌++◌, length, take, ◌≤◌, All, Option, Some, None, Ok, Err, refl, sym, ap, subst, ◌∙◌, append_assoc}
use Rattle.std.proofs.Common.{arith, length-append}
use Rattle.std.specs.Option.{option_or}
use Rattle.std.proofs.lemmas.List.{append-nil, length-take-le}
use Rattle.std.proofs.lemmas.List.Elements.{All-append, All-nil}
use Rattle.fuse_request.specs.declared.framer.FrameFault.{FrameFault}
use Rattle.fuse_request.specs.declared.framer.FrameFault.TheVariants.{Short, TooLong, Cut, Memory}
use Rattle.fuse_request.specs.declared.header.TheConstants.{MAX_MESSAGE}
use Rattle.fuse_request.specs.Stream.{cut, joined, IsMessage}
use Rattle.fuse_request.specs.Framing.{HeldBytes, HasNone, Gives, GivesNext, bad_length, end_fault, ends, needed}
use Rattle.fuse_session.specs.inner.Receiving.{IsOpen, TookAll}
use Rattle.fuse_session.proofs.Replies.{joined-append}
use Rattle.fuse_session.proofs.Settled.{only_one}

-- the first messages were taken
pub record TookSome (old new : HeldBytes) (messages : List (List ℕ)) : Type 0 where
  pub prefix : (cut old.bytes).0 ≡ messages ++ (cut new.bytes).0
  pub rest : (cut old.bytes).1 ≡ (cut new.bytes).1
  pub at : new.at ≡ old.at + length (joined messages)
  pub fault : new.fault ≡ None
  pub each : All IsMessage messages
  pub few : length messages ≤ length (joined messages)

pub took_none : (h : HeldBytes) (messages : List (List ℕ)) → messages ≡ [] → h.fault ≡ None → TookSome h h messages
took_none h messages none ready = subst (TookSome h h) (sym none) (record {
  prefix = refl;
  rest = refl;
  at = omega arith;
  fault = ready;
  each = All-nil IsMessage;
  few = omega arith;
})

pub took_more : (a b c : HeldBytes) (ms ms' : List (List ℕ)) (m : List ℕ) → ms' ≡ ms ++ m ∷ [] → TookSome a b ms → Gives b c m → TookSome a c ms'
took_more a b c ms ms' m pushed one g =
    let size : length (joined (ms ++ m ∷ [])) ≡ length (joined ms) + length m =
    ap length (joined-append ms (m ∷ []) ∙ ap (λ (x : List ℕ). joined ms ++ x) (append-nil m)) ∙ length-append (joined ms) m in
    let low = g.message.low in
    subst (TookSome a c) (sym pushed) (record {
      prefix = one.prefix ∙ ap (λ (x : List (List ℕ) × List ℕ). ms ++ x.0) g.first ∙ sym (append_assoc ms (m ∷ []) (cut c.bytes).0);
      rest = one.rest ∙ ap (λ (x : List (List ℕ) × List ℕ). x.1) g.first;
      at = omega (arith, g.at, one.at, size);
      fault = g.fault ∙ one.fault;
      each = All-append IsMessage ms (m ∷ []) one.each (only_one IsMessage m g.message);
      few = omega (arith, one.few, size, length-append ms (m ∷ []), low);
    })

-- what was given out is shorter
pub gives_less : (b c : HeldBytes) (m : List ℕ) → Gives b c m → length c.bytes < length b.bytes
gives_less b c m g = let low = g.message.low in omega (arith, ap length g.rest, length-append m c.bytes, low)

both : {A B : Type 0} (p : A × B) (x : A) (y : B) → p.0 ≡ x → p.1 ≡ y → p ≡ (x, y)
both (a, b) x y e f = cc

took_all : (a b c : HeldBytes) (ms : List (List ℕ)) (fault : Option FrameFault) → TookSome a b ms → HasNone b.bytes → bad_length b.at b.bytes ≡ fault
    → c.bytes ≡ b.bytes → c.at ≡ b.at → (fault ≡ None → IsOpen c) → TookAll a c ms fault
took_all a b c ms fault one none bad same same_at ready = record {
  cut_is = both (cut a.bytes) ms c.bytes (one.prefix ∙ ap (λ (x : List (List ℕ) × List ℕ). ms ++ x.0) none ∙ append-nil ms)
      (one.rest ∙ ap (λ (x : List (List ℕ) × List ℕ). x.1) none ∙ sym same);
  at = same_at ∙ one.at;
  each = one.each;
  few = one.few;
  bad = ap (λ n. bad_length n c.bytes) same_at ∙ ap (bad_length b.at) same ∙ bad;
  opened = ready;
}

-- nothing more is whole
pub took_whole : (a b c : HeldBytes) (ms : List (List ℕ)) → TookSome a b ms → GivesNext b c (Ok None) → length c.bytes < MAX_MESSAGE → TookAll a c ms None
took_whole a b c ms one g room =
    took_all a b c ms None one g.0 g.1 (ap (λ (h : HeldBytes). h.bytes) g.2) (ap (λ (h : HeldBytes). h.at) g.2)
    (λ _. record {
      fault = ap (λ (h : HeldBytes). h.fault) g.2 ∙ one.fault;
      none = subst (λ (h : HeldBytes). HasNone h.bytes) (sym g.2) g.0;
      good = subst (λ (h : HeldBytes). bad_length h.at h.bytes ≡ None) (sym g.2) g.1;
      short = room;
    })

bad_next : (b c : HeldBytes) (f : FrameFault) → (f ≡ Memory → ⊥) → GivesNext b c (Err f) → HasNone b.bytes × (bad_length b.at b.bytes ≡ Some f)
    × (c ≡ record b { fault = Some f })
bad_next b c (Short at len) isnt g = g
bad_next b c (TooLong at len) isnt g = g
bad_next b c (Cut at have need) isnt g = g
bad_next b c Memory isnt g = absurd (isnt refl)

-- a bad length follows
pub took_bad : (a b c : HeldBytes) (ms ms' : List (List ℕ)) (f : FrameFault) (fault : Option FrameFault) → TookSome a b ms → GivesNext b c (Err f) → (f ≡ Memory → ⊥)
    → ms' ≡ ms → fault ≡ Some f → TookAll a c ms' fault
took_bad a b c ms ms' f fault one g isnt same is =
    let n = bad_next b c f isnt g in
    subst (λ x. TookAll a c x fault) (sym same) (took_all a b c ms fault one n.0 (n.1 ∙ sym is) (ap (λ (h : HeldBytes). h.bytes) n.2) (ap (λ (h : HeldBytes). h.at) n.2)
    (λ none. absurd (cc (none, is))))

-- ---- the end of a port

ends_open : (h : HeldBytes) → IsOpen h → ends h ≡ end_fault h.at h.bytes
ends_open h ready =
    let left = ap (λ (x : List (List ℕ) × List ℕ). x.1) ready.none in
    let here : h.at + (length h.bytes - length (cut h.bytes).1) ≡ h.at = omega (arith, ap length left) in
    ap (λ n. end_fault n (cut h.bytes).1) here ∙ ap (end_fault h.at) left

nothing_left : (at : ℕ) (w : List ℕ) → bad_length at w ≡ None → None ≡ end_fault at w → w ≡ []
nothing_left at [] good is = refl
nothing_left at (x ∷ w) good is = absurd (let e = is ∙ ap (λ o. option_or o (Some (Cut at (length (x ∷ w)) (needed (x ∷ w))))) good in cc)

pub end_empty : (h : HeldBytes) → IsOpen h → None ≡ ends h → h.bytes ≡ []
end_empty h ready is = nothing_left h.at h.bytes ready.good (is ∙ ends_open h ready)

pub end_faulty : (h : HeldBytes) (f : FrameFault) → IsOpen h → Some f ≡ ends h → end_fault h.at h.bytes ≡ Some f
end_faulty h f ready is = sym (is ∙ ends_open h ready)

-- a new framer
pub ready_new : (h : HeldBytes) → h ≡ record { bytes = []; at = 0; fault = None } → IsOpen h
unfolding cut
ready_new h is = subst IsOpen (sym is) (record { fault = refl; none = refl; good = refl; short = omega arith })

-- a buffer keeps its length
pub room_still : (n : ℕ) (new rest : List ℕ) → length new ≡ 135168 → n ≡ 135168 → length (take n (new ++ rest)) ≡ 135168
room_still n new rest is same = length-take-le n (new ++ rest) (omega (arith, length-append new rest, is, same)) ∙ same
