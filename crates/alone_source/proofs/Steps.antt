-- A read that hands bytes on, beside the bytes that a framer holds after them.
use Rattle.std.proofs.Common.{◌≡◌, ◌≤◌, ℕ, zero, suc, Bool, true, false, cond, List, [], ◌∷◌, ◌++◌, length, take, drop, Option, Result, Ok, Err, inl}
use Rattle.std.proofs.Common.{refl, sym, ap, subst, ◌∙◌, append_assoc, arith}
use Rattle.std.specs.Prelude.{◌||◌}
use Rattle.std.proofs.lemmas.List.{take-append-drop, append-nil}
use Rattle.std.specs.declared.io.Error.{Error}
use Rattle.fuse_wire.specs.Laws.{NumbersRead}
use Rattle.fuse_wire.specs.declared.id.Id.{Id}
use Rattle.fuse_request.specs.Stream.{is_whole, cut, CutSteps, CutJoins, IsOneCut}
use Rattle.alone_source.specs.Holding.{HeldState, is_bad, rest_after, lost_after, handed, HandsOn}
use Rattle.alone_source.specs.Reads.{HandsSome, PassesOn, read_by, ReadsAlone}
use Rattle.alone_source.specs.Turns.{turn_of, IsApart}
use Rattle.alone_source.specs.declared.source.AloneSource.{AloneSource}
use Rattle.alone_source.proofs.Firsts.{bad_more, rest_stuck}
use Rattle.alone_source.proofs.Turns.{turn_first, turn_past, turn_apart, apart_begins}

-- the laws of the crates below
pub record Laws : Type 0 where
  pub numbers : NumbersRead
  pub one : IsOneCut
  pub joins : CutJoins
  pub steps : CutSteps

-- the bytes that were handed on after the last whole message are those that the state says, or begin with a bad length
abbrev pub IsBegun : Bool → List ℕ → List ℕ → Type 0
IsBegun false begun h = h ≡ begun
IsBegun true begun h = is_bad h ≡ true

pub record Follows (id : Option Id) (s : HeldState) (h : List ℕ) : Type 0 where
  pub alone : s.alone ≡ id
  pub stuck : is_whole h ≡ false
  pub begun : IsBegun s.is_lost s.begun h

-- what comes of bytes that are handed on
pub record Steps (id : Option Id) (t : HeldState) (h bytes : List ℕ) : Type 0 where
  pub apart : IsApart id (cut (h ++ bytes)).0
  pub follows : Follows id t (cut (h ++ bytes)).1

-- a prefix that is no longer than another one begins it
begins_other : (b h turn rest : List ℕ) → b ++ h ≡ turn ++ rest → length b ≤ length turn → b ++ drop (length b) turn ≡ turn
begins_other [] h turn rest e le = refl
begins_other (x ∷ b) h [] rest e le = absurd (omega arith)
begins_other (x ∷ b) h (y ∷ turn) rest e le =
    let same : x ≡ y = cc in
    let more : b ++ h ≡ turn ++ rest = cc in
    ap (λ (z : ℕ). z ∷ (b ++ drop (length b) turn)) same ∙ ap (λ (zs : List ℕ). y ∷ zs) (begins_other b h turn rest more (omega arith))

begun_after : (bad : Bool) (r : List ℕ) → is_bad r ≡ bad → IsBegun bad (cond {A = List ℕ} bad [] r) r
begun_after true r e = e
begun_after false r e = refl

hands_begun : Laws → (id : Option Id) (s : HeldState) (piece : List ℕ) (room : ℕ) → s.alone ≡ id → s.is_lost ≡ false → is_whole s.begun ≡ false
    → piece ≡ take room (drop (length s.begun) (turn_of s.alone (s.begun ++ s.held))) → Steps id (handed s piece) s.begun piece
hands_begun laws id s piece room alone going stuck is =
    let w : List ℕ = s.begun ++ s.held in
    let turn : List ℕ = turn_of s.alone w in
    let first = turn_first laws.one s.alone w in
    let past = turn_past laws.numbers laws.steps s.alone s.begun s.held stuck in
    let rest : List ℕ = drop room (drop (length s.begun) turn) in
    let parts : piece ++ rest ≡ drop (length s.begun) turn =
    ap (λ (x : List ℕ). x ++ rest) is ∙ take-append-drop room (drop (length s.begun) turn) in
    let whole : (s.begun ++ piece) ++ rest ≡ turn =
    append_assoc s.begun piece rest ∙ ap (λ (x : List ℕ). s.begun ++ x) parts ∙ begins_other s.begun s.held turn first.rest first.is past.least in
    let all : IsApart id (cut ((s.begun ++ piece) ++ rest)).0 =
    subst (λ (x : List ℕ). IsApart id (cut x).0) (sym whole)
    (subst (λ (i : Option Id). IsApart i (cut turn).0) alone (turn_apart laws.one s.alone w)) in
    let lost : lost_after s piece ≡ is_bad (rest_after s piece) = ap (λ (b : Bool). b || is_bad (rest_after s piece)) going in
    record {
      apart = apart_begins laws.joins id (s.begun ++ piece) rest all;
      follows = record {
        alone = alone;
        stuck = rest_stuck laws.one (s.begun ++ piece);
        begun = subst (λ (b : Bool). IsBegun b (cond {A = List ℕ} b [] (rest_after s piece)) (rest_after s piece)) (sym lost)
            (begun_after (is_bad (rest_after s piece)) (rest_after s piece) refl);
      };
    }

hands_lost : Laws → (id : Option Id) (s : HeldState) (h piece : List ℕ) → s.alone ≡ id → s.is_lost ≡ true → is_bad h ≡ true
    → Steps id (handed s piece) h piece
hands_lost laws id s h piece alone lost bad =
    let more = bad_more laws.numbers h piece bad in
    let cuts : cut (h ++ piece) ≡ ([], h ++ piece) = (laws.steps (h ++ piece)).1 more.1 in
    let none : (cut (h ++ piece)).0 ≡ [] = ap (λ (c : List (List ℕ) × List ℕ). c.0) cuts in
    let rest : (cut (h ++ piece)).1 ≡ h ++ piece = ap (λ (c : List (List ℕ) × List ℕ). c.1) cuts in
    let still : lost_after s piece ≡ true = ap (λ (b : Bool). b || is_bad (rest_after s piece)) lost in
    record {
      apart = subst (IsApart id) (sym none) (inl tt);
      follows = record {
        alone = alone;
        stuck = rest_stuck laws.one (h ++ piece);
        begun = subst (λ (b : Bool). IsBegun b (cond {A = List ℕ} b [] (rest_after s piece)) (cut (h ++ piece)).1) (sym still)
            (subst (λ (x : List ℕ). is_bad x ≡ true) (sym rest) more.0);
      };
    }

hands_by : Laws → (id : Option Id) (s : HeldState) (h piece : List ℕ) (room : ℕ) (lost : Bool) → s.is_lost ≡ lost → s.alone ≡ id → is_whole h ≡ false
    → IsBegun lost s.begun h
    → piece ≡ take room (cond {A = List ℕ} lost s.held (drop (length s.begun) (turn_of s.alone (s.begun ++ s.held)))) → Steps id (handed s piece) h piece
hands_by laws id s h piece room true lost alone stuck begun is = hands_lost laws id s h piece alone lost begun
hands_by laws id s h piece room false going alone stuck begun is =
    subst (λ (x : List ℕ). Steps id (handed s piece) x piece) (sym begun)
    (hands_begun laws id s piece room alone going (subst (λ (x : List ℕ). is_whole x ≡ false) begun stuck) is)

-- bytes that are held are handed on
pub hands : Laws → (id : Option Id) (s t : HeldState) (h buffer : List ℕ) (n : ℕ) → HandsOn s t n buffer → Follows id s h → Steps id t h (take n buffer)
hands laws id s t h buffer n d f =
    subst (λ (u : HeldState). Steps id u h (take n buffer)) (sym d.state)
    (hands_by laws id s h (take n buffer) (length buffer) s.is_lost refl f.alone f.stuck f.begun d.turn)

-- nothing is
pub hands_none : Laws → (id : Option Id) (s t : HeldState) (h : List ℕ) → t ≡ s → Follows id s h → Steps id t h []
hands_none laws id s t h same f =
    let e : h ++ [] ≡ h = append-nil h in
    let cuts : cut (h ++ []) ≡ ([], h) = ap cut e ∙ (laws.steps h).1 f.stuck in
    record {
      apart = subst (IsApart id) (sym (ap (λ (c : List (List ℕ) × List ℕ). c.0) cuts)) (inl tt);
      follows = subst (Follows id t) (sym (ap (λ (c : List (List ℕ) × List ℕ). c.1) cuts)) (subst (λ (u : HeldState). Follows id u h) (sym same) f);
    }

-- the bytes that a read gave
abbrev pub given_by : Result ℕ Error → List ℕ → List ℕ
given_by (Ok n) buffer = take n buffer
given_by (Err e) buffer = []

hands_some : Laws → (id : Option Id) (s t : HeldState) (h buffer : List ℕ) (result : Result ℕ Error) → HandsSome s t result buffer → Follows id s h
    → Steps id t h (given_by result buffer)
hands_some laws id s t h buffer (Ok n) d f = hands laws id s t h buffer n d f
hands_some laws id s t h buffer (Err e) d f = absurd d

passes_on : Laws → (id : Option Id) (s t : HeldState) (h into buffer : List ℕ) (read result : Result ℕ Error) → PassesOn read into s t result buffer
    → Follows id s h → Steps id t h (given_by result buffer)
passes_on laws id s t h into buffer (Ok zero) result p f =
    subst (λ (r : Result ℕ Error). Steps id t h (given_by r buffer)) (sym p.0) (hands_none laws id s t h p.1 f)
passes_on laws id s t h into buffer (Ok (suc n)) result p f =
    hands_some laws id (record s { held = take (suc n) into }) t h buffer result p (record { alone = f.alone; stuck = f.stuck; begun = f.begun })
passes_on laws id s t h into buffer (Err e) result p f =
    subst (λ (r : Result ℕ Error). Steps id t h (given_by r buffer)) (sym p.0) (hands_none laws id s t h p.1 f)

reads_by : Laws → {S : Type 0} (was_read : S → S → Result ℕ Error → List ℕ → Type 0) (id : Option Id) (a b : AloneSource S) (held h buffer : List ℕ)
    (result : Result ℕ Error) → read_by held was_read a b result buffer → Follows id a.hold h → Steps id b.hold h (given_by result buffer)
reads_by laws was_read id a b [] h buffer result r f = passes_on laws id a.hold b.hold h r.into buffer r.read result r.passes f
reads_by laws was_read id a b (x ∷ xs) h buffer result r f = hands_some laws id a.hold b.hold h buffer result r.0 f

-- one read
pub reads : Laws → {S : Type 0} (was_read : S → S → Result ℕ Error → List ℕ → Type 0) (id : Option Id) (a b : AloneSource S) (h buffer : List ℕ)
    (result : Result ℕ Error) → ReadsAlone was_read a b result buffer → Follows id a.hold h → Steps id b.hold h (given_by result buffer)
reads laws was_read id a b h buffer result r f = reads_by laws was_read id a b a.hold.held h buffer result r f
