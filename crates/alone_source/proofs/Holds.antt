-- What a hold keeps, and what it hands on.
use Rattle.std.proofs.Common.{◌≡◌, ◌≤◌, ◌<◌, ◌+◌, ◌-◌, ℕ, zero, suc, Bool, false, cond, List, [], ◌∷◌, ◌++◌, length, take, drop, Option, inl, inr}
use Rattle.std.proofs.Common.{sym, ap, ◌∙◌, arith}
use Rattle.std.specs.Prelude.{◌||◌, min, Vec}
use Rattle.std.specs.Global.{Global}
use Rattle.std.proofs.lemmas.Bool.{cases_lt}
use Rattle.std.proofs.lemmas.List.{length-drop, length-take-le, take-append-drop, take-append-le, drop-drop, take_all}
use Rattle.fuse_wire.specs.declared.id.Id.{Id}
use Rattle.fuse_wire.specs.Laws.{NumbersRead}
use Rattle.fuse_request.specs.Stream.{is_whole, cut, CutSteps}
use Rattle.alone_source.specs.Holding.{HeldState, is_bad, to_hand, rest_after, lost_after, HandsOn}
use Rattle.alone_source.specs.inner.Passing.{Passes}
use Rattle.alone_source.specs.declared.hold.Passed.{Passed}
use Rattle.alone_source.specs.Turns.{turn_of}
use Rattle.alone_source.proofs.Turns.{turn_past}

abbrev pub held_by : Option Id → Bool → List ℕ → ℕ → HeldState
held_by alone is_lost w given = record { alone = alone; is_lost = is_lost; begun = take given w; held = drop given w }

abbrev pub state_of : Option Id → Bool → List ℕ → List ℕ → HeldState
state_of alone is_lost begun held = record { alone = alone; is_lost = is_lost; begun = begun; held = held }

pub same_state : (alone : Option Id) (lost lost' : Bool) (begun begun' held held' : List ℕ) → lost' ≡ lost → begun' ≡ begun → held' ≡ held
    → state_of alone lost' begun' held' ≡ state_of alone lost begun held
same_state alone lost lost' begun begun' held held' l b h =
    ap (λ (x : Bool). state_of alone x begun' held') l ∙ ap (λ (x : List ℕ). state_of alone lost x held') b
    ∙ ap (λ (x : List ℕ). state_of alone lost begun x) h

-- a part of what is past a place
pub take_more : (a b : ℕ) (w : List ℕ) → a + b ≤ length w → take a w ++ take b (drop a w) ≡ take (a + b) w
take_more zero b w h = let e : b ≡ 0 + b = omega arith in ap (λ (k : ℕ). take k w) e
take_more (suc a) b [] h = absurd (omega arith)
take_more (suc a) b (x ∷ w) h =
    let e : suc (a + b) ≡ suc a + b = omega arith in
    ap (λ (y : List ℕ). x ∷ y) (take_more a b w (omega arith)) ∙ ap (λ (k : ℕ). take k (x ∷ w)) e

-- the end of a prefix
pub drop_take : (a n : ℕ) (w : List ℕ) → a + n ≤ length w → drop a (take (a + n) w) ≡ take n (drop a w)
drop_take zero n w h = let e : 0 + n ≡ n = omega arith in ap (λ (k : ℕ). take k w) e
drop_take (suc a) n [] h = absurd (omega arith)
drop_take (suc a) n (x ∷ w) h =
    let e : suc a + n ≡ suc (a + n) = omega arith in
    ap (λ (k : ℕ). drop (suc a) (take k (x ∷ w))) e ∙ drop_take a n w (omega arith)

-- what comes next, where nothing was lost: it begins after what was handed on
pub piece_is : (alone : Option Id) (lost : Bool) (w : List ℕ) (given n : ℕ) → lost ≡ false → given ≤ n → n ≤ length w → take n w ≡ turn_of alone w
    → take (n - given) (drop given w) ≡ to_hand (held_by alone lost w given)
piece_is alone lost w given n going less within first =
    let begun : List ℕ = take given w in
    let held : List ℕ = drop given w in
    let turn : List ℕ = turn_of alone (begun ++ held) in
    let begun_len : length begun ≡ given = length-take-le given w (omega arith) in
    let past : given + (n - given) ≡ n = omega arith in
    let left : drop given (take n w) ≡ take (n - given) held =
    ap (λ (k : ℕ). drop given (take k w)) (sym past) ∙ drop_take given (n - given) w (omega arith) in
    let right : drop (length begun) turn ≡ drop given (take n w) =
    ap (λ (k : ℕ). drop k turn) begun_len ∙ ap (λ (x : List ℕ). drop given (turn_of alone x)) (take-append-drop given w)
    ∙ ap (drop given) (sym first) in
    sym left ∙ sym right ∙ ap (λ (b : Bool). cond {A = List ℕ} b held (drop (length begun) turn)) (sym going)

-- and there is some, where some is held
pub past_begun : NumbersRead → CutSteps → (alone : Option Id) (w : List ℕ) (given n : ℕ) → given ≤ length w → is_whole (take given w) ≡ false
    → n ≡ length (turn_of alone w) → (given ≤ n) × (0 < length (drop given w) → given < n)
past_begun laws steps alone w given n within stuck is =
    let past = turn_past laws steps alone (take given w) (drop given w) stuck in
    let begun_len : length (take given w) ≡ given = length-take-le given w within in
    let same : length (turn_of alone (take given w ++ drop given w)) ≡ length (turn_of alone w) =
    ap (λ (x : List ℕ). length (turn_of alone x)) (take-append-drop given w) in
    let least = past.least in
    (omega arith, (λ some. (let more = past.more some in omega arith)))

-- how much is copied, of a piece that begins these bytes
pub copied_first : (piece held : List ℕ) (room n : ℕ) → n ≡ min (length piece) room → take (length piece) held ≡ piece → length piece ≤ length held
    → take room piece ≡ take n held
copied_first piece held room n count first within =
    let parts : piece ++ drop (length piece) held ≡ held =
    ap (λ (x : List ℕ). x ++ drop (length piece) held) (sym first) ∙ take-append-drop (length piece) held in
    let few : n ≤ length piece = omega arith in
    let begins : take n held ≡ take n piece =
    ap (take n) (sym parts) ∙ take-append-le n piece (drop (length piece) held) few in
    elim (cases_lt room (length piece)) [
      | inl less ↦ (let same : room ≡ n = omega arith in ap (λ (k : ℕ). take k piece) same ∙ sym begins)
      | inr more ↦ (
          let long : length piece ≤ n = omega arith in
          take_all room piece more ∙ sym (take_all n piece long) ∙ sym begins)
    ]

-- ---- bytes are handed on

pub record Given (alone : Option Id) (was_lost : Bool) (w : List ℕ) (given : ℕ) (piece : List ℕ) : Type 0 where
  pub within : given ≤ length w
  pub is : piece ≡ to_hand (held_by alone was_lost w given)
  pub first : take (length piece) (drop given w) ≡ piece
  pub some : 0 < length (drop given w) → 0 < length piece

pub record Copied (piece buffer : List ℕ) (n room : ℕ) : Type 0 where
  pub count : n ≡ min (length piece) room
  pub bytes : take n buffer ≡ take room piece
  pub len : length buffer ≡ room

pub piece_within : (piece held : List ℕ) → take (length piece) held ≡ piece → length piece ≤ length held
piece_within piece held first =
    elim (cases_lt (length held) (length piece)) [
      | inl less ↦ (
          let all : take (length piece) held ≡ held = take_all (length piece) held (omega arith) in
          let len : length held ≡ length piece = ap length (sym all ∙ first) in
          omega arith)
      | inr more ↦ more
    ]

pub hands_on : (alone : Option Id) (was_lost : Bool) (old new : Vec ℕ Global) (given n room : ℕ) (piece buffer : List ℕ) (passed : Passed)
    → Given alone was_lost old.items given piece → Copied piece buffer n room → 0 < length (drop given old.items)
    → Passes old new (given + n) was_lost passed
    → HandsOn (held_by alone was_lost old.items given) (held_by alone passed.is_lost new.items passed.given) n buffer
hands_on alone was_lost old new given n room piece buffer passed g c some p =
    let w : List ℕ = old.items in
    let held : List ℕ = drop given w in
    let s : HeldState = held_by alone was_lost w given in
    let within : length piece ≤ length held = piece_within piece held g.first in
    let count : n ≡ min (length piece) room = c.count in
    let len : length buffer ≡ room = c.len in
    let here : given ≤ length w = g.within in
    let held_len : length held ≡ length w - given = length-drop given w in
    let few : n ≤ length held = omega arith in
    let is : take n buffer ≡ take n held = c.bytes ∙ copied_first piece held room n count g.first within in
    let taken : length (take n buffer) ≡ n = length-take-le n buffer (omega arith) in
    let rest : drop passed.given new.items ≡ drop n held = p.held ∙ sym (drop-drop n given w) in
    let up_to : take given w ++ take n buffer ≡ take (given + n) w =
    ap (λ (x : List ℕ). take given w ++ x) is ∙ take_more given n w (omega arith) in
    let after : (cut (take (given + n) w)).1 ≡ rest_after s (take n buffer) = ap (λ (x : List ℕ). (cut x).1) (sym up_to) in
    let lost : passed.is_lost ≡ lost_after s (take n buffer) = p.lost ∙ ap (λ (x : List ℕ). was_lost || is_bad x) after in
    let begun : take passed.given new.items ≡ cond {A = List ℕ} (lost_after s (take n buffer)) [] (rest_after s (take n buffer)) =
    p.begun ∙ ap (λ (b : Bool). cond {A = List ℕ} b [] (cut (take (given + n) w)).1) lost
    ∙ ap (λ (x : List ℕ). cond {A = List ℕ} (lost_after s (take n buffer)) [] x) after in
    let left : drop n held ≡ drop (length (take n buffer)) held = ap (λ (k : ℕ). drop k held) (sym taken) in
    record {
      within = (omega arith, sym taken);
      order = sym (take-append-drop n held) ∙ ap (λ (x : List ℕ). x ++ drop n held) (sym is)
          ∙ ap (λ (x : List ℕ). take n buffer ++ x) (sym rest);
      turn = c.bytes ∙ ap (λ (k : ℕ). take k piece) (sym len) ∙ ap (take (length buffer)) g.is;
      some = λ room_there none. (let some_piece : 0 < length piece = g.some some in omega arith);
      state = same_state alone (lost_after s (take n buffer)) passed.is_lost
          (cond {A = List ℕ} (lost_after s (take n buffer)) [] (rest_after s (take n buffer))) (take passed.given new.items)
          (drop (length (take n buffer)) held) (drop passed.given new.items) lost begun (rest ∙ left);
    }
