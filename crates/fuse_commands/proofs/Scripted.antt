-- The lines of scripts.
use Rattle.std.proofs.Common.{◌≡◌, ◌≢◌, inl, inr, ℕ, zero, suc, ◌+◌, ◌*◌, ◌^◌, ◌<◌, ◌≤◌, List, [], ◌∷◌, ◌++◌, length, take, drop, All, get_or, refl, sym, ap}
use Rattle.std.proofs.Common.{subst, ◌∙◌, append_assoc, arith, lit≤, ◌==◌, ◌||◌, true, false}
use Rattle.std.proofs.Math.Seq.{drop-cons}
use Rattle.std.proofs.lemmas.List.{get_or-map, length-map, take_more, take_all, take-append-drop, length-take-le}
use Rattle.std.specs.Borrow.{Bor}
use Rattle.std.specs.List.{AllByRecursion, list_any}
use Rattle.std.proofs.lemmas.Bool.{eq-eqb}
use Rattle.std.proofs.lemmas.List.Elements.{recursion_from_All}
use Rattle.std.proofs.lemmas.List.Splits.{slice_split_at, slice_split_none}
use Rattle.std.specs.Char.{digit_value}
use Rattle.std.specs.Str.Parse.{AllDigits, digits_value}
use Rattle.std.proofs.lemmas.Int.Digits.{digits_value_more}
use Rattle.std.proofs.lemmas.Str.Parse.{digits_value-take-le}
use Rattle.fuse_sim.specs.declared.event.Event.{Event}
use Rattle.fuse_sim.specs.declared.event.Fate.{Fate}
use Rattle.fuse_sim.specs.declared.event.Fate.TheVariants.{Answered, AnswerLost, DiedBeforeCommit, DiedAfterCommit}
use Rattle.fuse_commands.specs.Scripts.{lines_of, word_of, IsDecimal, HasParts, IsHexOf, Writes, WritesAll, IsBad, FirstBad}
use Rattle.fuse_commands.specs.inner.Scripts.{parts_in, Lacks, TookLine}

-- ---- seconds

digits-push : (ds : List ℕ) (b : ℕ) → AllDigits 10 ds → digit_value b < 10 → AllDigits 10 (ds ++ b ∷ [])
digits-push [] b all one = (one, tt)
digits-push (d ∷ ds) b all one = (all.0, digits-push ds b all.1 one)

digit_at : (ds : List ℕ) (i : ℕ) → AllDigits 10 ds → i < length ds → digit_value (get_or ds i 0) < 10
digit_at [] i all there = absurd (omega arith)
digit_at (d ∷ ds) zero all there = all.0
digit_at (d ∷ ds) (suc i) all there = digit_at ds i all.1 (omega arith)

-- one more digit was read
pub digit_more : (text : List ℕ) (i secs digit more : ℕ) → i < length text → digit ≡ digit_value (get_or text i 0) → digit < 10 → more ≡ secs * 10 + digit
    → AllDigits 10 (take i text) × (secs ≡ digits_value 10 (take i text)) → AllDigits 10 (take (i + 1) text) × (more ≡ digits_value 10 (take (i + 1) text))
digit_more text i secs digit more there value less sum so =
    let one : digit_value (get_or text i 0) < 10 = subst (λ (n : ℕ). n < 10) value less in (
      subst (AllDigits 10) (sym (take_more text i 0 there)) (digits-push (take i text) (get_or text i 0) so.0 one),
      sum ∙ ap (λ (n : ℕ). n * 10 + digit) so.1 ∙ ap (λ (n : ℕ). digits_value 10 (take i text) * 10 + n) value ∙ sym (digits_value_more 10 text i there),
    )

-- a byte that is no digit
pub no_number : (text : List ℕ) (i : ℕ) → i < length text → 10 ≤ digit_value (get_or text i 0) → (secs : ℕ) → IsDecimal text secs → ⊥
no_number text i there high secs s = let low = digit_at text i s.digits there in omega arith

-- the value of the digits is too large
pub too_large : (text : List ℕ) (i secs digit : ℕ) → i < length text → digit ≡ digit_value (get_or text i 0) → 2 ^ 64 ≤ secs * 10 + digit
    → secs ≡ digits_value 10 (take i text) → (n : ℕ) → IsDecimal text n → ⊥
too_large text i secs digit there value large so n s =
    let more = digits_value_more 10 text i there in
    let most = digits_value-take-le 10 text (i + 1) (lit≤ tt) in
    let whole = s.value in let fits = s.fits in
    let sum : secs * 10 + digit ≡ digits_value 10 (take (i + 1) text) = ap (λ (x : ℕ). x * 10 + digit) so
    ∙ ap (λ (x : ℕ). digits_value 10 (take i text) * 10 + x) value ∙ sym more in
    omega (arith, sum)

pub all_read : (text : List ℕ) (i secs : ℕ) → length text ≤ i → (length text == 0) ≡ false → secs < 2 ^ 64
    → AllDigits 10 (take i text) × (secs ≡ digits_value 10 (take i text)) → IsDecimal text secs
all_read text i secs all some fits so =
    let whole = take_all i text all in record {
      some = grind arith;
      digits = subst (AllDigits 10) whole so.0;
      value = so.1 ∙ ap (digits_value 10) whole;
      fits = fits;
    }

-- ---- the parts of a line

split_by : (a b c d : List ℕ) → AllByRecursion (λ x. x ≢ 32) a → AllByRecursion (λ x. x ≢ 32) c → a ++ 32 ∷ b ≡ c ++ 32 ∷ d → (a ≡ c) × (b ≡ d)
split_by [] b [] d left right is = (refl, cc is)
split_by [] b (y ∷ c) d left right is = absurd (right.0 (cc is))
split_by (x ∷ a) b [] d left right is = absurd (left.0 (cc is))
split_by (x ∷ a) b (y ∷ c) d left right is =
    let first : x ≡ y = cc is in
    let rest = split_by a b c d left.1 right.1 (cc is) in
    (ap (λ (n : ℕ). n ∷ a) first ∙ ap (λ (l : List ℕ). y ∷ l) rest.0, rest.1)

lacks : (xs : List ℕ) → list_any (λ x. x == 32) xs ≡ false → AllByRecursion (λ x. x ≢ 32) xs
lacks [] none = tt
lacks (x ∷ xs) none = elim (x == 32) as (λ b. (x == 32) ≡ b → (b || list_any (λ y. y == 32) xs) ≡ false → (x ≢ 32) × AllByRecursion (λ y. y ≢ 32) xs) [
  | true ↦ λ here there. absurd (cc there)
  | false ↦ λ here there. ((λ is. absurd (let found : (x == 32) ≡ true = eq-eqb x 32 is in cc)), lacks xs there)
] refl none

word_lacks : (fate : Fate) → AllByRecursion (λ x. x ≢ 32) (word_of fate)
word_lacks Answered = lacks (word_of Answered) refl
word_lacks AnswerLost = lacks (word_of AnswerLost) refl
word_lacks DiedBeforeCommit = lacks (word_of DiedBeforeCommit) refl
word_lacks DiedAfterCommit = lacks (word_of DiedAfterCommit) refl

digits_lack : (ds : List ℕ) → AllDigits 10 ds → AllByRecursion (λ x. x ≢ 32) ds
digits_lack [] all = tt
digits_lack (d ∷ ds) all =
    ((λ is. let low : digit_value d < 10 = all.0 in let space : digit_value d ≡ 36 = ap digit_value is in omega arith), digits_lack ds all.1)

pub first_space : (line : List ℕ) (fate : Fate) (secs : ℕ) (text a b : List ℕ) (p : HasParts line fate secs text) → line ≡ a ++ 32 ∷ b → Lacks 32 a
    → (a ≡ word_of fate) × (b ≡ p.digits ++ 32 ∷ text)
first_space line fate secs text a b p is none =
    split_by a b (word_of fate) (p.digits ++ 32 ∷ text) (recursion_from_All (λ x. x ≢ 32) a none) (word_lacks fate) (sym is ∙ p.parts)

pub second_space : (line : List ℕ) (fate : Fate) (secs : ℕ) (text b c d : List ℕ) (p : HasParts line fate secs text) → b ≡ p.digits ++ 32 ∷ text
    → b ≡ c ++ 32 ∷ d → Lacks 32 c → (c ≡ p.digits) × (d ≡ text)
second_space line fate secs text b c d p whole is none =
    split_by c d p.digits text (recursion_from_All (λ x. x ≢ 32) c none) (digits_lack p.digits p.seconds.digits) (sym is ∙ whole)

lacks_by : (a b : List ℕ) → AllByRecursion (λ x. x ≢ 32) (a ++ 32 ∷ b) → ⊥
lacks_by [] b none = none.0 refl
lacks_by (x ∷ a) b none = lacks_by a b none.1

pub no_space : (line a b : List ℕ) → Lacks 32 line → line ≡ a ++ 32 ∷ b → ⊥
no_space line a b none is = lacks_by a b (recursion_from_All (λ x. x ≢ 32) (a ++ 32 ∷ b) (subst (Lacks 32) is none))

-- ---- whole lines

pub no_event : (line : List ℕ) → ((fate : Fate) (secs : ℕ) (text : List ℕ) → HasParts line fate secs text → ⊥) → (e : Event) → Writes line e → ⊥
no_event line none e w = none e.fate e.moment.secs w.text w.parts

pub no_message : (line text : List ℕ) → ((fate : Fate) (secs : ℕ) (other : List ℕ) → HasParts line fate secs other → text ≡ other)
    → ((m : List ℕ) → IsHexOf text m → ⊥) → (e : Event) → Writes line e → ⊥
no_message line text same none e w = none e.bytes (subst (λ x. IsHexOf x e.bytes) (sym (same e.fate e.moment.secs w.text w.parts)) w.message)

-- ---- line after line

writes_more : (lines : List (List ℕ)) (line : List ℕ) (old new : List Event) → WritesAll lines old → TookLine line old new → WritesAll (lines ++ line ∷ []) new
writes_more [] line old new none took = elim took [
  | inl nothing ↦ inl (nothing.0, nothing.1 ∙ none)
  | inr one ↦ inr (one.0, [], one.2 ∙ ap (λ (es : List Event). es ++ one.0 ∷ []) none, one.1, refl)
]
writes_more (l ∷ lines) line old new so took = elim so [
  | inl nothing ↦ inl (nothing.0, writes_more lines line old new nothing.1 took)
  | inr one ↦ elim took [
    | inl passed ↦ inr (one.0, one.1, passed.1 ∙ one.2, one.3, writes_more lines line one.1 one.1 one.4 (inl (passed.0, refl)))
    | inr more ↦ inr (
      one.0,
      one.1 ++ more.0 ∷ [],
      more.2 ∙ ap (λ (es : List Event). es ++ more.0 ∷ []) one.2,
      one.3,
      writes_more lines line one.1 (one.1 ++ more.0 ∷ []) one.4 (inr (more.0, more.1, refl)),
    )
  ]
]

pub line_taken : (lines : List (List ℕ)) (i : ℕ) (old new : List Event) → i < length lines → WritesAll (take i lines) old → TookLine (get_or lines i []) old new
    → WritesAll (take (i + 1) lines) new
line_taken lines i old new there so took =
    subst (λ x. WritesAll x new) (sym (take_more lines i [] there)) (writes_more (take i lines) (get_or lines i []) old new so took)

pub all_taken : (lines : List (List ℕ)) (i : ℕ) (events : List Event) → length lines ≤ i → WritesAll (take i lines) events → WritesAll lines events
all_taken lines i events all so = subst (λ x. WritesAll x events) (take_all i lines all) so

bad_after : (n : ℕ) (lines : List (List ℕ)) (bad : List ℕ) (more : List (List ℕ)) (events : List Event) → WritesAll lines events → IsBad bad
    → FirstBad n (lines ++ bad ∷ more) (n + length lines)
bad_after n [] bad more events so is = inl (is, omega arith)
bad_after n (line ∷ lines) bad more events so is =
    let next : suc n + length lines ≡ n + suc (length lines) = omega arith in
    elim so [
      | inl nothing ↦ inr (
        (λ wrong. wrong.0 nothing.0),
        subst (FirstBad (suc n) (lines ++ bad ∷ more)) next (bad_after (suc n) lines bad more events nothing.1 is),
      )
      | inr one ↦ inr ((λ wrong. wrong.1 one.0 one.3), subst (FirstBad (suc n) (lines ++ bad ∷ more)) next (bad_after (suc n) lines bad more one.1 one.4 is))
    ]

pub first_bad : (lines : List (List ℕ)) (i : ℕ) (events : List Event) → i < length lines → WritesAll (take i lines) events → IsBad (get_or lines i [])
    → FirstBad 1 lines (i + 1)
first_bad lines i events there so is =
    let parts : take i lines ++ get_or lines i [] ∷ drop (suc i) lines ≡ lines = ap (λ x. take i lines ++ x) (sym (drop-cons lines i [] there))
    ∙ take-append-drop i lines in
    let long : length (take i lines) ≡ i = length-take-le i lines (omega arith) in
    let number : 1 + length (take i lines) ≡ i + 1 = omega arith in
    subst (λ x. FirstBad 1 x (i + 1)) parts
    (subst (FirstBad 1 (take i lines ++ get_or lines i [] ∷ drop (suc i) lines)) number
    (bad_after 1 (take i lines) (get_or lines i []) (drop (suc i) lines) events so is))

-- ---- the lines of a script

apart : (n : ℕ) → n ≢ 10 → (n == 10) ≡ false
apart n isnt = grind arith

no_feeds : (xs : List ℕ) → Lacks 10 xs → All (λ x. (x == 10) ≡ false) xs
no_feeds xs none k d there = apart (get_or xs k d) (none k d there)

-- one more line was cut off
pub line_cut : (lines : List (List ℕ)) (script rest line after : List ℕ) → lines ++ lines_of rest ≡ lines_of script → rest ≡ line ++ 10 ∷ after
    → Lacks 10 line → (lines ++ line ∷ []) ++ lines_of after ≡ lines_of script
line_cut lines script rest line after so is none =
    let cut : lines_of rest ≡ line ∷ lines_of after = ap lines_of is ∙ slice_split_at (λ (b : ℕ). b == 10) line 10 after (no_feeds line none) refl in
    append_assoc lines (line ∷ []) (lines_of after) ∙ ap (λ (x : List (List ℕ)). lines ++ x) (sym cut) ∙ so

-- no line feed is left
pub last_line : (lines : List (List ℕ)) (script rest : List ℕ) → lines ++ lines_of rest ≡ lines_of script → Lacks 10 rest → lines ++ rest ∷ [] ≡ lines_of script
last_line lines script rest so none = ap (λ (x : List (List ℕ)). lines ++ x) (sym (slice_split_none (λ (b : ℕ). b == 10) rest (no_feeds rest none))) ∙ so

line_at : (parts : List (Bor (List ℕ))) (i : ℕ) (d : Bor (List ℕ)) → i < length parts → get_or (parts_in parts) i [] ≡ (get_or parts i d).now
line_at parts i d there = get_or-map (λ (part : Bor (List ℕ)). part.now) parts i d [] there

in_parts : (parts : List (Bor (List ℕ))) (i : ℕ) → i < length parts → i < length (parts_in parts)
in_parts parts i there = omega (arith, length-map parts (λ (part : Bor (List ℕ)). part.now))

pub part_taken : (parts : List (Bor (List ℕ))) (i : ℕ) (d : Bor (List ℕ)) (old new : List Event) → i < length parts → WritesAll (take i (parts_in parts)) old
    → TookLine (get_or parts i d).now old new → WritesAll (take (i + 1) (parts_in parts)) new
part_taken parts i d old new there so took =
    line_taken (parts_in parts) i old new (in_parts parts i there) so (subst (λ x. TookLine x old new) (sym (line_at parts i d there)) took)

pub part_bad : (parts : List (Bor (List ℕ))) (i : ℕ) (d : Bor (List ℕ)) (events : List Event) → i < length parts → WritesAll (take i (parts_in parts)) events
    → IsBad (get_or parts i d).now → FirstBad 1 (parts_in parts) (i + 1)
part_bad parts i d events there so is = first_bad (parts_in parts) i events (in_parts parts i there) so (subst IsBad (sym (line_at parts i d there)) is)
