-- Answers one after another, and their lines.
use Rattle.std.proofs.Common.{◌≡◌, true, false, ◌==◌, ◌<◌, ◌+◌, ◌^◌, ℕ, zero, suc, List, [], ◌∷◌, ◌++◌, length, take, drop, inl, inr, Option, refl, sym, ap}
use Rattle.std.proofs.Common.{subst, ◌∙◌, append_assoc, arith, length-append, append-nil}
use Rattle.std.specs.Io.KnownBytes.{Appends}
use Rattle.std.proofs.KnownBytes.{Appends-nil, Appends-trans}
use Rattle.std.proofs.lemmas.Bool.{cases_lt}
use Rattle.std.proofs.lemmas.List.{take-append-le, length-take, take_all, get_or-take, get_or_past}
use Rattle.std.specs.List.{AllByRecursion}
use Rattle.hex.specs.Hex.{encode_lower}
use Rattle.fuse_wire.specs.Bytes.{le, IsBytes, IsOneNumber}
use Rattle.fuse_request.specs.Stream.{joined}
use Rattle.fuse_answer.specs.Laws.{BeginsWithLen}
use Rattle.fuse_commands.specs.Output.{line, answer_lines}
use Rattle.fuse_commands.specs.inner.Sending.{IsAnswer}

-- the first answer that is not empty
pub record First (answers : List (List ℕ)) : Type 0 where
  pub answer : List ℕ
  pub others : List (List ℕ)
  pub begins : BeginsWithLen answer
  pub each : AllByRecursion IsAnswer others
  pub bytes : joined answers ≡ answer ++ joined others
  pub lines : answer_lines answers ≡ line (encode_lower answer) ++ answer_lines others

pub first : (answers : List (List ℕ)) → AllByRecursion IsAnswer answers → (joined answers ≡ [] → ⊥) → First answers
first [] each some = absurd (some refl)
first ([] ∷ answers) each some =
    let f = first answers each.1 some in
    record { answer = f.answer; others = f.others; begins = f.begins; each = f.each; bytes = f.bytes; lines = f.lines }
first ((x ∷ xs) ∷ answers) each some = record { answer = x ∷ xs; others = answers; begins = each.0; each = each.1; bytes = refl; lines = refl }

-- nothing is left to be written
pub no_lines : (answers : List (List ℕ)) → AllByRecursion IsAnswer answers → joined answers ≡ [] → answer_lines answers ≡ []
no_lines [] each none = refl
no_lines ([] ∷ answers) each none = no_lines answers each.1 none
no_lines ((x ∷ xs) ∷ answers) each none = absurd (cc none)

take_prefix : (w : ℕ) (prefix rest : List ℕ) → length prefix ≡ w → take w (prefix ++ rest) ≡ prefix
take_prefix w prefix rest is = take-append-le w prefix rest (omega arith) ∙ take_all w prefix (omega arith)

drop_prefix : (w : ℕ) (prefix rest : List ℕ) → length prefix ≡ w → drop w (prefix ++ rest) ≡ rest
drop_prefix zero [] rest is = refl
drop_prefix zero (x ∷ prefix) rest is = absurd (omega arith)
drop_prefix (suc w) [] rest is = absurd (omega arith)
drop_prefix (suc w) (x ∷ prefix) rest is = drop_prefix w prefix rest (omega arith)

-- the bytes of the length of the first answer
len_bytes : (sent answer others : List ℕ) → BeginsWithLen answer → sent ≡ answer ++ others → take 4 sent ≡ le 4 (length answer)
len_bytes sent answer others begins parts =
    let own : List ℕ = le 4 (length answer) in
    let four : length own ≡ 4 = omega (arith, ap (length {A = ℕ}) begins.parts, length-append own begins.rest, begins.four) in
    let whole : sent ≡ own ++ (begins.rest ++ others) = parts ∙ ap (λ (x : List ℕ). x ++ others) begins.parts ∙ append_assoc own begins.rest others in
    ap (take 4) whole ∙ take_prefix 4 own (begins.rest ++ others) four

same_number : IsOneNumber → (w : ℕ) (bytes : List ℕ) (m n : ℕ) → length bytes ≡ w → IsBytes bytes → m < 256 ^ w → n < 256 ^ w → le w m ≡ bytes → le w n ≡ bytes
    → m ≡ n
same_number one w bytes m n len each fits fits' is is' = let k = one w bytes len each in k.3 m fits is ∙ sym (k.3 n fits' is')

-- an answer begins with its length
pub len_at_start : IsOneNumber → (sent rest answer others : List ℕ) (len : ℕ) → IsBytes (take 4 sent) → len < 256 ^ 4 → sent ≡ le 4 len ++ rest
    → length sent ≡ 4 + length rest
    → BeginsWithLen answer → sent ≡ answer ++ others → len ≡ length answer
len_at_start one sent rest answer others len bytes small read size begins parts =
    let four : length (le 4 len) ≡ 4 = omega (arith, ap (length {A = ℕ}) read, length-append (le 4 len) rest, size) in
    let here : take 4 sent ≡ le 4 len = ap (take 4) read ∙ take_prefix 4 (le 4 len) rest four in
    same_number one 4 (take 4 sent) len (length answer) (ap (length {A = ℕ}) here ∙ four) bytes small (omega (arith, begins.fits)) (sym here)
    (sym (len_bytes sent answer others begins parts))

pub bytes_take : (n : ℕ) (bytes : List ℕ) → IsBytes bytes → IsBytes (take n bytes)
bytes_take n bytes each i =
    elim (cases_lt i n) [
      | inl lt ↦ rw (get_or-take n bytes i 0 lt) (each i)
      | inr le ↦ rw (get_or_past (take n bytes) i 0 (omega (arith, length-take n bytes))) (omega arith)
    ]

-- the rest of the answers, and the lines of the others
pub record Written (written written' : Option (List ℕ)) (answers : List (List ℕ)) (rest : List ℕ) : Type 0 where
  pub left : List (List ℕ)
  pub each : AllByRecursion IsAnswer left
  pub bytes : rest ≡ joined left
  pub lines : List ℕ
  pub so_far : Appends written written' lines
  pub all : answer_lines answers ≡ lines ++ answer_lines left

pub written_none : (w : Option (List ℕ)) (answers : List (List ℕ)) (sent : List ℕ) → AllByRecursion IsAnswer answers → sent ≡ joined answers
    → Written w w answers sent
written_none w answers sent each is = record { left = answers; each = each; bytes = is; lines = []; so_far = Appends-nil w; all = refl }

-- one more line; `len` is the number that the rest begins with
pub written_more : (a b c : Option (List ℕ)) (answers : List (List ℕ)) (rest prefix back : List ℕ) (len : ℕ) → (rest ≡ [] → ⊥) → prefix ≡ take len rest
    → back ≡ drop len rest
    → ((answer others : List ℕ) → BeginsWithLen answer → rest ≡ answer ++ others → len ≡ length answer)
    → Written a b answers rest → Appends b c (line (encode_lower prefix)) → Written a c answers back
written_more a b c answers rest prefix back len some prefix_is back_is reads w more =
    let f = first w.left w.each (λ none. some (w.bytes ∙ none)) in
    let parts : rest ≡ f.answer ++ joined f.others = w.bytes ∙ f.bytes in
    let size : len ≡ length f.answer = reads f.answer (joined f.others) f.begins parts in
    let taken : prefix ≡ f.answer = prefix_is ∙ ap (take len) parts ∙ take_prefix len f.answer (joined f.others) (sym size) in
    let left : back ≡ joined f.others = back_is ∙ ap (drop len) parts ∙ drop_prefix len f.answer (joined f.others) (sym size) in
    record {
      left = f.others;
      each = f.each;
      bytes = left;
      lines = w.lines ++ line (encode_lower f.answer);
      so_far = Appends-trans a b c w.lines (line (encode_lower f.answer)) w.so_far (subst (λ x. Appends b c (line (encode_lower x))) taken more);
      all = w.all ∙ ap (λ (x : List ℕ). w.lines ++ x) f.lines ∙ sym (append_assoc w.lines (line (encode_lower f.answer)) (answer_lines f.others));
    }

-- nothing is left
pub written_all : (a b : Option (List ℕ)) (answers : List (List ℕ)) (rest : List ℕ) → rest ≡ [] → Written a b answers rest → Appends a b (answer_lines answers)
written_all a b answers rest none w =
    let over : answer_lines w.left ≡ [] = no_lines w.left w.each (sym w.bytes ∙ none) in
    subst (Appends a b) (sym (w.all ∙ ap (λ (x : List ℕ). w.lines ++ x) over ∙ append-nil w.lines)) w.so_far

pub is_none : (xs : List ℕ) → true ≡ (length xs == 0) → xs ≡ []
is_none [] is = refl
is_none (x ∷ xs) is = absurd (grind arith)

pub isnt_none : (xs : List ℕ) → false ≡ (length xs == 0) → xs ≡ [] → ⊥
isnt_none [] is none = cc is
isnt_none (x ∷ xs) is none = cc none
