-- A message with bit 63 of its unique set is that of the request as it is sent again.
use Rattle.std.proofs.Common.{◌≡◌, ℕ, ◌+◌, ◌%◌, ◌^◌, ◌<◌, List, ◌++◌, length, take, drop, refl, sym, ap, subst, ◌∙◌, append_assoc, arith, lit<, false, ◌/◌}
use Rattle.std.proofs.Math.Nat.{mod-lt}
use Rattle.std.proofs.lemmas.List.{take_at, drop_at, length-append}
use Rattle.byteorder.specs.Numbers.{little_number-reads_back, length-bytes_low_first}
use Rattle.fuse_wire.specs.Bytes.{le, number_of}
use Rattle.fuse_wire.specs.Ids.{id_of}
use Rattle.fuse_wire.specs.Layout.{Lays, form}
use Rattle.fuse_request.specs.Act.{Asked, opcode_of}
use Rattle.fuse_request.specs.Canon.{canon, len_of}
use Rattle.fuse_request.specs.Places.{asked_at, SpelledAt}
use Rattle.fuse_request.specs.Spelling.{header_parts, parts, Spells}
use Rattle.fuse_sim.specs.Pending.{sent_again, is_silent, request_id}
use Rattle.fuse_sim.specs.KeptMessages.{IsOwed}
use Rattle.fuse_sim.specs.inner.Marking.{marked_as_resend}

length-le : (w n : ℕ) → length (le w n) ≡ w
unfolding le
length-le w n = length-bytes_low_first 0 w n

number_prefix : (w n : ℕ) (rest : List ℕ) → n < 256 ^ w → number_of w (le w n ++ rest) ≡ n
unfolding le number_of
number_prefix w n rest fits = little_number-reads_back w n rest fits

abbrev bit_set : ℕ → ℕ
bit_set unique = id_of unique + 0x8000_0000_0000_0000

id_fits : (unique : ℕ) → bit_set unique < 256 ^ 8
id_fits unique = let small : id_of unique < 0x8000_0000_0000_0000 = mod-lt unique (lit< tt) in omega arith

id_set : (id : ℕ) → id < 0x8000_0000_0000_0000 → (id + 0x8000_0000_0000_0000) % 0x8000_0000_0000_0000 ≡ id
id_set id small = omega arith

long : (a b r : List ℕ) (m n : ℕ) → length (a ++ (b ++ (le 8 m ++ r))) ≡ length (a ++ (b ++ (le 8 n ++ r)))
long a b r m n =
    let eight : length (le 8 m) ≡ length (le 8 n) = length-le 8 m ∙ sym (length-le 8 n) in
    omega (
      arith,
      eight,
      length-append a (b ++ (le 8 m ++ r)),
      length-append a (b ++ (le 8 n ++ r)),
      length-append b (le 8 m ++ r),
      length-append b
          (le 8 n ++ r),
      length-append (le 8 m) r,
      length-append (le 8 n) r,
    )

marked_at : (a b r : List ℕ) (unique : ℕ) → length a ≡ 4 → length b ≡ 4 → unique < 256 ^ 8 → marked_as_resend (a ++ (b ++ (le 8 unique ++ r))) ≡ a
    ++ (b ++ (le 8 (bit_set unique) ++ r))
marked_at a b r unique la lb fits =
    let c : List ℕ = le 8 unique in
    let lc : length c ≡ 8 = length-le 8 unique in
    let eight : length (a ++ b) ≡ 8 = omega (arith, length-append a b, la, lb) in
    let sixteen : length ((a ++ b) ++ c) ≡ 16 = omega (arith, length-append (a ++ b) c, eight, lc) in
    let m : List ℕ = a ++ (b ++ (c ++ r)) in
    let two : m ≡ (a ++ b) ++ (c ++ r) = sym (append_assoc a b (c ++ r)) in
    let three : m ≡ ((a ++ b) ++ c) ++ r = two ∙ sym (append_assoc (a ++ b) c r) in
    let prefix : take 8 m ≡ a ++ b = ap (take 8) two ∙ take_at (a ++ b) (c ++ r) 8 eight in
    let later : drop 8 m ≡ c ++ r = ap (drop 8) two ∙ drop_at (a ++ b) (c ++ r) 8 eight in
    let number : number_of 8 (drop 8 m) ≡ unique = ap (number_of 8) later ∙ number_prefix 8 unique r fits in
    let back : drop 16 m ≡ r = ap (drop 16) three ∙ drop_at ((a ++ b) ++ c) r 16 sixteen in
    ap (λ (x : List ℕ). x ++ (le 8 (bit_set (number_of 8 (drop 8 m))) ++ drop 16 m)) prefix
    ∙ ap (λ (n : ℕ). (a ++ b) ++ (le 8 (bit_set n) ++ drop 16 m)) number
    ∙ ap (λ (x : List ℕ). (a ++ b) ++ (le 8 (bit_set unique) ++ x)) back
    ∙ append_assoc a b (le 8 (bit_set unique) ++ r)

set_twice : (unique : ℕ) → bit_set (bit_set unique) ≡ bit_set unique
set_twice unique = let id : ℕ = id_of unique in
    ap (λ (n : ℕ). n + 0x8000_0000_0000_0000) (let small : id < 0x8000_0000_0000_0000 = mod-lt unique (lit< tt) in id_set id small)

pub same_id : (r : Asked) → request_id (sent_again r) ≡ request_id r
same_id r = let small : id_of r.header.unique < 0x8000_0000_0000_0000 = mod-lt r.header.unique (lit< tt) in id_set (id_of r.header.unique) small

pub again_twice : (r : Asked) → sent_again (sent_again r) ≡ sent_again r
again_twice r = ap (λ (n : ℕ). record r { header = record r.header { unique = n } }) (set_twice r.header.unique)

marked_canon : (v : Asked) → v.header.unique < 256 ^ 8 → marked_as_resend (canon v) ≡ canon (sent_again v)
marked_canon v fits =
    let more : List ℕ = form (parts v.act) ++ v.ext in
    let a : List ℕ = le 4 (len_of v) in
    let b : List ℕ = le 4 (opcode_of v.act) in
    let tail : List ℕ = form (drop 3 (header_parts (len_of v) (length v.ext / 8) v)) in
    let grouped : (u : ℕ) → (a ++ (b ++ (le 8 u ++ tail))) ++ more ≡ a ++ (b ++ (le 8 u ++ (tail ++ more))) =
    λ u. append_assoc a (b ++ (le 8 u ++ tail)) more ∙ ap (λ (x : List ℕ). a ++ x) (append_assoc b (le 8 u ++ tail) more)
    ∙ ap (λ (x : List ℕ). a ++ (b ++ x)) (append_assoc (le 8 u) tail more) in
    ap marked_as_resend (grouped v.header.unique)
    ∙ marked_at a b (tail ++ more) v.header.unique (length-le 4 (len_of v)) (length-le 4 (opcode_of v.act)) fits
    ∙ sym (grouped (bit_set v.header.unique))

marked_spells : (v : Asked) (m : List ℕ) → Spells v m → Spells (sent_again v) (marked_as_resend m)
marked_spells v m s =
    let tail : List ℕ = s.body ++ v.ext in
    let h = s.header in let h1 = h.3 in let h2 = h1.3 in
    let a : List ℕ = le 4 (length m) in
    let b : List ℕ = le 4 (opcode_of v.act) in
    let head : ℕ → List ℕ = λ u. a ++ (b ++ (le 8 u ++ h2.0)) in
    let head_is : s.head ≡ head v.header.unique = h.2 ∙ ap (λ (x : List ℕ). a ++ x) h1.2 ∙ ap (λ (x : List ℕ). a ++ (b ++ x)) h2.2 in
    let grouped : (u : ℕ) → head u ++ tail ≡ a ++ (b ++ (le 8 u ++ (h2.0 ++ tail))) =
    λ u. append_assoc a (b ++ (le 8 u ++ h2.0)) tail ∙ ap (λ (x : List ℕ). a ++ x) (append_assoc b (le 8 u ++ h2.0) tail)
    ∙ ap (λ (x : List ℕ). a ++ (b ++ x)) (append_assoc (le 8 u) h2.0 tail) in
    let m_is : m ≡ a ++ (b ++ (le 8 v.header.unique ++ (h2.0 ++ tail))) = s.whole ∙ ap (λ (x : List ℕ). x ++ tail) head_is ∙ grouped v.header.unique in
    let n_is : marked_as_resend m ≡ a ++ (b ++ (le 8 (bit_set v.header.unique) ++ (h2.0 ++ tail))) =
    ap marked_as_resend m_is ∙ marked_at a b (h2.0 ++ tail) v.header.unique (length-le 4 (length m)) (length-le 4 (opcode_of v.act)) h2.1 in
    let same : length (marked_as_resend m) ≡ length m = ap length n_is ∙ long a b (h2.0 ++ tail) (bit_set v.header.unique) v.header.unique ∙ sym (ap length m_is) in
    let laid : Lays (header_parts (length m) s.units (sent_again v)) (head (bit_set v.header.unique)) = (
      b ++ (le 8 (bit_set v.header.unique) ++ h2.0),
      h.1,
      refl,
      (le 8 (bit_set v.header.unique) ++ h2.0, h1.1, refl, (h2.0, id_fits v.header.unique, refl, h2.3)),
    ) in
    record {
      head = head (bit_set v.header.unique);
      body = s.body;
      units = s.units;
      whole = n_is ∙ sym (grouped (bit_set v.header.unique));
      ext = s.ext;
      header = subst (λ (n : ℕ). Lays (header_parts n s.units (sent_again v)) (head (bit_set v.header.unique))) (sym same) laid;
      parted = s.parted;
      named = s.named;
    }

pub marked_owed : SpelledAt → (m : List ℕ) → IsOwed m → IsOwed (marked_as_resend m) × (asked_at (marked_as_resend m) ≡ sent_again (asked_at m))
marked_owed spelled m owed =
    let v : Asked = asked_at m in
    let s = marked_spells v m owed.spells in
    let says : asked_at (marked_as_resend m) ≡ sent_again v = (spelled (sent_again v) (marked_as_resend m) s).says in
    let is : marked_as_resend m ≡ canon (sent_again v) = ap marked_as_resend owed.canon_is ∙ marked_canon v owed.spells.header.3.3.1 in (
      record {
        spells = subst (λ (r : Asked). Spells r (marked_as_resend m)) (sym says) s;
        canon_is = is ∙ ap canon (sym says);
        loud = subst (λ (r : Asked). is_silent r ≡ false) (sym says) owed.loud;
      },
      says,
    )
