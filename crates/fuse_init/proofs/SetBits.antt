-- The agreed set, bit by bit.
use Rattle.std.proofs.Common.{◌≡◌, ◌<◌, ◌≤◌, ◌+◌, ◌-◌, ◌*◌, ◌/◌, ◌%◌, ◌^◌, ◌⊎◌, ℕ, inl, inr, Bool, true, false, if◌then◌else◌, nat_lt, Option, Some, None}
use Rattle.std.proofs.Common.{max, refl, sym, ap, ◌∙◌, arith}
use Rattle.std.specs.Prelude.{◌==◌, ◌↔◌}
use Rattle.std.specs.Int.{bit_at}
use Rattle.std.specs.Int.RustNames.{bit_and, bit_or}
use Rattle.std.proofs.lemmas.Bool.{cases_lt, cases_eq, lt-ltb, le-ltb}
use Rattle.std.proofs.lemmas.Nat.Bits.{and_pow, bit_at_and, bit_at_or, bit_at_above, bit_at_cat_low, bit_at_cat_high, bit_at-lt, bit_at-pow_other, bit_at-zero}
use Rattle.std.proofs.Math.Nat.{max-zero, zero-max}
use Rattle.fuse_request.specs.declared.request.InitIn.{InitIn}
use Rattle.fuse_init.specs.declared.profile.Profile.{Profile}
use Rattle.fuse_init.specs.declared.profile.Profile.TheVariants.{Plain, Everyday}
use Rattle.fuse_init.specs.Profile.{plain, everyday, directory_flags, terms}
use Rattle.fuse_init.specs.Agree.{offered, agreed, agreed_out}
use Rattle.fuse_init.specs.Sets.{IsTaken, high_bit, offered_bit, answered_bit, AgreedBits}

high_below : (f k : ℕ) → k < 32 → bit_at (f * 2 ^ 32) k ≡ 0
high_below f k lt =
    let e : f * 2 ^ 32 ≡ f * 2 ^ 32 + 0 = omega arith in
    ap (λ (n : ℕ). bit_at n k) e ∙ bit_at_cat_low f 32 0 k lt ∙ bit_at-zero k

high_above : (f k : ℕ) → 32 ≤ k → bit_at (f * 2 ^ 32) k ≡ bit_at f (k - 32)
high_above f k le =
    let e : f * 2 ^ 32 ≡ f * 2 ^ 32 + 0 = omega arith in
    ap (λ (n : ℕ). bit_at n k) e ∙ bit_at_cat_high f 32 0 k (omega arith) le

-- what is offered, where flags2 is there and counts or doesn't
by_ext : (ext : Bool) (flags f k : ℕ) → flags < 2 ^ 32
    → bit_at (if ext then bit_or flags (f * 2 ^ 32) else flags) k ≡ (if nat_lt k 32 then bit_at flags k else if ext then bit_at f (k - 32) else 0)
by_ext true flags f k few =
    bit_at_or flags (f * 2 ^ 32) k ∙ elim (cases_lt k 32) [
      | inl lt ↦ rw (lt-ltb k 32 lt, high_below f k lt) (max-zero (bit_at flags k))
      | inr le ↦ rw (le-ltb k 32 le, high_above f k le, bit_at_above flags 32 k few le) (zero-max (bit_at f (k - 32)))
    ]
by_ext false flags f k few =
    elim (cases_lt k 32) [
      | inl lt ↦ rw (lt-ltb k 32 lt) refl
      | inr le ↦ rw (le-ltb k 32 le) (bit_at_above flags 32 k few le)
    ]

zero_or_one : (n : ℕ) → n < 2 → (n ≡ 0) ⊎ (n ≡ 1)
zero_or_one n few = elim (cases_lt n 1) [ inl lt ↦ inl (omega (arith, lt)) | inr le ↦ inr (omega (arith, le, few)) ]

-- the test of INIT_EXT
ext_is : (flags : ℕ) → (bit_and flags (2 ^ 30) == 2 ^ 30) ≡ (bit_at flags 30 == 1)
ext_is flags =
    elim (zero_or_one (bit_at flags 30) (bit_at-lt flags 30)) [
      | inl none ↦ rw (and_pow flags 30, none) refl
      | inr one ↦ rw (and_pow flags 30, one) refl
    ]

offered_is : (flags : ℕ) (flags2 : Option ℕ) (k : ℕ) → flags < 2 ^ 32
    → bit_at (offered flags flags2) k ≡ (if nat_lt k 32 then bit_at flags k else high_bit flags flags2 (k - 32))
offered_is flags None k few =
    elim (cases_lt k 32) [
      | inl lt ↦ rw (lt-ltb k 32 lt) refl
      | inr le ↦ rw (le-ltb k 32 le) (bit_at_above flags 32 k few le)
    ]
offered_is flags (Some f) k few = rw (ext_is flags) (by_ext (bit_at flags 30 == 1) flags f k few)

-- ---- the set that the server takes

-- a bit of a set and one flag more
last_or : (low m k : ℕ) → bit_at (bit_or low (2 ^ m)) k ≡ 1 → (k ≡ m) ⊎ (bit_at low k ≡ 1)
last_or low m k set = elim (cases_eq k m) [
  | inl e ↦ inl e
  | inr other ↦ inr (sym (max-zero (bit_at low k)) ∙ sym (bit_at_or low (2 ^ m) k ∙ ap (λ (n : ℕ). max (bit_at low k) n) (bit_at-pow_other m k other)) ∙ set)
]

-- of one flag alone
one_bit : (m k : ℕ) → bit_at (2 ^ m) k ≡ 1 → k ≡ m
one_bit m k set = elim (cases_eq k m) [
  | inl e ↦ e
  | inr other ↦ (let no : 0 ≡ 1 = sym (bit_at-pow_other m k other) ∙ set in absurd (omega (arith, no)))
]

-- of two sets
both_or : (a b k : ℕ) → bit_at (bit_or a b) k ≡ 1 → (bit_at a k ≡ 1) ⊎ (bit_at b k ≡ 1)
both_or a b k set = elim (zero_or_one (bit_at a k) (bit_at-lt a k)) [
  | inl none ↦ inr (sym (bit_at_or a b k ∙ ap (λ (n : ℕ). max n (bit_at b k)) none ∙ zero-max (bit_at b k)) ∙ set)
  | inr one ↦ inl one
]

abbrev first_flags : ℕ
first_flags = bit_or (2 ^ 0) (2 ^ 5)

abbrev plain_ext : ℕ
plain_ext = bit_or first_flags (2 ^ 30)

is_plain : (k : ℕ) → bit_at plain.wanted k ≡ 1 → IsTaken Plain k
is_plain k set = elim (last_or plain_ext 39 k set) [
  | inl e ↦ inr (inr (inr e))
  | inr s30 ↦ elim (last_or first_flags 30 k s30) [
    | inl e ↦ inr (inr (inl e))
    | inr s5 ↦ elim (last_or (2 ^ 0) 5 k s5) [ inl e ↦ inr (inl e) | inr s0 ↦ inl (one_bit 0 k s0) ]
  ]
]

is_directory : (k : ℕ) → bit_at directory_flags k ≡ 1 → IsTaken Everyday k
is_directory k set = elim (last_or (bit_or (2 ^ 13) (2 ^ 14)) 18 k set) [
  | inl e ↦ inr (inr (inr (inr (inl e))))
  | inr s14 ↦ elim (last_or (2 ^ 13) 14 k s14) [ inl e ↦ inr (inr (inr (inl e))) | inr s13 ↦ inr (inr (inl (one_bit 13 k s13))) ]
]

abbrev everyday_directories : ℕ
everyday_directories = bit_or first_flags directory_flags

is_everyday_first : (k : ℕ) → bit_at everyday_directories k ≡ 1 → IsTaken Everyday k
is_everyday_first k set = elim (both_or first_flags directory_flags k set) [
  | inl s5 ↦ elim (last_or (2 ^ 0) 5 k s5) [ inl e ↦ inr (inl e) | inr s0 ↦ inl (one_bit 0 k s0) ]
  | inr s ↦ is_directory k s
]

abbrev everyday_symlinks : ℕ
everyday_symlinks = bit_or everyday_directories (2 ^ 23)

is_everyday : (k : ℕ) → bit_at everyday.wanted k ≡ 1 → IsTaken Everyday k
is_everyday k set = elim (last_or (bit_or everyday_symlinks (2 ^ 30)) 39 k set) [
  | inl e ↦ inr (inr (inr (inr (inr (inr (inr e))))))
  | inr s30 ↦ elim (last_or everyday_symlinks 30 k s30) [
    | inl e ↦ inr (inr (inr (inr (inr (inr (inl e))))))
    | inr s23 ↦ elim (last_or everyday_directories 23 k s23) [ inl e ↦ inr (inr (inr (inr (inr (inl e))))) | inr s ↦ is_everyday_first k s ]
  ]
]

is_taken : (p : Profile) (k : ℕ) → bit_at (terms p).wanted k ≡ 1 → IsTaken p k
is_taken Plain k set = is_plain k set
is_taken Everyday k set = is_everyday k set

taken_set : (p : Profile) (k : ℕ) → IsTaken p k → bit_at (terms p).wanted k ≡ 1
taken_set Plain k (inl e) = rw e refl
taken_set Plain k (inr (inl e)) = rw e refl
taken_set Plain k (inr (inr (inl e))) = rw e refl
taken_set Plain k (inr (inr (inr e))) = rw e refl
taken_set Everyday k (inl e) = rw e refl
taken_set Everyday k (inr (inl e)) = rw e refl
taken_set Everyday k (inr (inr (inl e))) = rw e refl
taken_set Everyday k (inr (inr (inr (inl e)))) = rw e refl
taken_set Everyday k (inr (inr (inr (inr (inl e))))) = rw e refl
taken_set Everyday k (inr (inr (inr (inr (inr (inl e)))))) = rw e refl
taken_set Everyday k (inr (inr (inr (inr (inr (inr (inl e))))))) = rw e refl
taken_set Everyday k (inr (inr (inr (inr (inr (inr (inr e))))))) = rw e refl

settings : (p : Profile) (i : InitIn) (k : ℕ) → i.flags < 2 ^ 32 → (bit_at (agreed p i) k ≡ 1) ↔ (IsTaken p k × (offered_bit i k ≡ 1))
settings p i k few =
    let both = bit_at_and (offered i.flags i.flags2) (terms p).wanted k in
    let off = offered_is i.flags i.flags2 k few in
    let low = bit_at-lt (offered i.flags i.flags2) k in
    let low2 = bit_at-lt (terms p).wanted k in (
      (λ set. (is_taken p k (omega (arith, both, set, low, low2)), sym off ∙ omega (arith, both, set, low, low2))),
      (λ h. omega (arith, both, taken_set p k h.0, off, h.1)),
    )

-- the two halves of the set
halves : (set k : ℕ) (r : ℕ) → answered_bit (agreed_out r set) k ≡ bit_at set k
halves set k r =
    let whole : set / 2 ^ 32 * 2 ^ 32 + set % 2 ^ 32 ≡ set = omega arith in
    elim (cases_lt k 32) [
      | inl lt ↦ rw (lt-ltb k 32 lt) (sym (bit_at_cat_low (set / 2 ^ 32) 32 (set % 2 ^ 32) k lt) ∙ ap (λ (n : ℕ). bit_at n k) whole)
      | inr le ↦ rw (le-ltb k 32 le) (sym (bit_at_cat_high (set / 2 ^ 32) 32 (set % 2 ^ 32) k (omega arith) le) ∙ ap (λ (n : ℕ). bit_at n k) whole)
    ]

pub agreed_bits : AgreedBits
agreed_bits = record {
  settings = settings;
  answer = λ p i k few. (
    (λ set. (settings p i k few).0 (sym (halves (agreed p i) k i.max_readahead) ∙ set)),
    (λ h. halves (agreed p i) k i.max_readahead ∙ (settings p i k few).1 h),
  );
}
