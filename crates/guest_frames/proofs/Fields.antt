-- Parts that are read are those that are spelled, and the other way round.
use Rattle.std.proofs.Common.{◌≡◌, ◌≢◌, ℕ, zero, suc, ◌<◌, ◌≤◌, ◌^◌, Bool, true, false, cond, List, [], ◌∷◌, ◌++◌, length, take, drop, Result, Ok, Err}
use Rattle.std.proofs.Common.{refl, sym, ap, subst, ◌∙◌, ◌⊎◌, inl, inr, lit<, append_assoc, arith}
use Rattle.std.specs.Prelude.{◌==◌, nat_lt, if◌then◌else◌}
use Rattle.std.specs.List.{AllByRecursion}
use Rattle.std.proofs.lemmas.Bool.{ltb-false, le-ltb, eqb-false, eqb-true, ne_eqb}
use Rattle.std.proofs.lemmas.List.{append-nil, take_at, drop_at, take-append-drop, length-append, length-take}
use Rattle.fuse_wire.specs.Bytes.{le, number_of, IsBytes}
use Rattle.fuse_wire.specs.Laws.{NumbersRead}
use Rattle.fuse_wire.specs.Layout.{Part, form}
use Rattle.guest_frames.specs.declared.fault.GuestFault.{GuestFault}
use Rattle.guest_frames.specs.declared.fault.GuestFault.TheVariants as faults
use Rattle.guest_frames.specs.declared.guest_kind.GuestKind.{GuestKind}
use Rattle.guest_frames.specs.declared.guest_kind.GuestKind.TheVariants as kinds
use Rattle.guest_frames.specs.Limits.{max_key_len, max_value_len}
use Rattle.guest_frames.specs.Frames.{ChangeContent, put, delete, clear, key_parts, change_parts, items_bytes, IsBound, IsKey, IsValue, IsChange}
use Rattle.guest_frames.specs.Reading.{◌>>=◌, word_first, bytes_first, bound_first, key_first, value_first, items_first}
use Rattle.guest_frames.specs.Reading.{put_first, delete_first, clear_first, change_of, change_first}

-- the value of a step that did not fail
pub bind_ok : {A B : Type 0} (r : Result A GuestFault) (f : A → Result B GuestFault) (y : B) → (r >>= f) ≡ Ok y → (x : A) × (r ≡ Ok x) × (f x ≡ Ok y)
bind_ok (Ok x) f y e = (x, refl, e)
bind_ok (Err d) f y e = absurd cc

-- a test that did not fail
pub guard_ok : {A : Type 0} (b : Bool) (d : GuestFault) (r : Result A GuestFault) (y : A) → cond b (Err d) r ≡ Ok y → (b ≡ false) × (r ≡ Ok y)
guard_ok true d r y e = absurd cc
guard_ok false d r y e = (refl, e)

abbrev done : {A : Type 0} → A → Result A GuestFault
done x = Ok x

pub ok_is : {A : Type 0} (x y : A) → done x ≡ done y → x ≡ y
ok_is x y e = cc

-- what was read first
pub record Takes (b prefix rest : List ℕ) : Type 0 where
  pub is : b ≡ prefix ++ rest
  pub fits : IsBytes rest

pub Takes-then : (a x b y c : List ℕ) → Takes a x b → Takes b y c → Takes a (x ++ y) c
Takes-then a x b y c p q = record { is = p.is ∙ ap (λ (t : List ℕ). x ++ t) q.is ∙ sym (append_assoc x y c); fits = q.fits }

pub after_word : (n : ℕ) (b x rest : List ℕ) → Takes b x rest → Takes (le 4 n ++ b) (le 4 n ++ x) rest
after_word n b x rest t = record { is = ap (λ (y : List ℕ). le 4 n ++ y) t.is ∙ sym (append_assoc (le 4 n) x rest); fits = t.fits }

-- ---- numbers and bytes

pub word_takes : NumbersRead → (kind : GuestKind) (b : List ℕ) (n : ℕ) (rest : List ℕ) → IsBytes b → word_first kind b ≡ Ok (n, rest)
    → Takes b (le 4 n) rest × (n < 256 ^ 4)
word_takes laws kind b n rest fits e =
    let g = guard_ok (nat_lt (length b) 4) (faults.Malformed kind) (Ok (number_of 4 b, drop 4 b)) (n, rest) e in
    let long : 4 ≤ length b = ltb-false (length b) 4 g.0 in
    let p = laws.prefix 4 b long fits in
    subst (λ (x : ℕ × List ℕ). Takes b (le 4 x.0) x.1 × (x.0 < 256 ^ 4)) (ok_is (number_of 4 b, drop 4 b) (n, rest) g.1)
    (record { is = p.1; fits = laws.rest_bytes 4 b fits }, p.0)

pub word_again : NumbersRead → (kind : GuestKind) (n : ℕ) (rest : List ℕ) → n < 256 ^ 4 → word_first kind (le 4 n ++ rest) ≡ Ok (n, rest)
word_again laws kind n rest lt =
    let len : length (le 4 n) ≡ 4 = laws.len 4 n in
    let long : nat_lt (length (le 4 n ++ rest)) 4 ≡ false = le-ltb _ _ (omega (arith, len, length-append (le 4 n) rest)) in
    rw (long, laws.read 4 n rest lt, drop_at (le 4 n) rest 4 len) refl

bytes_take : NumbersRead → (kind : GuestKind) (n : ℕ) (b x rest : List ℕ) → IsBytes b → bytes_first kind n b ≡ Ok (x, rest) → Takes b x rest × (length x ≡ n)
bytes_take laws kind n b x rest fits e =
    let g = guard_ok (nat_lt (length b) n) (faults.Malformed kind) (Ok (take n b, drop n b)) (x, rest) e in
    let long : n ≤ length b = ltb-false (length b) n g.0 in
    let len : length (take n b) ≡ n = omega (arith, length-take n b) in
    subst (λ (p : List ℕ × List ℕ). Takes b p.0 p.1 × (length p.0 ≡ n)) (ok_is (take n b, drop n b) (x, rest) g.1)
    (record { is = sym (take-append-drop n b); fits = laws.rest_bytes n b fits }, len)

pub bytes_again : (kind : GuestKind) (x rest : List ℕ) → bytes_first kind (length x) (x ++ rest) ≡ Ok (x, rest)
bytes_again kind x rest =
    let long : nat_lt (length (x ++ rest)) (length x) ≡ false = le-ltb _ _ (omega (arith, length-append x rest)) in
    rw (long, take_at x rest (length x) refl, drop_at x rest (length x) refl) refl

-- ---- sizes, and their bytes

abbrev pub sized_bytes : List ℕ → List ℕ
sized_bytes x = le 4 (length x) ++ x

pub key_is : (x : List ℕ) → form (key_parts x) ≡ sized_bytes x
key_is x = ap (λ (t : List ℕ). le 4 (length x) ++ t) (append-nil x)

sized_take : NumbersRead → (kind : GuestKind) (b : List ℕ) (n : ℕ) (r x rest : List ℕ) → Takes b (le 4 n) r → bytes_first kind n r ≡ Ok (x, rest)
    → Takes b (sized_bytes x) rest × (length x ≡ n)
sized_take laws kind b n r x rest t e =
    let s = bytes_take laws kind n r x rest t.fits e in
    let both = Takes-then b (le 4 n) r x rest t s.0 in
    (subst (λ (k : ℕ). Takes b (le 4 k ++ x) rest) (sym s.1) both, s.1)

pub bound_takes : NumbersRead → (kind : GuestKind) (b x rest : List ℕ) → IsBytes b → bound_first kind b ≡ Ok (x, rest) → Takes b (sized_bytes x) rest × IsBound x
unfolding bound_first
bound_takes laws kind b x rest fits e =
    let w = bind_ok (word_first kind b) (λ n. if nat_lt max_key_len n.0 then Err (faults.Key n.0) else bytes_first kind n.0 n.1) (x, rest) e in
    let g = guard_ok (nat_lt max_key_len w.0.0) (faults.Key w.0.0) (bytes_first kind w.0.0 w.0.1) (x, rest) w.2 in
    let t = word_takes laws kind b w.0.0 w.0.1 fits w.1 in
    let s = sized_take laws kind b w.0.0 w.0.1 x rest t.0 g.1 in
    (s.0, omega (arith, s.1, ltb-false max_key_len w.0.0 g.0))

pub bound_again : NumbersRead → (kind : GuestKind) (x rest : List ℕ) → IsBound x → bound_first kind (sized_bytes x ++ rest) ≡ Ok (x, rest)
unfolding bound_first
bound_again laws kind x rest few =
    let regrouped : sized_bytes x ++ rest ≡ le 4 (length x) ++ (x ++ rest) = append_assoc (le 4 (length x)) x rest in
    let small : length x < 256 ^ 4 = omega (arith, few) in
    ap (bound_first kind) regrouped
    ∙ rw (word_again laws kind (length x) (x ++ rest) small, le-ltb max_key_len (length x) few, bytes_again kind x rest) refl

pub key_takes : NumbersRead → (kind : GuestKind) (b x rest : List ℕ) → IsBytes b → key_first kind b ≡ Ok (x, rest) → Takes b (sized_bytes x) rest × IsKey x
unfolding key_first
key_takes laws kind b x rest fits e =
    let w = bind_ok (word_first kind b)
    (λ n. if n.0 == 0 then Err (faults.Key n.0) else if nat_lt max_key_len n.0 then Err (faults.Key n.0) else bytes_first kind n.0 n.1) (x, rest) e in
    let f = guard_ok (w.0.0 == 0) (faults.Key w.0.0) (if nat_lt max_key_len w.0.0 then Err (faults.Key w.0.0) else bytes_first kind w.0.0 w.0.1) (x, rest) w.2 in
    let g = guard_ok (nat_lt max_key_len w.0.0) (faults.Key w.0.0) (bytes_first kind w.0.0 w.0.1) (x, rest) f.1 in
    let t = word_takes laws kind b w.0.0 w.0.1 fits w.1 in
    let s = sized_take laws kind b w.0.0 w.0.1 x rest t.0 g.1 in
    (s.0, (omega (arith, s.1, eqb-false w.0.0 0 f.0), omega (arith, s.1, ltb-false max_key_len w.0.0 g.0)))

pub key_again : NumbersRead → (kind : GuestKind) (x rest : List ℕ) → IsKey x → key_first kind (sized_bytes x ++ rest) ≡ Ok (x, rest)
unfolding key_first
key_again laws kind x rest is =
    let regrouped : sized_bytes x ++ rest ≡ le 4 (length x) ++ (x ++ rest) = append_assoc (le 4 (length x)) x rest in
    let small : length x < 256 ^ 4 = omega (arith, is.1) in
    let some : length x ≢ 0 = omega (arith, is.0) in
    ap (key_first kind) regrouped
    ∙ rw (word_again laws kind (length x) (x ++ rest) small, ne_eqb (length x) 0 some, le-ltb max_key_len (length x) is.1, bytes_again kind x rest) refl

pub value_takes : NumbersRead → (kind : GuestKind) (b x rest : List ℕ) → IsBytes b → value_first kind b ≡ Ok (x, rest) → Takes b (sized_bytes x) rest × IsValue x
unfolding value_first
value_takes laws kind b x rest fits e =
    let w = bind_ok (word_first kind b) (λ n. if nat_lt max_value_len n.0 then Err (faults.Value n.0) else bytes_first kind n.0 n.1) (x, rest) e in
    let g = guard_ok (nat_lt max_value_len w.0.0) (faults.Value w.0.0) (bytes_first kind w.0.0 w.0.1) (x, rest) w.2 in
    let t = word_takes laws kind b w.0.0 w.0.1 fits w.1 in
    let s = sized_take laws kind b w.0.0 w.0.1 x rest t.0 g.1 in
    (s.0, omega (arith, s.1, ltb-false max_value_len w.0.0 g.0))

pub value_again : NumbersRead → (kind : GuestKind) (x rest : List ℕ) → IsValue x → value_first kind (sized_bytes x ++ rest) ≡ Ok (x, rest)
unfolding value_first
value_again laws kind x rest few =
    let regrouped : sized_bytes x ++ rest ≡ le 4 (length x) ++ (x ++ rest) = append_assoc (le 4 (length x)) x rest in
    let small : length x < 256 ^ 4 = omega (arith, few) in
    ap (value_first kind) regrouped
    ∙ rw (word_again laws kind (length x) (x ++ rest) small, le-ltb max_value_len (length x) few, bytes_again kind x rest) refl

-- ---- changes

abbrev plain_change : ChangeContent → List ℕ
plain_change (put key value) = le 4 1 ++ (sized_bytes key ++ sized_bytes value)
plain_change (delete key) = le 4 2 ++ sized_bytes key
plain_change (clear from to) = le 4 3 ++ (sized_bytes from ++ sized_bytes to)

change_is : (c : ChangeContent) → form (change_parts c) ≡ plain_change c
change_is (put key value) = simp (append_assoc, append-nil)
change_is (delete key) = simp (append_assoc, append-nil)
change_is (clear from to) = simp (append_assoc, append-nil)

abbrev TakesChange : List ℕ → ℕ → ChangeContent × List ℕ → Type 0
TakesChange b what x = Takes (le 4 what ++ b) (plain_change x.0) x.1 × IsChange x.0

put_takes : NumbersRead → (b : List ℕ) (x : ChangeContent × List ℕ) → IsBytes b → put_first b ≡ Ok x → TakesChange b 1 x
unfolding put_first
put_takes laws b x fits e =
    let k = bind_ok (key_first kinds.Answer b) (λ key. value_first kinds.Answer key.1 >>= λ value. Ok (put key.0 value.0, value.1)) x e in
    let v = bind_ok (value_first kinds.Answer k.0.1) (λ value. Ok (put k.0.0 value.0, value.1)) x k.2 in
    let s = key_takes laws kinds.Answer b k.0.0 k.0.1 fits k.1 in
    let t = value_takes laws kinds.Answer k.0.1 v.0.0 v.0.1 s.0.fits v.1 in
    let both = Takes-then b (sized_bytes k.0.0) k.0.1 (sized_bytes v.0.0) v.0.1 s.0 t.0 in
    subst (TakesChange b 1) (ok_is (put k.0.0 v.0.0, v.0.1) x v.2) (after_word 1 b (sized_bytes k.0.0 ++ sized_bytes v.0.0) v.0.1 both, (s.1, t.1))

delete_takes : NumbersRead → (b : List ℕ) (x : ChangeContent × List ℕ) → IsBytes b → delete_first b ≡ Ok x → TakesChange b 2 x
unfolding delete_first
delete_takes laws b x fits e =
    let k = bind_ok (key_first kinds.Answer b) (λ key. Ok (delete key.0, key.1)) x e in
    let s = key_takes laws kinds.Answer b k.0.0 k.0.1 fits k.1 in
    subst (TakesChange b 2) (ok_is (delete k.0.0, k.0.1) x k.2) (after_word 2 b (sized_bytes k.0.0) k.0.1 s.0, s.1)

clear_takes : NumbersRead → (b : List ℕ) (x : ChangeContent × List ℕ) → IsBytes b → clear_first b ≡ Ok x → TakesChange b 3 x
unfolding clear_first
clear_takes laws b x fits e =
    let k = bind_ok (bound_first kinds.Answer b) (λ from. bound_first kinds.Answer from.1 >>= λ to. Ok (clear from.0 to.0, to.1)) x e in
    let v = bind_ok (bound_first kinds.Answer k.0.1) (λ to. Ok (clear k.0.0 to.0, to.1)) x k.2 in
    let s = bound_takes laws kinds.Answer b k.0.0 k.0.1 fits k.1 in
    let t = bound_takes laws kinds.Answer k.0.1 v.0.0 v.0.1 s.0.fits v.1 in
    let both = Takes-then b (sized_bytes k.0.0) k.0.1 (sized_bytes v.0.0) v.0.1 s.0 t.0 in
    subst (TakesChange b 3) (ok_is (clear k.0.0 v.0.0, v.0.1) x v.2) (after_word 3 b (sized_bytes k.0.0 ++ sized_bytes v.0.0) v.0.1 both, (s.1, t.1))

-- which of the four it is
abbrev KindOfChange : ℕ → List ℕ → ChangeContent × List ℕ → Type 0
KindOfChange what b x =
    ((what ≡ 1) × (put_first b ≡ Ok x)) ⊎ (((what ≡ 2) × (delete_first b ≡ Ok x)) ⊎ ((what ≡ 3) × (clear_first b ≡ Ok x)))

which : (what : ℕ) (b : List ℕ) (x : ChangeContent × List ℕ) (one two three : Bool) → (one ≡ true → what ≡ 1) → (two ≡ true → what ≡ 2) → (three ≡ true → what ≡ 3)
    → cond one (put_first b) (cond two (delete_first b) (cond three (clear_first b) (Err (faults.Change what)))) ≡ Ok x → KindOfChange what b x
which what b x true two three h1 h2 h3 e = inl (h1 refl, e)
which what b x false true three h1 h2 h3 e = inr (inl (h2 refl, e))
which what b x false false true h1 h2 h3 e = inr (inr (h3 refl, e))
which what b x false false false h1 h2 h3 e = absurd cc

change_taken : NumbersRead → (what : ℕ) (b : List ℕ) (x : ChangeContent × List ℕ) → IsBytes b → change_of what b ≡ Ok x → TakesChange b what x
change_taken laws what b x fits e =
    elim (which what b x (what == 1) (what == 2) (what == 3) (λ h. eqb-true what 1 h) (λ h. eqb-true what 2 h) (λ h. eqb-true what 3 h) e) [
      | inl h ↦ subst (λ (w : ℕ). TakesChange b w x) (sym h.0) (put_takes laws b x fits h.1)
      | inr h ↦ elim h [
        | inl h ↦ subst (λ (w : ℕ). TakesChange b w x) (sym h.0) (delete_takes laws b x fits h.1)
        | inr h ↦ subst (λ (w : ℕ). TakesChange b w x) (sym h.0) (clear_takes laws b x fits h.1)
      ]
    ]

pub change_takes : NumbersRead → (b : List ℕ) (c : ChangeContent) (rest : List ℕ) → IsBytes b → change_first b ≡ Ok (c, rest)
    → Takes b (form (change_parts c)) rest × IsChange c
unfolding change_first
change_takes laws b c rest fits e =
    let w = bind_ok (word_first kinds.Answer b) (λ what. change_of what.0 what.1) (c, rest) e in
    let t = word_takes laws kinds.Answer b w.0.0 w.0.1 fits w.1 in
    let s = change_taken laws w.0.0 w.0.1 (c, rest) t.0.fits w.2 in
    (record { is = t.0.is ∙ s.0.is ∙ ap (λ (y : List ℕ). y ++ rest) (sym (change_is c)); fits = s.0.fits }, s.1)

put_again : NumbersRead → (key value rest : List ℕ) → IsKey key → IsValue value
    → put_first (sized_bytes key ++ (sized_bytes value ++ rest)) ≡ Ok (put key value, rest)
unfolding put_first
put_again laws key value rest hk hv = rw (key_again laws kinds.Answer key (sized_bytes value ++ rest) hk, value_again laws kinds.Answer value rest hv) refl

delete_again : NumbersRead → (key rest : List ℕ) → IsKey key → delete_first (sized_bytes key ++ rest) ≡ Ok (delete key, rest)
unfolding delete_first
delete_again laws key rest hk = rw (key_again laws kinds.Answer key rest hk) refl

clear_again : NumbersRead → (from to rest : List ℕ) → IsBound from → IsBound to → clear_first (sized_bytes from ++ (sized_bytes to ++ rest)) ≡ Ok (clear from to, rest)
unfolding clear_first
clear_again laws from to rest hf ht =
    rw (bound_again laws kinds.Answer from (sized_bytes to ++ rest) hf, bound_again laws kinds.Answer to rest ht) refl

plain_again : NumbersRead → (c : ChangeContent) (rest : List ℕ) → IsChange c → change_first (plain_change c ++ rest) ≡ Ok (c, rest)
unfolding change_first
plain_again laws (put key value) rest is =
    let after : List ℕ = sized_bytes key ++ (sized_bytes value ++ rest) in
    let regrouped : plain_change (put key value) ++ rest ≡ le 4 1 ++ after =
    append_assoc (le 4 1) (sized_bytes key ++ sized_bytes value) rest ∙ ap (λ (t : List ℕ). le 4 1 ++ t) (append_assoc (sized_bytes key) (sized_bytes value) rest) in
    ap change_first regrouped ∙ rw (word_again laws kinds.Answer 1 after (lit< tt)) (put_again laws key value rest is.0 is.1)
plain_again laws (delete key) rest is =
    ap change_first (append_assoc (le 4 2) (sized_bytes key) rest) ∙ rw (word_again laws kinds.Answer 2 (sized_bytes key ++ rest) (lit< tt)) (delete_again laws key rest is)
plain_again laws (clear from to) rest is =
    let after : List ℕ = sized_bytes from ++ (sized_bytes to ++ rest) in
    let regrouped : plain_change (clear from to) ++ rest ≡ le 4 3 ++ after =
    append_assoc (le 4 3) (sized_bytes from ++ sized_bytes to) rest ∙ ap (λ (t : List ℕ). le 4 3 ++ t) (append_assoc (sized_bytes from) (sized_bytes to) rest) in
    ap change_first regrouped ∙ rw (word_again laws kinds.Answer 3 after (lit< tt)) (clear_again laws from to rest is.0 is.1)

pub change_again : NumbersRead → (c : ChangeContent) (rest : List ℕ) → IsChange c → change_first (form (change_parts c) ++ rest) ≡ Ok (c, rest)
change_again laws c rest is = ap (λ (y : List ℕ). change_first (y ++ rest)) (change_is c) ∙ plain_again laws c rest is

-- ---- items

pub items_take : {A : Type 0} (read : List ℕ → Result (A × List ℕ) GuestFault) (parts : A → List Part) (Good : A → Type 0)
    → ((b : List ℕ) (x : A) (rest : List ℕ) → IsBytes b → read b ≡ Ok (x, rest) → Takes b (form (parts x)) rest × Good x)
    → (n : ℕ) (b : List ℕ) (xs : List A × List ℕ) → IsBytes b → items_first read n b ≡ Ok xs
    → Takes b (items_bytes parts xs.0) xs.1 × (length xs.0 ≡ n) × AllByRecursion Good xs.0
items_take {A} read parts Good each zero b xs fits e =
    subst (λ (y : List A × List ℕ). Takes b (items_bytes parts y.0) y.1 × (length y.0 ≡ 0) × AllByRecursion Good y.0) (ok_is ([], b) xs e)
    (record { is = refl; fits = fits }, refl, tt)
items_take {A} read parts Good each (suc n) b xs fits e =
    let a = bind_ok (read b) (λ x. items_first read n x.1 >>= λ ys. Ok (x.0 ∷ ys.0, ys.1)) xs e in
    let c = bind_ok (items_first read n a.0.1) (λ ys. Ok (a.0.0 ∷ ys.0, ys.1)) xs a.2 in
    let first = each b a.0.0 a.0.1 fits a.1 in
    let others = items_take read parts Good each n a.0.1 c.0 first.0.fits c.1 in
    let both = Takes-then b (form (parts a.0.0)) a.0.1 (items_bytes parts c.0.0) c.0.1 first.0 others.0 in
    let made : List A × List ℕ = (a.0.0 ∷ c.0.0, c.0.1) in
    subst (λ (y : List A × List ℕ). Takes b (items_bytes parts y.0) y.1 × (length y.0 ≡ suc n) × AllByRecursion Good y.0) (ok_is made xs c.2)
    (both, ap suc others.1, (first.1, others.2))

pub items_again : {A : Type 0} (read : List ℕ → Result (A × List ℕ) GuestFault) (parts : A → List Part) (Good : A → Type 0)
    → ((x : A) (rest : List ℕ) → Good x → read (form (parts x) ++ rest) ≡ Ok (x, rest))
    → (xs : List A) (rest : List ℕ) → AllByRecursion Good xs → items_first read (length xs) (items_bytes parts xs ++ rest) ≡ Ok (xs, rest)
items_again read parts Good each [] rest good = refl
items_again read parts Good each (x ∷ xs) rest good =
    let regrouped : items_bytes parts (x ∷ xs) ++ rest ≡ form (parts x) ++ (items_bytes parts xs ++ rest) = append_assoc (form (parts x)) (items_bytes parts xs) rest in
    ap (items_first read (suc (length xs))) regrouped
    ∙ rw (each x (items_bytes parts xs ++ rest) good.0, items_again read parts Good each xs rest good.1) refl
