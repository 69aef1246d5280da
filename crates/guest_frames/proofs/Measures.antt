-- How long the frames of the engine are.
use Rattle.std.proofs.Common.{◌≡◌, ℕ, ◌+◌, ◌<◌, ◌≤◌, ◌⊎◌, ◌^◌, inl, inr, lit≤, Bool, true, false, List, [], ◌∷◌, length, map, All, Option, Some, None}
use Rattle.std.proofs.Common.{refl, sym, ◌∙◌, arith}
use Rattle.std.specs.Prelude.{◌==◌, ◌&&◌, nat_lt, if◌then◌else◌, IfSome, IfNone}
use Rattle.std.specs.Option.{option_and_then}
use Rattle.std.specs.List.{AllByRecursion}
use Rattle.std.proofs.lemmas.Bool.{ltb-false, ltb-true, eqb-false, eqb-true}
use Rattle.std.proofs.lemmas.List.{length-append}
use Rattle.std.proofs.lemmas.List.Elements.{All-from_recursion}
use Rattle.fuse_wire.specs.Laws.{LayoutsStand}
use Rattle.fuse_wire.specs.Layout.{Part, form}
use Rattle.guest_frames.specs.Limits.{max_reply_len, max_key_len, max_value_len, max_keys}
use Rattle.guest_frames.specs.Frames.{PairContent, of_values, of_pairs, value_parts, pair_parts, items_bytes, payload_parts, frame_len, IsValue, IsPair, IsLimited}
use Rattle.guest_frames.specs.inner.Writers.{value_room, pair_room, room_added, measured}

-- ---- one item

-- what the room of an item says of it
pub record Rooms {A : Type 0} (room : A → Option ℕ) (parts : A → List Part) (Good : A → Type 0) : Type 0 where
  pub right : (x : A) (n : ℕ) → room x ≡ Some n → Good x × (n ≡ length (form (parts x)))
  pub wrong : (x : A) → room x ≡ None → Good x → ⊥

abbrev some : ℕ → Option ℕ
some n = Some n

some_is : (m n : ℕ) → some m ≡ some n → m ≡ n
some_is m n e = cc

guard_some : (b : Bool) (m n : ℕ) → (if b then None else Some m) ≡ some n → (b ≡ false) × (m ≡ n)
guard_some true m n e = absurd cc
guard_some false m n e = (refl, some_is m n e)

guard_none : (b : Bool) (m : ℕ) → (if b then None else some m) ≡ None → b ≡ true
guard_none true m e = refl
guard_none false m e = absurd cc

value_right : LayoutsStand → (v : Option (List ℕ)) (n : ℕ) → value_room v ≡ Some n → IfSome v IsValue × (n ≡ length (form (value_parts v)))
value_right laws None n e = (tt, sym (some_is 4 n e) ∙ sym (laws.form_len (value_parts None)))
value_right laws (Some v) n e =
    let g = guard_some (nat_lt max_value_len (length v)) (4 + length v) n e in
    (ltb-false max_value_len (length v) g.0, omega (arith, g.1, laws.form_len (value_parts (Some v))))

value_wrong : (v : Option (List ℕ)) → value_room v ≡ None → IfSome v IsValue → ⊥
value_wrong None e good = absurd cc
value_wrong (Some v) e good =
    let long : max_value_len < length v = ltb-true max_value_len (length v) (guard_none (nat_lt max_value_len (length v)) (4 + length v) e) in
    omega (arith, long, good)

pub value_rooms : LayoutsStand → Rooms value_room value_parts (λ v. IfSome v IsValue)
value_rooms laws = record { right = value_right laws; wrong = value_wrong }

pair_tests : (a b c : Bool) (m n : ℕ) → (if a then None else if b then None else if c then None else Some m) ≡ some n
    → (a ≡ false) × (b ≡ false) × (c ≡ false) × (m ≡ n)
pair_tests true b c m n e = absurd cc
pair_tests false true c m n e = absurd cc
pair_tests false false true m n e = absurd cc
pair_tests false false false m n e = (refl, refl, refl, some_is m n e)

pair_refused : (a b c : Bool) (m : ℕ) → (if a then None else if b then None else if c then None else some m) ≡ None → (a ≡ true) ⊎ ((b ≡ true) ⊎ (c ≡ true))
pair_refused true b c m e = inl refl
pair_refused false true c m e = inr (inl refl)
pair_refused false false true m e = inr (inr refl)
pair_refused false false false m e = absurd cc

pair_right : LayoutsStand → (p : PairContent) (n : ℕ) → pair_room p ≡ Some n → IsPair p × (n ≡ length (form (pair_parts p)))
pair_right laws p n e =
    let t = pair_tests (length p.key == 0) (nat_lt max_key_len (length p.key)) (nat_lt max_value_len (length p.value)) (8 + length p.key + length p.value) n e in (
      (
        (omega (arith, eqb-false (length p.key) 0 t.0), ltb-false max_key_len (length p.key) t.1),
        ltb-false max_value_len (length p.value) t.2,
      ),
      omega (arith, t.3, laws.form_len (pair_parts p)),
    )

pair_wrong : (p : PairContent) → pair_room p ≡ None → IsPair p → ⊥
pair_wrong p e good =
    elim (pair_refused (length p.key == 0) (nat_lt max_key_len (length p.key)) (nat_lt max_value_len (length p.value)) (8 + length p.key + length p.value) e) [
      | inl h ↦ omega (arith, eqb-true (length p.key) 0 h, good.0.0)
      | inr h ↦ elim h [
        | inl h ↦ omega (arith, ltb-true max_key_len (length p.key) h, good.0.1)
        | inr h ↦ omega (arith, ltb-true max_value_len (length p.value) h, good.1)
      ]
    ]

pub pair_rooms : LayoutsStand → Rooms pair_room pair_parts IsPair
pair_rooms laws = record { right = pair_right laws; wrong = pair_wrong }

-- ---- all of them

then_some : (f : ℕ → Option ℕ) (o : Option ℕ) (m : ℕ) → option_and_then f o ≡ some m → (k : ℕ) × (o ≡ Some k) × (f k ≡ Some m)
then_some f None m e = absurd cc
then_some f (Some k) m e = (k, refl, e)

then_none : (f : ℕ → Option ℕ) (o : Option ℕ) → option_and_then f o ≡ None → (o ≡ None) ⊎ ((k : ℕ) × (o ≡ Some k) × (f k ≡ None))
then_none f None e = inl refl
then_none f (Some k) e = inr (k, refl, e)

added_some : (len : ℕ) (o : Option ℕ) (k : ℕ) → room_added len o ≡ Some k → (n : ℕ) × (o ≡ Some n) × (k ≡ len + n) × (k ≤ max_reply_len)
added_some len None k e = absurd cc
added_some len (Some n) k e =
    let g = guard_some (nat_lt max_reply_len (len + n)) (len + n) k e in
    (n, refl, sym g.1, omega (arith, g.1, ltb-false max_reply_len (len + n) g.0))

added_none : (len : ℕ) (o : Option ℕ) → room_added len o ≡ None → (o ≡ None) ⊎ ((n : ℕ) × (o ≡ Some n) × (max_reply_len < len + n))
added_none len None e = inl refl
added_none len (Some n) e = inr (n, refl, ltb-true max_reply_len (len + n) (guard_none (nat_lt max_reply_len (len + n)) (len + n) e))

pub record Measures {A : Type 0} (parts : A → List Part) (Good : A → Type 0) (len m : ℕ) (xs : List A) : Type 0 where
  pub each : AllByRecursion Good xs
  pub is : m ≡ len + length (items_bytes parts xs)
  pub short : len ≤ max_reply_len → m ≤ max_reply_len

pub measured_some : {A : Type 0} (room : A → Option ℕ) (parts : A → List Part) (Good : A → Type 0) → Rooms room parts Good → (len m : ℕ) (xs : List A)
    → measured room len xs ≡ Some m → Measures parts Good len m xs
measured_some room parts Good rooms len m [] e = let is = some_is len m e in record { each = tt; is = omega (arith, is); short = λ h. omega (arith, is, h) }
measured_some room parts Good rooms len m (x ∷ xs) e =
    let a = then_some (λ n. measured room n xs) (room_added len (room x)) m e in
    let b = added_some len (room x) a.0 a.1 in
    let r = rooms.right x b.0 b.1 in
    let more = measured_some room parts Good rooms a.0 m xs a.2 in
    record {
      each = (r.0, more.each);
      is = omega (arith, more.is, b.2, r.1, length-append (form (parts x)) (items_bytes parts xs));
      short = λ h. more.short b.3;
    }

pub measured_none : {A : Type 0} (room : A → Option ℕ) (parts : A → List Part) (Good : A → Type 0) → Rooms room parts Good → (len : ℕ) (xs : List A)
    → measured room len xs ≡ None → AllByRecursion Good xs → len + length (items_bytes parts xs) ≤ max_reply_len → ⊥
measured_none room parts Good rooms len [] e good short = absurd cc
measured_none room parts Good rooms len (x ∷ xs) e good short =
    let total = length-append (form (parts x)) (items_bytes parts xs) in
    elim (then_none (λ n. measured room n xs) (room_added len (room x)) e) [
      | inl none ↦ elim (added_none len (room x) none) [
        | inl none ↦ rooms.wrong x none good.0
        | inr h ↦ omega (arith, h.2, (rooms.right x h.0 h.1).1, total, short)
      ]
      | inr h ↦ (let b = added_some len (room x) h.0 h.1 in
          measured_none room parts Good rooms h.0 xs h.2 good.1 (omega (arith, b.2, (rooms.right x b.0 b.1).1, total, short)))
    ]

-- ---- frames of them

values_len : LayoutsStand → (vs : List (Option (List ℕ))) → frame_len (of_values vs) ≡ 16 + length (items_bytes value_parts vs)
values_len laws vs = omega (arith, laws.form_len (payload_parts (of_values vs)))

pairs_len : LayoutsStand → (ps : List PairContent) (more : Bool) → frame_len (of_pairs ps more) ≡ 16 + length (items_bytes pair_parts ps)
pairs_len laws ps more = omega (arith, laws.form_len (payload_parts (of_pairs ps more)))

pub values_some : LayoutsStand → (vs : List (Option (List ℕ))) (o : Option ℕ) → 1 ≤ length vs → length vs ≤ max_keys → o ≡ measured value_room 16 vs
    → IfSome o (λ n. IsLimited (of_values vs) × (n ≡ frame_len (of_values vs)))
values_some laws vs None some few is = tt
values_some laws vs (Some n) some few is =
    let m = measured_some value_room value_parts (λ v. IfSome v IsValue) (value_rooms laws) 16 n vs (sym is) in
    let len = values_len laws vs in
    let short : frame_len (of_values vs) ≤ max_reply_len = omega (arith, len, m.is, m.short (lit≤ tt)) in
    ((record { some = some; few = few; each = m.each; short = short }, omega (arith, short)), omega (arith, len, m.is))

pub values_none : LayoutsStand → (vs : List (Option (List ℕ))) (o : Option ℕ) → o ≡ measured value_room 16 vs → IfNone o (IsLimited (of_values vs) → ⊥)
values_none laws vs None is = λ limited.
    measured_none value_room value_parts (λ v. IfSome v IsValue) (value_rooms laws) 16 vs (sym is) limited.0.each
    (omega (arith, limited.0.short, values_len laws vs))
values_none laws vs (Some n) is = tt

some_of : (ps : List PairContent) (more : Bool) → (more && length ps == 0) ≡ false → more ≡ true → 1 ≤ length ps
some_of ps true e is = omega (arith, eqb-false (length ps) 0 e)
some_of ps false e is = absurd cc

-- there are more after none
pub none_of_more : (ps : List PairContent) (more : Bool) → (more && length ps == 0) ≡ true → IsLimited (of_pairs ps more) → ⊥
none_of_more ps true e limited = omega (arith, eqb-true (length ps) 0 e, limited.0.some refl)
none_of_more ps false e limited = absurd cc

pub pairs_some : LayoutsStand → (ps : List PairContent) (more : Bool) (o : Option ℕ) → (more && length ps == 0) ≡ false → o ≡ measured pair_room 16 ps
    → IfSome o (λ n. IsLimited (of_pairs ps more) × (n ≡ frame_len (of_pairs ps more)))
pairs_some laws ps more None some is = tt
pairs_some laws ps more (Some n) some is =
    let m = measured_some pair_room pair_parts IsPair (pair_rooms laws) 16 n ps (sym is) in
    let len = pairs_len laws ps more in
    let short : frame_len (of_pairs ps more) ≤ max_reply_len = omega (arith, len, m.is, m.short (lit≤ tt)) in
    ((record { each = m.each; some = some_of ps more some; short = short }, omega (arith, short)), omega (arith, len, m.is))

pub pairs_none : LayoutsStand → (ps : List PairContent) (more : Bool) (o : Option ℕ) → o ≡ measured pair_room 16 ps
    → IfNone o (IsLimited (of_pairs ps more) → ⊥)
pairs_none laws ps more None is = λ limited.
    measured_none pair_room pair_parts IsPair (pair_rooms laws) 16 ps (sym is) limited.0.each (omega (arith, limited.0.short, pairs_len laws ps more))
pairs_none laws ps more (Some n) is = tt

-- each pair takes some bytes
pub few_items : (parts : PairContent → List Part) → ((p : PairContent) → 1 ≤ length (form (parts p))) → (ps : List PairContent)
    → length ps ≤ length (items_bytes parts ps)
few_items parts each [] = omega arith
few_items parts each (p ∷ ps) = omega (arith, each p, few_items parts each ps, length-append (form (parts p)) (items_bytes parts ps))

pub few_pairs : LayoutsStand → (ps : List PairContent) (more : Bool) → IsLimited (of_pairs ps more) → length ps < 2 ^ 32
few_pairs laws ps more limited =
    omega (arith, few_items pair_parts (λ p. omega (arith, laws.form_len (pair_parts p))) ps, pairs_len laws ps more, limited.1)

-- ---- what holds of the items of a frame, of those of its list

each_map : {A B : Type 0} (view : A → B) (Good : B → Type 0) (xs : List A) → AllByRecursion Good (map view xs) → AllByRecursion (λ x. Good (view x)) xs
each_map view Good [] each = tt
each_map view Good (x ∷ xs) each = (each.0, each_map view Good xs each.1)

pub all_map : {A B : Type 0} (view : A → B) (Good : B → Type 0) (xs : List A) → AllByRecursion Good (map view xs) → All (λ x. Good (view x)) xs
all_map view Good xs each = All-from_recursion (λ x. Good (view x)) xs (each_map view Good xs each)
