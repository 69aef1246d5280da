-- Bytes are those of one frame at most.
use Rattle.std.proofs.Common.{◌≡◌, ◌≢◌, ℕ, ◌<◌, ◌≤◌, ◌^◌, Bool, true, false, List, [], ◌++◌, length, take, drop, Option, Some, None, Result, Ok}
use Rattle.std.proofs.Common.{refl, sym, ap, subst, ◌∙◌, append_assoc, lit<, arith}
use Rattle.std.specs.Prelude.{◌==◌, ℤ, if◌then◌else◌, IfSome}
use Rattle.std.specs.Int.{cast_signed, cast_unsigned, w64}
use Rattle.std.specs.List.{AllByRecursion}
use Rattle.std.proofs.lemmas.Bool.{ne_eqb}
use Rattle.std.proofs.lemmas.Int.{to_z-of_z}
use Rattle.std.proofs.lemmas.List.{append-nil, take_at, drop_at}
use Rattle.fuse_wire.specs.Bytes.{le, number_of}
use Rattle.fuse_wire.specs.Laws.{NumbersRead, LayoutsStand}
use Rattle.fuse_wire.specs.Layout.{Part, Placed, form}
use Rattle.guest_frames.specs.declared.fault.GuestFault.{GuestFault}
use Rattle.guest_frames.specs.declared.guest_kind.GuestKind.TheVariants as kinds
use Rattle.guest_frames.specs.declared.hello.Agreed.{Agreed}
use Rattle.guest_frames.specs.declared.hello.Hello.{Hello}
use Rattle.guest_frames.specs.Limits.{no_value_size}
use Rattle.guest_frames.specs.Frames.{PairContent, RequestContent, Frame, of_hello, of_ready, of_request, of_get, of_values, of_scan, of_pairs, of_answer}
use Rattle.guest_frames.specs.Frames.{value_parts, pair_parts, items_bytes, flag, payload_parts, frame_kind, frame_len, frame_bytes}
use Rattle.guest_frames.specs.Frames.{IsValue, IsPair, SpellsFrame, IsFrame}
use Rattle.guest_frames.specs.Reading.{◌>>=◌, word_first, bytes_first, key_first, value_first, items_first}
use Rattle.guest_frames.proofs.Fields.{ok_is, sized_bytes, key_is, word_again, bytes_again, key_again, value_again, items_again}
use Rattle.guest_frames.proofs.Payloads.{all_bytes, ready_again, get_again, scan_again, answer_again}

-- ---- HELLO

abbrev hello_parts : Option Agreed → ℕ → List Part
hello_parts agreed opcodes = payload_parts (of_hello (record { agreed = agreed; opcodes = opcodes }))

abbrev some_agreed : ℕ → ℕ → ℕ → Option Agreed
some_agreed minor flags pledged = Some (record { minor = minor; flags = flags; pledged = pledged })

hello_placed : (b : List ℕ) (a a' : Option Agreed) (o o' : ℕ) → Placed 0 (hello_parts a o) b → Placed 0 (hello_parts a' o') b → (a ≡ a') × (o ≡ o')
hello_placed b None None o o' h g =
    let s = h.1.1.1.1.1.1.1.1.1 in
    let t = g.1.1.1.1.1.1.1.1.1 in
    (refl, s.0 ∙ sym t.0)
hello_placed b None (Some x) o o' h g = absurd (omega (arith, h.1.1.1.1.1.1.0, g.1.1.1.1.1.1.0))
hello_placed b (Some x) None o o' h g = absurd (omega (arith, h.1.1.1.1.1.1.0, g.1.1.1.1.1.1.0))
hello_placed b (Some x) (Some y) o o' h g =
    let s = h.1.1.1.1.1.1.1 in
    let t = g.1.1.1.1.1.1.1 in
    let minor : x.minor ≡ y.minor = s.0 ∙ sym t.0 in
    let flags : x.flags ≡ y.flags = s.1.0 ∙ sym t.1.0 in
    let pledged : x.pledged ≡ y.pledged = s.1.1.1.0 ∙ sym t.1.1.1.0 in (
      ap (λ (n : ℕ). some_agreed n x.flags x.pledged) minor ∙ ap (λ (n : ℕ). some_agreed y.minor n x.pledged) flags
          ∙ ap (λ (n : ℕ). some_agreed y.minor y.flags n) pledged,
      s.1.1.0 ∙ sym t.1.1.0,
    )

abbrev made_hello : Option Agreed → ℕ → Hello
made_hello a o = record { agreed = a; opcodes = o }

hello_same : LayoutsStand → (b : List ℕ) (h g : Hello) → SpellsFrame (of_hello h) b → SpellsFrame (of_hello g) b → h ≡ g
hello_same laws b h g s t =
    let e = hello_placed b h.agreed g.agreed h.opcodes g.opcodes (laws.stands (payload_parts (of_hello h)) b s.laid)
    (laws.stands (payload_parts (of_hello g)) b t.laid) in
    ap (λ (a : Option Agreed). made_hello a h.opcodes) e.0 ∙ ap (λ (n : ℕ). made_hello g.agreed n) e.1

-- ---- REQUEST

abbrev made_request : ℤ → ℕ → ℕ → List ℕ → RequestContent
made_request secs nanos count message = record { secs = secs; nanos = nanos; count = count; message = message }

request_same : LayoutsStand → (b : List ℕ) (r q : RequestContent) → SpellsFrame (of_request r) b → SpellsFrame (of_request q) b → r ≡ q
request_same laws b r q s t =
    let h : Placed 0 (payload_parts (of_request r)) b = laws.stands (payload_parts (of_request r)) b s.laid in
    let g : Placed 0 (payload_parts (of_request q)) b = laws.stands (payload_parts (of_request q)) b t.laid in
    let bits : cast_unsigned w64 r.secs ≡ cast_unsigned w64 q.secs = h.0 ∙ sym g.0 in
    let secs : r.secs ≡ q.secs = sym (to_z-of_z w64 r.secs s.within.0) ∙ ap (cast_signed w64) bits ∙ to_z-of_z w64 q.secs t.within.0 in
    let message : r.message ≡ q.message = sym (all_bytes r.message (drop 16 b) h.1.1.1.1) ∙ all_bytes q.message (drop 16 b) g.1.1.1.1 in
    ap (λ (z : ℤ). made_request z r.nanos r.count r.message) secs ∙ ap (λ (n : ℕ). made_request q.secs n r.count r.message) (h.1.0 ∙ sym g.1.0)
    ∙ ap (λ (n : ℕ). made_request q.secs q.nanos n r.message) (h.1.1.0 ∙ sym g.1.1.0)
    ∙ ap (λ (m : List ℕ). made_request q.secs q.nanos q.count m) message

-- ---- VALUES and PAIRS: a reader of each, from which the items follow

unfoldable option_first : List ℕ → Result (Option (List ℕ) × List ℕ) GuestFault
option_first b = do
  n ← word_first kinds.Get b
  if n.0 == no_value_size then Ok (None, n.1) else (bytes_first kinds.Get n.0 n.1 >>= λ x. Ok (Some x.0, x.1))

option_again : NumbersRead → (v : Option (List ℕ)) (rest : List ℕ) → IfSome v IsValue → option_first (form (value_parts v) ++ rest) ≡ Ok (v, rest)
unfolding option_first
option_again laws None rest good =
    let regrouped : form (value_parts None) ++ rest ≡ le 4 no_value_size ++ rest = ap (λ (x : List ℕ). x ++ rest) (append-nil (le 4 no_value_size)) in
    ap option_first regrouped ∙ rw (word_again laws kinds.Get no_value_size rest (lit< tt)) refl
option_again laws (Some v) rest good =
    let regrouped : form (value_parts (Some v)) ++ rest ≡ le 4 (length v) ++ (v ++ rest) =
    ap (λ (x : List ℕ). x ++ rest) (key_is v) ∙ append_assoc (le 4 (length v)) v rest in
    let other : length v ≢ no_value_size = omega (arith, good) in
    ap option_first regrouped
    ∙ rw (word_again laws kinds.Get (length v) (v ++ rest) (omega (arith, good)), ne_eqb (length v) no_value_size other, bytes_again kinds.Get v rest) refl

unfoldable pair_first : List ℕ → Result (PairContent × List ℕ) GuestFault
pair_first b = do
  key ← key_first kinds.Get b
  value ← value_first kinds.Get key.1
  Ok (record { key = key.0; value = value.0 }, value.1)

pair_is : (p : PairContent) → form (pair_parts p) ≡ sized_bytes p.key ++ sized_bytes p.value
pair_is p = simp (append_assoc, append-nil)

pair_again : NumbersRead → (p : PairContent) (rest : List ℕ) → IsPair p → pair_first (form (pair_parts p) ++ rest) ≡ Ok (p, rest)
unfolding pair_first
pair_again laws p rest good =
    let regrouped : form (pair_parts p) ++ rest ≡ sized_bytes p.key ++ (sized_bytes p.value ++ rest) =
    ap (λ (x : List ℕ). x ++ rest) (pair_is p) ∙ append_assoc (sized_bytes p.key) (sized_bytes p.value) rest in
    ap pair_first regrouped
    ∙ rw (key_again laws kinds.Get p.key (sized_bytes p.value ++ rest) good.0, value_again laws kinds.Get p.value rest good.1) refl

items_same : {A : Type 0} (read : List ℕ → Result (A × List ℕ) GuestFault) (parts : A → List Part) (Good : A → Type 0)
    → ((x : A) (rest : List ℕ) → Good x → read (form (parts x) ++ rest) ≡ Ok (x, rest))
    → (xs ys : List A) → AllByRecursion Good xs → AllByRecursion Good ys → length xs ≡ length ys → items_bytes parts xs ≡ items_bytes parts ys → xs ≡ ys
items_same {A} read parts Good each xs ys good fine len is =
    let first = items_again read parts Good each xs [] good in
    let second = items_again read parts Good each ys [] fine in
    let start : items_first read (length xs) (items_bytes parts xs ++ []) ≡ items_first read (length ys) (items_bytes parts ys ++ []) =
    ap (λ (n : ℕ). items_first read n (items_bytes parts xs ++ [])) len ∙ ap (λ (b : List ℕ). items_first read (length ys) (b ++ [])) is in
    ap (λ (p : List A × List ℕ). p.0) (ok_is (xs, []) (ys, []) (sym first ∙ start ∙ second))

values_same : NumbersRead → LayoutsStand → (b : List ℕ) (vs ws : List (Option (List ℕ))) → SpellsFrame (of_values vs) b → SpellsFrame (of_values ws) b → vs ≡ ws
values_same numbers laws b vs ws s t =
    let h : Placed 0 (payload_parts (of_values vs)) b = laws.stands (payload_parts (of_values vs)) b s.laid in
    let g : Placed 0 (payload_parts (of_values ws)) b = laws.stands (payload_parts (of_values ws)) b t.laid in
    let is : items_bytes value_parts vs ≡ items_bytes value_parts ws =
    sym (all_bytes (items_bytes value_parts vs) (drop 8 b) h.1.1.1) ∙ all_bytes (items_bytes value_parts ws) (drop 8 b) g.1.1.1 in
    items_same option_first value_parts (λ v. IfSome v IsValue) (option_again numbers) vs ws s.within.each t.within.each (h.0 ∙ sym g.0) is

flag_same : (a b : Bool) → flag 1 a ≡ flag 1 b → a ≡ b
flag_same false false e = refl
flag_same true true e = refl
flag_same false true e = absurd (omega (arith, e))
flag_same true false e = absurd (omega (arith, e))

pairs_same : NumbersRead → LayoutsStand → (b : List ℕ) (ps qs : List PairContent) (more also : Bool) → SpellsFrame (of_pairs ps more) b → SpellsFrame (of_pairs qs also) b
    → of_pairs ps more ≡ of_pairs qs also
pairs_same numbers laws b ps qs more also s t =
    let h : Placed 0 (payload_parts (of_pairs ps more)) b = laws.stands (payload_parts (of_pairs ps more)) b s.laid in
    let g : Placed 0 (payload_parts (of_pairs qs also)) b = laws.stands (payload_parts (of_pairs qs also)) b t.laid in
    let is : items_bytes pair_parts ps ≡ items_bytes pair_parts qs =
    sym (all_bytes (items_bytes pair_parts ps) (drop 8 b) h.1.1.1) ∙ all_bytes (items_bytes pair_parts qs) (drop 8 b) g.1.1.1 in
    let same = items_same pair_first pair_parts IsPair (pair_again numbers) ps qs s.within.each t.within.each (h.0 ∙ sym g.0) is in
    ap (λ (x : List PairContent). of_pairs x more) same ∙ ap (λ (m : Bool). of_pairs qs m) (flag_same more also (h.1.0 ∙ sym g.1.0))

-- ---- all of them

same_frame : NumbersRead → LayoutsStand → (b : List ℕ) (f g : Frame) → frame_kind f ≡ frame_kind g → SpellsFrame f b → SpellsFrame g b → f ≡ g
same_frame numbers laws b (of_hello h) (of_hello g) kind s t = ap of_hello (hello_same laws b h g s t)
same_frame numbers laws b (of_ready r) (of_ready q) kind s t = ap of_ready (ok_is r q (sym (ready_again laws b r s) ∙ ready_again laws b q t))
same_frame numbers laws b (of_request r) (of_request q) kind s t = ap of_request (request_same laws b r q s t)
same_frame numbers laws b (of_get ks) (of_get ls) kind s t = ap of_get (ok_is ks ls (sym (get_again numbers laws b ks s) ∙ get_again numbers laws b ls t))
same_frame numbers laws b (of_values vs) (of_values ws) kind s t = ap of_values (values_same numbers laws b vs ws s t)
same_frame numbers laws b (of_scan x) (of_scan y) kind s t = ap of_scan (ok_is x y (sym (scan_again numbers laws b x s) ∙ scan_again numbers laws b y t))
same_frame numbers laws b (of_pairs ps more) (of_pairs qs also) kind s t = pairs_same numbers laws b ps qs more also s t
same_frame numbers laws b (of_answer x) (of_answer y) kind s t = ap of_answer (ok_is x y (sym (answer_again numbers laws b x s) ∙ answer_again numbers laws b y t))
same_frame numbers laws b f g kind s t = absurd (omega (arith, kind))

kind_few : (f : Frame) → frame_kind f ≤ 8
kind_few (of_hello h) = omega arith
kind_few (of_ready r) = omega arith
kind_few (of_request r) = omega arith
kind_few (of_get keys) = omega arith
kind_few (of_values values) = omega arith
kind_few (of_scan s) = omega arith
kind_few (of_pairs pairs more) = omega arith
kind_few (of_answer a) = omega arith

pub regrouped : (f : Frame) (x : List ℕ) → frame_bytes f ++ x ≡ le 4 (frame_len f) ++ (le 4 (frame_kind f) ++ (form (payload_parts f) ++ x))
regrouped f x =
    append_assoc (le 4 (frame_len f)) (le 4 (frame_kind f) ++ form (payload_parts f)) x
    ∙ ap (λ (y : List ℕ). le 4 (frame_len f) ++ y) (append_assoc (le 4 (frame_kind f)) (form (payload_parts f)) x)

-- a number of four bytes that stands first, and what follows
first_number : NumbersRead → (m n : ℕ) (x y : List ℕ) → m < 256 ^ 4 → n < 256 ^ 4 → le 4 m ++ x ≡ le 4 n ++ y → (m ≡ n) × (x ≡ y)
first_number laws m n x y hm hn e = (
  sym (laws.read 4 m x hm) ∙ ap (number_of 4) e ∙ laws.read 4 n y hn,
  sym (drop_at (le 4 m) x 4 (laws.len 4 m)) ∙ ap (drop 4) e ∙ drop_at (le 4 n) y 4 (laws.len 4 n),
)

pub spelled : LayoutsStand → (f : Frame) → IsFrame f → SpellsFrame f (form (payload_parts f))
spelled laws f is = record { within = is.limited.0; laid = laws.formed (payload_parts f) is.fits }

pub one_frame : NumbersRead → LayoutsStand → (f g : Frame) (x y : List ℕ) → IsFrame f → IsFrame g → frame_bytes f ++ x ≡ frame_bytes g ++ y → (f ≡ g) × (x ≡ y)
one_frame numbers laws f g x y is also e =
    let p : List ℕ = form (payload_parts f) in
    let q : List ℕ = form (payload_parts g) in
    let start = sym (regrouped f x) ∙ e ∙ regrouped g y in
    let first = first_number numbers (frame_len f) (frame_len g) (le 4 (frame_kind f) ++ (p ++ x)) (le 4 (frame_kind g) ++ (q ++ y))
    (omega (arith, is.limited.1)) (omega (arith, also.limited.1)) start in
    let second = first_number numbers (frame_kind f) (frame_kind g) (p ++ x) (q ++ y) (omega (arith, kind_few f)) (omega (arith, kind_few g)) first.1 in
    let len : length p ≡ length q = omega (arith, first.0) in
    let same : p ≡ q = sym (take_at p x (length p) refl) ∙ ap (take (length p)) second.1 ∙ take_at q y (length p) (sym len) in
    let rest : x ≡ y = sym (drop_at p x (length p) refl) ∙ ap (drop (length p)) second.1 ∙ drop_at q y (length p) (sym len) in
    (same_frame numbers laws p f g second.0 (spelled laws f is) (subst (SpellsFrame g) (sym same) (spelled laws g also)), rest)
