-- Payloads that are read are those that are spelled, and the other way round.
use Rattle.std.proofs.Common.{◌≡◌, ◌≢◌, ℕ, zero, suc, ◌+◌, ◌%◌, ◌/◌, ◌≤◌, Bool, true, false, not, List, [], ◌∷◌, ◌++◌, length, drop}
use Rattle.std.proofs.Common.{Option, Some, None, Result, Ok, Err, refl, sym, ap, subst, ◌∙◌, append_assoc, lit≤, arith, eq-eqb}
use Rattle.std.specs.Prelude.{◌==◌, nat_lt, if◌then◌else◌}
use Rattle.std.specs.List.{AllByRecursion}
use Rattle.std.proofs.lemmas.Bool.{ltb-false, le-ltb, eqb-false, eqb-true, ne_eqb}
use Rattle.std.proofs.lemmas.List.{append-nil, nil_from_length, drop-drop, length-drop}
use Rattle.fuse_wire.specs.Bounds.{max_body_len, max_error_number}
use Rattle.fuse_wire.specs.Bytes.{le, IsBytes}
use Rattle.fuse_wire.specs.Laws.{NumbersRead, LayoutsStand}
use Rattle.fuse_wire.specs.Layout.{Part, number, bytes, Lays, Placed, form}
use Rattle.guest_frames.specs.declared.fault.GuestFault.{GuestFault}
use Rattle.guest_frames.specs.declared.fault.GuestFault.TheVariants as faults
use Rattle.guest_frames.specs.declared.guest_kind.GuestKind.{GuestKind}
use Rattle.guest_frames.specs.declared.guest_kind.GuestKind.TheVariants as kinds
use Rattle.guest_frames.specs.declared.ready.Ready.{Ready}
use Rattle.guest_frames.specs.Limits.{protocol_version, max_keys, max_changes}
use Rattle.guest_frames.specs.Kinds.{kind_number}
use Rattle.guest_frames.specs.Seeable.{unseeable}
use Rattle.guest_frames.specs.Frames.{ScanContent, AnswerContent, Frame, of_ready, of_get, of_scan, of_answer, flag}
use Rattle.guest_frames.specs.Frames.{key_parts, change_parts, items_bytes, payload_parts, frame_kind, IsBound, IsKey, IsChange, IsRightAnswer, SpellsFrame}
use Rattle.guest_frames.specs.Reading.{◌>>=◌, word_at, bound_first, key_first, change_first, items_first, ready_if_seeable, ready_at, ready_in}
use Rattle.guest_frames.specs.Reading.{keys_in, get_in, range_in, scan_in, changes_in, guest_answer_in, payload_in}
use Rattle.guest_frames.proofs.Fields.{bind_ok, ok_is, Takes, sized_bytes, key_is, bound_takes, bound_again, key_takes, key_again}
use Rattle.guest_frames.proofs.Fields.{change_takes, change_again, items_take, items_again}

abbrev done : {A : Type 0} → A → Result A GuestFault
done x = Ok x

-- a payload that ends what is laid out
pub all_bytes : (xs b : List ℕ) → Lays (bytes xs ∷ []) b → b ≡ xs
all_bytes xs b h = h.1 ∙ ap (λ (x : List ℕ). xs ++ x) h.2 ∙ append-nil xs

bytes_laid : (xs b : List ℕ) → b ≡ xs → Lays (bytes xs ∷ []) b
bytes_laid xs b is = ([], is ∙ sym (append-nil xs), refl)

-- ---- READY

ready_tests : (short version len zeros : Bool) (v : ℕ) (r : Result Ready GuestFault) (x : Ready)
    → (if short then Err (faults.Malformed kinds.Ready) else if not version then Err (faults.Version v)
    else if not len then Err (faults.Malformed kinds.Ready) else if not zeros then Err (faults.Malformed kinds.Ready) else r) ≡ Ok x
    → (version ≡ true) × (len ≡ true) × (zeros ≡ true) × (r ≡ Ok x)
ready_tests true version len zeros v r x e = absurd cc
ready_tests false false len zeros v r x e = absurd cc
ready_tests false true false zeros v r x e = absurd cc
ready_tests false true true false v r x e = absurd cc
ready_tests false true true true v r x e = (refl, refl, refl, e)

seen_fine : (o : Option ℕ) (r x : Ready) → ready_if_seeable o r ≡ Ok x → (o ≡ None) × (r ≡ x)
seen_fine None r x e = (refl, ok_is r x e)
seen_fine (Some n) r x e = absurd cc

pub ready_found : LayoutsStand → (b : List ℕ) (r : Ready) → IsBytes b → ready_in b ≡ Ok r → SpellsFrame (of_ready r) b
ready_found laws b r fits e =
    let t = ready_tests (nat_lt (length b) 4) (word_at 0 b == protocol_version) (length b == 40) (word_at 28 b == 0) (word_at 0 b)
    (ready_if_seeable (unseeable (ready_at b).seen) (ready_at b)) r e in
    let s = seen_fine (unseeable (ready_at b).seen) (ready_at b) r t.3 in
    let ps : List Part = payload_parts (of_ready (ready_at b)) in
    let version : 1 ≡ word_at 0 b = sym (eqb-true (word_at 0 b) 1 t.0) in
    let zeros : 0 ≡ word_at 28 b = sym (eqb-true (word_at 28 b) 0 t.2) in
    let placed : Placed 0 ps b = (version, (refl, (refl, (refl, (refl, (zeros, (refl, eqb-true (length b) 40 t.1))))))) in
    subst (λ (x : Ready). SpellsFrame (of_ready x) b) s.1 (record { within = s.0; laid = laws.placed ps b fits placed })

pub ready_again : LayoutsStand → (b : List ℕ) (r : Ready) → SpellsFrame (of_ready r) b → ready_in b ≡ Ok r
ready_again laws b r s =
    let p : Placed 0 (payload_parts (of_ready r)) b = laws.stands (payload_parts (of_ready r)) b s.laid in
    let is : ready_at b ≡ r = rw (← p.1.0, ← p.1.1.0, ← p.1.1.1.0, ← p.1.1.1.1.0, ← p.1.1.1.1.1.1.0) refl in
    let long : nat_lt (length b) 4 ≡ false = le-ltb (length b) 4 (omega (arith, p.1.1.1.1.1.1.1)) in
    let version : (word_at 0 b == 1) ≡ true = eq-eqb (word_at 0 b) 1 (sym p.0) in
    let len : (length b == 40) ≡ true = eq-eqb (length b) 40 p.1.1.1.1.1.1.1 in
    let zeros : (word_at 28 b == 0) ≡ true = eq-eqb (word_at 28 b) 0 (sym p.1.1.1.1.1.0) in
    let seen : unseeable (ready_at b).seen ≡ None = ap (λ (x : Ready). unseeable x.seen) is ∙ s.within in
    rw (long, version, len, zeros, seen) (ap done is)

-- ---- GET

get_tests : (short zeros none many : Bool) (r : Result (List (List ℕ)) GuestFault) (x : List (List ℕ))
    → (if short then Err (faults.Malformed kinds.Get) else if not zeros then Err (faults.Malformed kinds.Get)
    else if none then Err (faults.TooMany kinds.Get) else if many then Err (faults.TooMany kinds.Get) else r) ≡ Ok x
    → (short ≡ false) × (zeros ≡ true) × (none ≡ false) × (many ≡ false) × (r ≡ Ok x)
get_tests true zeros none many r x e = absurd cc
get_tests false false none many r x e = absurd cc
get_tests false true true many r x e = absurd cc
get_tests false true false true r x e = absurd cc
get_tests false true false false r x e = (refl, refl, refl, refl, e)

-- nothing follows
ended : {A : Type 0} (last : Bool) (d : GuestFault) (x y : A) → (if last then Ok x else Err d) ≡ Ok y → (last ≡ true) × (x ≡ y)
ended true d x y e = (refl, ok_is x y e)
ended false d x y e = absurd cc

pub record AreKeys (count : ℕ) (b : List ℕ) (keys : List (List ℕ)) : Type 0 where
  pub is : b ≡ items_bytes key_parts keys
  pub count_is : length keys ≡ count
  pub each : AllByRecursion IsKey keys

keys_found : NumbersRead → (count : ℕ) (b : List ℕ) (keys : List (List ℕ)) → IsBytes b → keys_in count b ≡ Ok keys → AreKeys count b keys
unfolding keys_in
keys_found laws count b keys fits e =
    let a = bind_ok (items_first (key_first kinds.Get) count b) (λ ks. if length ks.1 == 0 then Ok ks.0 else Err (faults.Malformed kinds.Get)) keys e in
    let g = ended (length a.0.1 == 0) (faults.Malformed kinds.Get) a.0.0 keys a.2 in
    let each : (d x rest : List ℕ) → IsBytes d → key_first kinds.Get d ≡ Ok (x, rest) → Takes d (form (key_parts x)) rest × IsKey x = λ d x rest fits e.
    let t = key_takes laws kinds.Get d x rest fits e in (subst (λ (y : List ℕ). Takes d y rest) (sym (key_is x)) t.0, t.1) in
    let i = items_take (key_first kinds.Get) key_parts IsKey each count b a.0 fits a.1 in
    let nothing : a.0.1 ≡ [] = nil_from_length a.0.1 (eqb-true (length a.0.1) 0 g.0) in
    let whole : b ≡ items_bytes key_parts a.0.0 = i.0.is ∙ ap (λ (r : List ℕ). items_bytes key_parts a.0.0 ++ r) nothing ∙ append-nil (items_bytes key_parts a.0.0) in
    subst (AreKeys count b) g.1 (record { is = whole; count_is = i.1; each = i.2 })

keys_again : NumbersRead → (keys : List (List ℕ)) → AllByRecursion IsKey keys → keys_in (length keys) (items_bytes key_parts keys) ≡ Ok keys
unfolding keys_in
keys_again laws keys good =
    let each : (x rest : List ℕ) → IsKey x → key_first kinds.Get (form (key_parts x) ++ rest) ≡ Ok (x, rest) = λ x rest is.
    ap (λ (y : List ℕ). key_first kinds.Get (y ++ rest)) (key_is x) ∙ key_again laws kinds.Get x rest is in
    let read : items_first (key_first kinds.Get) (length keys) (items_bytes key_parts keys) ≡ Ok (keys, []) =
    ap (items_first (key_first kinds.Get) (length keys)) (sym (append-nil (items_bytes key_parts keys)))
    ∙ items_again (key_first kinds.Get) key_parts IsKey each keys [] good in
    rw read refl

pub get_found : NumbersRead → LayoutsStand → (b : List ℕ) (keys : List (List ℕ)) → IsBytes b → get_in b ≡ Ok keys → SpellsFrame (of_get keys) b
get_found numbers laws b keys fits e =
    let t = get_tests (nat_lt (length b) 8) (word_at 4 b == 0) (word_at 0 b == 0) (nat_lt max_keys (word_at 0 b)) (keys_in (word_at 0 b) (drop 8 b)) keys e in
    let k = keys_found numbers (word_at 0 b) (drop 8 b) keys (numbers.rest_bytes 8 b fits) t.4 in
    let ps : List Part = payload_parts (of_get keys) in
    let zeros : 0 ≡ word_at 4 b = sym (eqb-true (word_at 4 b) 0 t.1) in
    let placed : Placed 0 ps b = (k.count_is, (zeros, (ltb-false (length b) 8 t.0, bytes_laid (items_bytes key_parts keys) (drop 8 b) k.is))) in
    let few : word_at 0 b ≤ max_keys = ltb-false max_keys (word_at 0 b) t.3 in
    let some : word_at 0 b ≢ 0 = eqb-false (word_at 0 b) 0 t.2 in
    record { within = (omega (arith, k.count_is, some), omega (arith, k.count_is, few), k.each); laid = laws.placed ps b fits placed }

pub get_again : NumbersRead → LayoutsStand → (b : List ℕ) (keys : List (List ℕ)) → SpellsFrame (of_get keys) b → get_in b ≡ Ok keys
get_again numbers laws b keys s =
    let p : Placed 0 (payload_parts (of_get keys)) b = laws.stands (payload_parts (of_get keys)) b s.laid in
    let follows : drop 8 b ≡ items_bytes key_parts keys = all_bytes (items_bytes key_parts keys) (drop 8 b) p.1.1.1 in
    let read : keys_in (word_at 0 b) (drop 8 b) ≡ Ok keys = rw (← p.0, follows) (keys_again numbers keys s.within.2) in
    let long : nat_lt (length b) 8 ≡ false = le-ltb (length b) 8 p.1.1.0 in
    let zeros : (word_at 4 b == 0) ≡ true = eq-eqb (word_at 4 b) 0 (sym p.1.0) in
    let some : (word_at 0 b == 0) ≡ false = ne_eqb (word_at 0 b) 0 (omega (arith, p.0, s.within.0)) in
    let few : nat_lt max_keys (word_at 0 b) ≡ false = le-ltb max_keys (word_at 0 b) (omega (arith, p.0, s.within.1)) in
    rw (long, zeros, some, few) read

-- ---- SCAN

-- two flags are a number of at most 3
flags_back : (n : ℕ) → n ≤ 3 → flag 1 (n % 2 == 1) + flag 2 (n / 2 == 1) ≡ n
flags_back zero few = refl
flags_back (suc zero) few = refl
flags_back (suc (suc zero)) few = refl
flags_back (suc (suc (suc zero))) few = refl
flags_back (suc (suc (suc (suc n)))) few = absurd (omega arith)

pub record FlagsRead (one two : Bool) (n : ℕ) : Type 0 where
  pub first : (n % 2 == 1) ≡ one
  pub second : (n / 2 == 1) ≡ two
  pub few : n ≤ 3

flags_read : (one two : Bool) → FlagsRead one two (flag 1 one + flag 2 two)
flags_read false false = record { first = refl; second = refl; few = lit≤ tt }
flags_read true false = record { first = refl; second = refl; few = lit≤ tt }
flags_read false true = record { first = refl; second = refl; few = lit≤ tt }
flags_read true true = record { first = refl; second = refl; few = lit≤ tt }

range_found : NumbersRead → (limit flags : ℕ) (b : List ℕ) (s : ScanContent) → IsBytes b → range_in limit flags b ≡ Ok s
    → (s ≡ record { limit = limit; keys_alone = flags % 2 == 1; downwards = flags / 2 == 1; from = s.from; to = s.to }) × (b ≡ sized_bytes s.from ++ sized_bytes s.to)
    × IsBound s.from × IsBound s.to
unfolding range_in
range_found laws limit flags b s fits e =
    let made : List ℕ → List ℕ → ScanContent = λ from to. record { limit = limit; keys_alone = flags % 2 == 1; downwards = flags / 2 == 1; from = from; to = to } in
    let f = bind_ok (bound_first kinds.Scan b)
    (λ from. bound_first kinds.Scan from.1 >>= λ to. if length to.1 == 0 then Ok (made from.0 to.0) else Err (faults.Malformed kinds.Scan)) s e in
    let t = bind_ok (bound_first kinds.Scan f.0.1) (λ to. if length to.1 == 0 then Ok (made f.0.0 to.0) else Err (faults.Malformed kinds.Scan)) s f.2 in
    let g = ended (length t.0.1 == 0) (faults.Malformed kinds.Scan) (made f.0.0 t.0.0) s t.2 in
    let from = bound_takes laws kinds.Scan b f.0.0 f.0.1 fits f.1 in
    let to = bound_takes laws kinds.Scan f.0.1 t.0.0 t.0.1 from.0.fits t.1 in
    let nothing : t.0.1 ≡ [] = nil_from_length t.0.1 (eqb-true (length t.0.1) 0 g.0) in
    let second : f.0.1 ≡ sized_bytes t.0.0 = to.0.is ∙ ap (λ (r : List ℕ). sized_bytes t.0.0 ++ r) nothing ∙ append-nil (sized_bytes t.0.0) in
    let whole : b ≡ sized_bytes f.0.0 ++ sized_bytes t.0.0 = from.0.is ∙ ap (λ (r : List ℕ). sized_bytes f.0.0 ++ r) second in
    subst (λ (x : ScanContent). (x ≡ made x.from x.to) × (b ≡ sized_bytes x.from ++ sized_bytes x.to) × IsBound x.from × IsBound x.to) g.1
    (refl, whole, from.1, to.1)

range_again : NumbersRead → (limit flags : ℕ) (from to : List ℕ) → IsBound from → IsBound to
    → range_in limit flags (sized_bytes from ++ sized_bytes to)
    ≡ Ok (record { limit = limit; keys_alone = flags % 2 == 1; downwards = flags / 2 == 1; from = from; to = to })
unfolding range_in
range_again laws limit flags from to hf ht =
    let last : bound_first kinds.Scan (sized_bytes to) ≡ Ok (to, []) =
    ap (bound_first kinds.Scan) (sym (append-nil (sized_bytes to))) ∙ bound_again laws kinds.Scan to [] ht in
    rw (bound_again laws kinds.Scan from (sized_bytes to) hf, last) refl

abbrev range_parts : List ℕ → List ℕ → List Part
range_parts from to = number 4 (length from) ∷ bytes from ∷ number 4 (length to) ∷ bytes to ∷ []

range_laid : (from to : List ℕ) → IsBound from → IsBound to → Lays (range_parts from to) (sized_bytes from ++ sized_bytes to)
range_laid from to hf ht = (
  from ++ sized_bytes to,
  omega (arith, hf),
  append_assoc (le 4 (length from)) from (sized_bytes to),
  (sized_bytes to, refl, (to, omega (arith, ht), refl, bytes_laid to to refl)),
)

range_is : (from to b : List ℕ) → Lays (range_parts from to) b → b ≡ sized_bytes from ++ sized_bytes to
range_is from to b h =
    let last = h.3.2.3 in
    let ended : h.3.2.0 ≡ to = all_bytes to h.3.2.0 last in
    let second : h.3.0 ≡ sized_bytes to = h.3.2.2 ∙ ap (λ (x : List ℕ). le 4 (length to) ++ x) ended in
    h.2 ∙ ap (λ (x : List ℕ). le 4 (length from) ++ x) (h.3.1 ∙ ap (λ (x : List ℕ). from ++ x) second) ∙ sym (append_assoc (le 4 (length from)) from (sized_bytes to))

-- two numbers, and what follows them
two_numbers : NumbersRead → (b : List ℕ) (ps : List Part) → IsBytes b → 8 ≤ length b → Lays ps (drop 8 b)
    → Lays (number 4 (word_at 0 b) ∷ number 4 (word_at 4 b) ∷ ps) b
two_numbers laws b ps fits long h =
    let first = laws.prefix 4 b (omega (arith, long)) fits in
    let second = laws.prefix 4 (drop 4 b) (omega (arith, long, length-drop 4 b)) (laws.rest_bytes 4 b fits) in
    (drop 4 b, first.0, first.1, (drop 8 b, second.0, second.1 ∙ ap (λ (x : List ℕ). le 4 (word_at 4 b) ++ x) (drop-drop 4 4 b), h))

scan_tests : (short flags : Bool) (r : Result ScanContent GuestFault) (x : ScanContent)
    → (if short then Err (faults.Malformed kinds.Scan) else if flags then Err (faults.Malformed kinds.Scan) else r) ≡ Ok x
    → (short ≡ false) × (flags ≡ false) × (r ≡ Ok x)
scan_tests true flags r x e = absurd cc
scan_tests false true r x e = absurd cc
scan_tests false false r x e = (refl, refl, e)

pub scan_found : NumbersRead → (b : List ℕ) (s : ScanContent) → IsBytes b → scan_in b ≡ Ok s → SpellsFrame (of_scan s) b
scan_found laws b s fits e =
    let t = scan_tests (nat_lt (length b) 8) (nat_lt 3 (word_at 4 b)) (range_in (word_at 0 b) (word_at 4 b) (drop 8 b)) s e in
    let r = range_found laws (word_at 0 b) (word_at 4 b) (drop 8 b) s (laws.rest_bytes 8 b fits) t.2 in
    let flags = flags_back (word_at 4 b) (ltb-false 3 (word_at 4 b) t.1) in
    let tail : Lays (range_parts s.from s.to) (drop 8 b) = subst (Lays (range_parts s.from s.to)) (sym r.1) (range_laid s.from s.to r.2 r.3) in
    let whole = two_numbers laws b (range_parts s.from s.to) fits (ltb-false (length b) 8 t.0) tail in
    let laid : Lays (number 4 (word_at 0 b) ∷ number 4 (flag 1 (word_at 4 b % 2 == 1) + flag 2 (word_at 4 b / 2 == 1)) ∷ range_parts s.from s.to) b =
    subst (λ (n : ℕ). Lays (number 4 (word_at 0 b) ∷ number 4 n ∷ range_parts s.from s.to) b) (sym flags) whole in
    subst (λ (x : ScanContent). SpellsFrame (of_scan x) b) (sym r.0) (record { within = (r.2, r.3); laid = laid })

pub scan_again : NumbersRead → LayoutsStand → (b : List ℕ) (s : ScanContent) → SpellsFrame (of_scan s) b → scan_in b ≡ Ok s
scan_again numbers laws b s h =
    let n : ℕ = flag 1 s.keys_alone + flag 2 s.downwards in
    let head : List Part = number 4 s.limit ∷ number 4 n ∷ [] in
    let p : Placed 0 (payload_parts (of_scan s)) b = laws.stands (payload_parts (of_scan s)) b h.laid in
    let follows : drop 8 b ≡ sized_bytes s.from ++ sized_bytes s.to =
    range_is s.from s.to (drop 8 b) (laws.parted head (range_parts s.from s.to) b h.laid).1 in
    let flags = flags_read s.keys_alone s.downwards in
    let read : range_in (word_at 0 b) (word_at 4 b) (drop 8 b) ≡ Ok s =
    rw (← p.0, ← p.1.0, follows) (range_again numbers s.limit n s.from s.to h.within.0 h.within.1 ∙ rw (flags.first, flags.second) refl) in
    let long : nat_lt (length b) 8 ≡ false = le-ltb (length b) 8 (omega (arith, p.1.1.1.0)) in
    let few : nat_lt 3 (word_at 4 b) ≡ false = le-ltb 3 (word_at 4 b) (rw (← p.1.0) flags.few) in
    rw (long, few) read

-- ---- ANSWER

pub record ReadsChanges (error count size : ℕ) (b : List ℕ) (a : AnswerContent) : Type 0 where
  pub error_is : a.error ≡ error
  pub is : b ≡ items_bytes change_parts a.changes ++ a.body
  pub count_is : length a.changes ≡ count
  pub size_is : length a.body ≡ size
  pub short : size ≤ max_body_len
  pub each : AllByRecursion IsChange a.changes

body_tests : (right long : Bool) (size : ℕ) (a x : AnswerContent)
    → (if not right then Err (faults.Malformed kinds.Answer) else if long then Err (faults.Body size) else Ok a) ≡ Ok x → (right ≡ true) × (long ≡ false) × (a ≡ x)
body_tests false long size a x e = absurd cc
body_tests true true size a x e = absurd cc
body_tests true false size a x e = (refl, refl, ok_is a x e)

changes_found : NumbersRead → (error count size : ℕ) (b : List ℕ) (a : AnswerContent) → IsBytes b → changes_in error count size b ≡ Ok a
    → ReadsChanges error count size b a
unfolding changes_in
changes_found laws error count size b a fits e =
    let s = bind_ok (items_first change_first count b)
    (λ cs. if not (length cs.1 == size) then Err (faults.Malformed kinds.Answer) else if nat_lt max_body_len size then Err (faults.Body size)
    else Ok (record { error = error; changes = cs.0; body = cs.1 })) a e in
    let made : AnswerContent = record { error = error; changes = s.0.0; body = s.0.1 } in
    let t = body_tests (length s.0.1 == size) (nat_lt max_body_len size) size made a s.2 in
    let i = items_take change_first change_parts IsChange (change_takes laws) count b s.0 fits s.1 in
    subst (ReadsChanges error count size b) t.2
    (record {
      error_is = refl;
      is = i.0.is;
      count_is = i.1;
      size_is = eqb-true (length s.0.1) size t.0;
      short = ltb-false max_body_len size t.1;
      each = i.2;
    })

changes_again : NumbersRead → (a : AnswerContent) → IsRightAnswer a
    → changes_in a.error (length a.changes) (length a.body) (items_bytes change_parts a.changes ++ a.body) ≡ Ok a
unfolding changes_in
changes_again laws a is =
    let read = items_again change_first change_parts IsChange (change_again laws) a.changes a.body is.each in
    let right : (length a.body == length a.body) ≡ true = eq-eqb (length a.body) (length a.body) refl in
    rw (read, right, le-ltb max_body_len (length a.body) is.body) refl

answer_tests : (short zeros wrong many none no_change no_body : Bool) (n : ℕ) (r : Result AnswerContent GuestFault) (x : AnswerContent)
    → (if short then Err (faults.Malformed kinds.Answer) else if not zeros then Err (faults.Malformed kinds.Answer)
    else if wrong then Err (faults.Error n) else if many then Err (faults.TooMany kinds.Answer)
    else if none then r else if not no_change then Err faults.ErrorWithChanges else if not no_body then Err faults.ErrorWithChanges else r) ≡ Ok x
    → (short ≡ false) × (zeros ≡ true) × (wrong ≡ false) × (many ≡ false) × (none ≡ false → (no_change ≡ true) × (no_body ≡ true)) × (r ≡ Ok x)
answer_tests true zeros wrong many none no_change no_body n r x e = absurd cc
answer_tests false false wrong many none no_change no_body n r x e = absurd cc
answer_tests false true true many none no_change no_body n r x e = absurd cc
answer_tests false true false true none no_change no_body n r x e = absurd cc
answer_tests false true false false true no_change no_body n r x e = (refl, refl, refl, refl, (λ no. absurd cc), e)
answer_tests false true false false false false no_body n r x e = absurd cc
answer_tests false true false false false true false n r x e = absurd cc
answer_tests false true false false false true true n r x e = (refl, refl, refl, refl, (λ _. (refl, refl)), e)

answer_good : (none no_change no_body : Bool) (r : Result AnswerContent GuestFault) → (none ≡ false → (no_change ≡ true) × (no_body ≡ true))
    → (if none then r else if not no_change then Err faults.ErrorWithChanges else if not no_body then Err faults.ErrorWithChanges else r) ≡ r
answer_good true no_change no_body r alone = refl
answer_good false true true r alone = refl
answer_good false false no_body r alone = (let no = (alone refl).0 in absurd cc)
answer_good false true false r alone = (let no = (alone refl).1 in absurd cc)

pub answer_found : NumbersRead → LayoutsStand → (b : List ℕ) (a : AnswerContent) → IsBytes b → guest_answer_in b ≡ Ok a → SpellsFrame (of_answer a) b
answer_found numbers laws b a fits e =
    let t = answer_tests (nat_lt (length b) 16) (word_at 12 b == 0) (nat_lt max_error_number (word_at 0 b)) (nat_lt max_changes (word_at 4 b)) (word_at 0 b == 0)
    (word_at 4 b == 0) (word_at 8 b == 0) (word_at 0 b) (changes_in (word_at 0 b) (word_at 4 b) (word_at 8 b) (drop 16 b)) a e in
    let k = changes_found numbers (word_at 0 b) (word_at 4 b) (word_at 8 b) (drop 16 b) a (numbers.rest_bytes 16 b fits) t.5 in
    let ps : List Part = payload_parts (of_answer a) in
    let zeros : 0 ≡ word_at 12 b = sym (eqb-true (word_at 12 b) 0 t.1) in
    let placed : Placed 0 ps b = (k.error_is, (k.count_is, (k.size_is, (zeros, (ltb-false (length b) 16 t.0, (a.body, k.is, bytes_laid a.body a.body refl)))))) in
    let within : IsRightAnswer a = record {
      error = rw k.error_is (ltb-false max_error_number (word_at 0 b) t.2);
      few = rw k.count_is (ltb-false max_changes (word_at 4 b) t.3);
      alone = λ some. (let h = t.4 (ne_eqb (word_at 0 b) 0 (rw k.error_is at some)) in (
        nil_from_length a.changes (k.count_is ∙ eqb-true (word_at 4 b) 0 h.0),
        nil_from_length a.body (k.size_is ∙ eqb-true (word_at 8 b) 0 h.1),
      ));
      each = k.each;
      body = rw k.size_is k.short;
    } in
    record { within = within; laid = laws.placed ps b fits placed }

pub answer_again : NumbersRead → LayoutsStand → (b : List ℕ) (a : AnswerContent) → SpellsFrame (of_answer a) b → guest_answer_in b ≡ Ok a
answer_again numbers laws b a s =
    let p : Placed 0 (payload_parts (of_answer a)) b = laws.stands (payload_parts (of_answer a)) b s.laid in
    let tail = p.1.1.1.1 in
    let ended : tail.1.0 ≡ a.body = all_bytes a.body tail.1.0 tail.1.2 in
    let follows : drop 16 b ≡ items_bytes change_parts a.changes ++ a.body = tail.1.1 ∙ ap (λ (x : List ℕ). items_bytes change_parts a.changes ++ x) ended in
    let r : Result AnswerContent GuestFault = changes_in (word_at 0 b) (word_at 4 b) (word_at 8 b) (drop 16 b) in
    let read : r ≡ Ok a = rw (← p.0, ← p.1.0, ← p.1.1.0, follows) (changes_again numbers a s.within) in
    let long : nat_lt (length b) 16 ≡ false = le-ltb (length b) 16 tail.0 in
    let zeros : (word_at 12 b == 0) ≡ true = eq-eqb (word_at 12 b) 0 (sym p.1.1.1.0) in
    let right : nat_lt max_error_number (word_at 0 b) ≡ false = le-ltb max_error_number (word_at 0 b) (rw (← p.0) s.within.error) in
    let few : nat_lt max_changes (word_at 4 b) ≡ false = le-ltb max_changes (word_at 4 b) (rw (← p.1.0) s.within.few) in
    let alone : (word_at 0 b == 0) ≡ false → ((word_at 4 b == 0) ≡ true) × ((word_at 8 b == 0) ≡ true) = λ some.
    let h = s.within.alone (rw (← p.0) at (eqb-false (word_at 0 b) 0 some)) in (
      eq-eqb (word_at 4 b) 0 (sym p.1.0 ∙ ap length h.0),
      eq-eqb (word_at 8 b) 0 (sym p.1.1.0 ∙ ap length h.1),
    ) in
    rw (long, zeros, right, few) (answer_good (word_at 0 b == 0) (word_at 4 b == 0) (word_at 8 b == 0) r alone ∙ read)

-- ---- of each kind

pub payload_found : NumbersRead → LayoutsStand → (kind : GuestKind) (b : List ℕ) (f : Frame) → IsBytes b → payload_in kind b ≡ Ok f
    → SpellsFrame f b × (frame_kind f ≡ kind_number kind)
payload_found numbers laws kinds.Ready b f fits e =
    let x = bind_ok (ready_in b) (λ x. Ok (of_ready x)) f e in
    subst (λ (g : Frame). SpellsFrame g b × (frame_kind g ≡ 2)) (ok_is (of_ready x.0) f x.2) (ready_found laws b x.0 fits x.1, refl)
payload_found numbers laws kinds.Get b f fits e =
    let x = bind_ok (get_in b) (λ x. Ok (of_get x)) f e in
    subst (λ (g : Frame). SpellsFrame g b × (frame_kind g ≡ 4)) (ok_is (of_get x.0) f x.2) (get_found numbers laws b x.0 fits x.1, refl)
payload_found numbers laws kinds.Scan b f fits e =
    let x = bind_ok (scan_in b) (λ x. Ok (of_scan x)) f e in
    subst (λ (g : Frame). SpellsFrame g b × (frame_kind g ≡ 6)) (ok_is (of_scan x.0) f x.2) (scan_found numbers b x.0 fits x.1, refl)
payload_found numbers laws kinds.Answer b f fits e =
    let x = bind_ok (guest_answer_in b) (λ x. Ok (of_answer x)) f e in
    subst (λ (g : Frame). SpellsFrame g b × (frame_kind g ≡ 8)) (ok_is (of_answer x.0) f x.2) (answer_found numbers laws b x.0 fits x.1, refl)

pub payload_again : NumbersRead → LayoutsStand → (kind : GuestKind) (b : List ℕ) (f : Frame) → frame_kind f ≡ kind_number kind → SpellsFrame f b
    → payload_in kind b ≡ Ok f
payload_again numbers laws kinds.Ready b (of_ready r) is s = rw (ready_again laws b r s) refl
payload_again numbers laws kinds.Get b (of_get keys) is s = rw (get_again numbers laws b keys s) refl
payload_again numbers laws kinds.Scan b (of_scan x) is s = rw (scan_again numbers laws b x s) refl
payload_again numbers laws kinds.Answer b (of_answer a) is s = rw (answer_again numbers laws b a s) refl
payload_again numbers laws kind b f is s = absurd (omega (arith, is))
