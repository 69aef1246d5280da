-- The class of a message, by what it spells.
use Rattle.std.proofs.Common.{◌≡◌, ◌==◌, ℕ, Bool, true, false, cond, if◌then◌else◌, arith, List, [], ◌∷◌, drop, Option, Some, None, Result, Ok, Err, inl, inr, refl, sym, ap, ◌∙◌}
use Rattle.std.specs.Prelude.{IfOk, IfErr, IsOkAnd}
use Rattle.fuse_wire.specs.Bytes.{number_of}
use Rattle.fuse_wire.specs.Errnos.{einval, enosys}
use Rattle.fuse_request.specs.declared.class.Class.{Class}
use Rattle.fuse_request.specs.declared.class.Class.TheVariants.{Silent, Bare, Kept, Seen}
use Rattle.fuse_request.specs.declared.decoding.Malformed.{Malformed}
use Rattle.fuse_request.specs.declared.request.Request.{Request}
use Rattle.fuse_request.specs.Act.{Act, Further, Asked, asked, act, IsKeptFor, IsSeenFor, opcode_of}
use Rattle.fuse_request.specs.Header.{raw_of, body_of}
use Rattle.fuse_request.specs.Places.{at_row, places, act_in}
use Rattle.fuse_wire.specs.Opcodes.{silent}
use Rattle.fuse_request.specs.Opcodes.{Service, is_served}
use Rattle.fuse_request.specs.Spelling.{Spells}
use Rattle.fuse_request.specs.Faults.{first_fault}
use Rattle.fuse_request.specs.Classes.{class_if, class_by, class_for, IsOfClass}
use Rattle.fuse_request.proofs.Acts.{Laws}
use Rattle.fuse_request.proofs.Heads.{has_parts, no_fault}

-- the class of a message that isn't silent, and that has this fault and this opcode
loud_class : (V : Service) (m : List ℕ) (f : Option Malformed) (opcode : ℕ) → silent (raw_of m).opcode ≡ false → first_fault m ≡ f → (raw_of m).opcode ≡ opcode
    → class_for V m ≡ class_by V f opcode
unfolding class_for
loud_class V m f opcode loud e o = rw loud (rw (e, o) refl)

spelled_class : Laws → (V : Service) (v : Asked) (m : List ℕ) → silent (raw_of m).opcode ≡ false → Spells v m → class_for V m ≡ class_by V None (opcode_of v.act)
spelled_class laws V v m loud s = loud_class V m None (opcode_of v.act) loud (no_fault laws v m s) (has_parts laws v m s).opcode

pub silent_class : (V : Service) (m : List ℕ) → silent (number_of 4 (drop 4 m)) ≡ true → Silent ≡ class_for V m
unfolding class_for
silent_class V m e = rw e refl

pub fault_class : (V : Service) (m : List ℕ) (f : Malformed) → silent (number_of 4 (drop 4 m)) ≡ false → first_fault m ≡ Some f → Bare einval ≡ class_for V m
fault_class V m f loud e = sym (loud_class V m (Some f) (raw_of m).opcode loud e refl)

pub no_spelling : Laws → (V : Service) (m : List ℕ) (f : Malformed) → silent (number_of 4 (drop 4 m)) ≡ false → first_fault m ≡ Some f
    → IsOfClass V (Bare einval) m
no_spelling laws V m f loud e = (loud, inl (refl, λ v s. (let none : first_fault m ≡ None = no_fault laws v m s in absurd cc)))

-- the opcode of what a message spells, and whether it is served
spelled_served : Laws → (V : Service) (m : List ℕ) (v : Asked) (b : Bool) → Spells v m → is_served V (number_of 4 (drop 4 m)) ≡ b
    → is_served V (opcode_of v.act) ≡ b
spelled_served laws V m v b s e =
    let opcode : number_of 4 (drop 4 m) ≡ opcode_of v.act = (has_parts laws v m s).opcode in
    sym (ap (is_served V) opcode) ∙ e

pub unserved_class : Laws → (V : Service) (m : List ℕ) (v : Asked) → silent (number_of 4 (drop 4 m)) ≡ false → Spells v m
    → is_served V (number_of 4 (drop 4 m)) ≡ false → Bare enosys ≡ class_for V m
unserved_class laws V m v loud s e = sym (spelled_class laws V v m loud s ∙ rw (spelled_served laws V m v false s e) refl)

pub is_unserved : Laws → (V : Service) (m : List ℕ) (v : Asked) → silent (number_of 4 (drop 4 m)) ≡ false → Spells v m
    → is_served V (number_of 4 (drop 4 m)) ≡ false → IsOfClass V (Bare enosys) m
is_unserved laws V m v loud s e =
    let outside = spelled_served laws V m v false s e in
    (loud, inr (refl, (v, s, λ h. absurd cc)))

-- the opcode of what a message spells, and whether its requests are seen
spelled_seen : Laws → (V : Service) (m : List ℕ) (v : Asked) (b : Bool) → Spells v m → V.sees (number_of 4 (drop 4 m)) ≡ b → V.sees (opcode_of v.act) ≡ b
spelled_seen laws V m v b s e =
    let opcode : number_of 4 (drop 4 m) ≡ opcode_of v.act = (has_parts laws v m s).opcode in
    sym (ap V.sees opcode) ∙ e

-- a message that isn't silent, and spells a request of an opcode that is served, is seen or not
pub served_class : Laws → (V : Service) (m : List ℕ) (v : Asked) (seen : Bool) → silent (number_of 4 (drop 4 m)) ≡ false → Spells v m
    → is_served V (number_of 4 (drop 4 m)) ≡ true → V.sees (number_of 4 (drop 4 m)) ≡ seen → class_if seen ≡ class_for V m
served_class laws V m v seen loud s e f =
    sym (spelled_class laws V v m loud s ∙ rw (spelled_served laws V m v true s e) (ap class_if (spelled_seen laws V m v seen s f)))

spelled_loud : Laws → (m : List ℕ) (v : Asked) → silent (number_of 4 (drop 4 m)) ≡ false → Spells v m → silent (opcode_of v.act) ≡ false
spelled_loud laws m v loud s =
    let opcode : number_of 4 (drop 4 m) ≡ opcode_of v.act = (has_parts laws v m s).opcode in
    sym (ap silent opcode) ∙ loud

pub is_of_kept : Laws → (V : Service) (m : List ℕ) (v : Asked) → silent (number_of 4 (drop 4 m)) ≡ false → Spells v m
    → is_served V (number_of 4 (drop 4 m)) ≡ true → V.sees (number_of 4 (drop 4 m)) ≡ false → IsOfClass V Kept m
is_of_kept laws V m v loud s e f =
    (loud, (v, s, rw (spelled_loud laws m v loud s, spelled_served laws V m v true s e, spelled_seen laws V m v false s f) refl))

pub is_of_seen : Laws → (V : Service) (m : List ℕ) (v : Asked) → silent (number_of 4 (drop 4 m)) ≡ false → Spells v m
    → is_served V (number_of 4 (drop 4 m)) ≡ true → V.sees (number_of 4 (drop 4 m)) ≡ true → IsOfClass V Seen m
is_of_seen laws V m v loud s e f =
    (loud, (v, s, rw (spelled_loud laws m v loud s, spelled_served laws V m v true s e, spelled_seen laws V m v true s f) refl))

-- what is kept or seen isn't silent and has no fault, and its opcode is served
pub record PerformedParts (V : Service) (quiet : Bool) (f : Option Malformed) (opcode : ℕ) (seen : Bool) : Type 0 where
  pub fault : f ≡ None
  pub loud : quiet ≡ false
  pub served : is_served V opcode ≡ true
  pub seen_is : V.sees opcode ≡ seen

performed_if : (V : Service) (opcode : ℕ) (served sees seen : Bool) → is_served V opcode ≡ served → V.sees opcode ≡ sees
    → cond {A = Class} served (class_if sees) (Bare enosys) ≡ class_if seen → PerformedParts V false None opcode seen
performed_if V opcode true true true is sees e = record { fault = refl; loud = refl; served = is; seen_is = sees }
performed_if V opcode true false false is sees e = record { fault = refl; loud = refl; served = is; seen_is = sees }
performed_if V opcode true true false is sees e = absurd cc
performed_if V opcode true false true is sees e = absurd cc
performed_if V opcode false sees true is so e = absurd cc
performed_if V opcode false sees false is so e = absurd cc

performed_by : (V : Service) (quiet : Bool) (f : Option Malformed) (opcode : ℕ) (seen : Bool)
    → cond {A = Class} quiet Silent (class_by V f opcode) ≡ class_if seen → PerformedParts V quiet f opcode seen
performed_by V true f opcode true e = absurd cc
performed_by V true f opcode false e = absurd cc
performed_by V false (Some f) opcode true e = absurd cc
performed_by V false (Some f) opcode false e = absurd cc
performed_by V false None opcode seen e = performed_if V opcode (is_served V opcode) (V.sees opcode) seen refl refl e

pub performed_parts : (V : Service) (m : List ℕ) (seen : Bool) → class_for V m ≡ class_if seen
    → PerformedParts V (silent (raw_of m).opcode) (first_fault m) (raw_of m).opcode seen
unfolding class_for
performed_parts V m seen e = performed_by V (silent (raw_of m).opcode) (first_fault m) (raw_of m).opcode seen e

-- what is kept is read as a request that is kept
pub kept_read : Laws → (m : List ℕ) (r : Result Request Malformed) → IfOk r (λ q. Spells (asked q) m) → IfErr r (λ f. first_fault m ≡ Some f)
    → (V : Service) → class_for V m ≡ Kept → IsOkAnd r (λ q. IsKeptFor V (act q.op))
kept_read laws m (Ok q) found fault V e =
    let parts = performed_parts V m false e in
    let loud = spelled_loud laws m (asked q) parts.loud found in
    let inside = spelled_served laws V m (asked q) true found parts.served in
    let unseen = spelled_seen laws V m (asked q) false found parts.seen_is in
    rw (loud, inside, unseen) refl
kept_read laws m (Err f) found fault V e =
    let none : first_fault m ≡ None = (performed_parts V m false e).fault in
    absurd cc

-- what is seen is read as a request that is seen
pub seen_read : Laws → (m : List ℕ) (r : Result Request Malformed) → IfOk r (λ q. Spells (asked q) m) → IfErr r (λ f. first_fault m ≡ Some f)
    → (V : Service) → class_for V m ≡ Seen → IsOkAnd r (λ q. IsSeenFor V (act q.op))
seen_read laws m (Ok q) found fault V e =
    let parts = performed_parts V m true e in
    let loud = spelled_loud laws m (asked q) parts.loud found in
    let inside = spelled_served laws V m (asked q) true found parts.served in
    let seen = spelled_seen laws V m (asked q) true found parts.seen_is in
    rw (loud, inside, seen) refl
seen_read laws m (Err f) found fault V e =
    let none : first_fault m ≡ None = (performed_parts V m true e).fault in
    absurd cc

-- ---- the opcode of the request at its places

abbrev AreOf : List (ℕ × (List ℕ → Act)) → Type 0
AreOf [] = Unit {0}
AreOf (row ∷ rows) = ((b : List ℕ) → opcode_of (row.1 b) ≡ row.0) × AreOf rows

at_row_by : (n : ℕ) (row : ℕ × (List ℕ → Act)) (rows : List (ℕ × (List ℕ → Act))) (b : List ℕ) (same : Bool) → (n == row.0) ≡ same
    → opcode_of (row.1 b) ≡ row.0 → opcode_of (at_row (Further n) n rows b) ≡ n
    → opcode_of ((if same then row.1 else at_row (Further n) n rows) b) ≡ n
at_row_by n row rows b true is here rest = here ∙ grind (arith, is)
at_row_by n row rows b false is here rest = rest

at_rows : (rows : List (ℕ × (List ℕ → Act))) → AreOf rows → (n : ℕ) (b : List ℕ) → opcode_of (at_row (Further n) n rows b) ≡ n
at_rows [] are n b = refl
at_rows (row ∷ rows) are n b = at_row_by n row rows b (n == row.0) refl (are.0 b) (at_rows rows are.1 n b)

places_are : AreOf places
places_are =
    (λ b. refl, (λ b. refl, (λ b. refl, (λ b. refl, (λ b. refl, (λ b. refl, (λ b. refl, (λ b. refl, (λ b. refl, (λ b. refl, (λ b. refl, (λ b. refl, (λ b. refl, (λ b. refl, (λ b. refl, (λ b. refl, (λ b. refl, (λ b. refl, (λ b. refl, (λ b. refl, (λ b. refl, tt)))))))))))))))))))))

-- it is that of the header
pub opcode_in : (m : List ℕ) → opcode_of (act_in m) ≡ (raw_of m).opcode
unfolding act_in
opcode_in m = at_rows places places_are (raw_of m).opcode (body_of m)

-- so what is kept isn't seen, and what is seen is
pub sees_by : (V : Service) (m : List ℕ) (seen : Bool) → class_for V m ≡ class_if seen → V.sees (opcode_of (act_in m)) ≡ seen
sees_by V m seen is = ap V.sees (opcode_in m) ∙ (performed_parts V m seen is).seen_is
