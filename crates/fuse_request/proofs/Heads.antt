-- A message that spells a request has the header, the body and the extensions of it at their places, and no fault.
use Rattle.std.proofs.Common.{◌≡◌, ℕ, ◌+◌, ◌-◌, ◌*◌, ◌≤◌, List, [], ◌∷◌, ◌++◌, length, take, drop, Option, Some, None, refl, sym, ap, ◌∙◌, arith}
use Rattle.std.proofs.lemmas.Bool.{le-ltb, lt-ltb, eq-eqb, cases_lt}
use Rattle.std.proofs.lemmas.List.{take_at, drop_at, drop-drop, length-append, length-drop, take-append-drop}
use Rattle.std.specs.Result.{result_err}
use Rattle.std.proofs.Common.{subst, Result, Ok, Err, inl, inr, nat_lt, if◌then◌else◌}
use Rattle.std.specs.Prelude.{IfOk, IfErr, IsOkAnd}
use Rattle.fuse_wire.specs.Bytes.{le, number_of}
use Rattle.fuse_wire.specs.Layout.{Part, number, unused, bytes, Lays, Placed}
use Rattle.fuse_wire.specs.Laws.{NumbersRead}
use Rattle.fuse_request.specs.Header.{IsHeaderOf, raw_parts, raw_of, body_of}
use Rattle.fuse_request.specs.declared.request.Request.{Request}
use Rattle.fuse_request.specs.declared.header.RawHeader.{RawHeader}
use Rattle.fuse_request.specs.declared.decoding.Malformed.{Malformed}
use Rattle.fuse_request.specs.Act.{Asked, Act, asked, opcode_of}
use Rattle.fuse_request.specs.Spelling.{IsSpellable, parts, header_parts, Spells}
use Rattle.fuse_request.specs.Faults.{body_fault, first_fault}
use Rattle.fuse_request.specs.Places.{act_at, act_in, ext_in, asked_at, SpelledAt}
use Rattle.fuse_request.proofs.Laid.{bytes_laid, all_bytes}
use Rattle.fuse_request.proofs.Acts.{Laws, one_act}

-- what the message says at the places of v
pub record HasParts (v : Asked) (m : List ℕ) : Type 0 where
  pub long : 40 ≤ length m
  pub len : number_of 4 m ≡ length m
  pub opcode : number_of 4 (drop 4 m) ≡ opcode_of v.act
  pub unique : number_of 8 (drop 8 m) ≡ v.header.unique
  pub nodeid : number_of 8 (drop 16 m) ≡ v.header.nodeid
  pub uid : number_of 4 (drop 24 m) ≡ v.header.uid
  pub gid : number_of 4 (drop 28 m) ≡ v.header.gid
  pub pid : number_of 4 (drop 32 m) ≡ v.header.pid
  pub fits : 8 * number_of 2 (drop 36 m) ≤ length m - 40
  pub body : List ℕ
  pub body_is : body_of m ≡ body
  pub ext_is : drop (length m - 8 * number_of 2 (drop 36 m)) m ≡ v.ext
  pub laid : Lays (parts v.act) body

pub has_parts : Laws → (v : Asked) (m : List ℕ) → Spells v m → HasParts v m
has_parts laws v m s =
    let tail : List ℕ = s.body ++ v.ext in
    let ps : List Part = header_parts (length m) s.units v in
    let more : List Part = bytes tail ∷ [] in
    let laid : Lays (ps ++ more) (s.head ++ tail) = laws.0.joined ps more s.head tail s.header (bytes_laid tail tail refl) in
    let p : Placed 0 (ps ++ more) m = laws.0.stands (ps ++ more) m (subst (Lays (ps ++ more)) (sym s.whole) laid) in
    let q = p.1.1.1.1 in
    let at40 : drop 40 m ≡ tail = all_bytes tail (drop 40 m) q.1.1.1.1.1 in
    let head_len : length s.head ≡ 40 = laws.0.len ps s.head s.header in
    let len : length m ≡ 40 + (length s.body + length v.ext) = omega
    (arith, ap length s.whole, length-append s.head tail, length-append s.body v.ext, head_len) in
    let units : s.units ≡ number_of 2 (drop 36 m) = q.1.1.1.0 in
    let e = s.ext in
    let body_len : length m - 40 - 8 * s.units ≡ length s.body = omega (arith, len, e) in
    let before_ext : length m - 8 * s.units ≡ 40 + length s.body = omega (arith, len, e) in
    record {
      long = omega (arith, len);
      len = sym p.0;
      opcode = sym p.1.0;
      unique = sym p.1.1.0;
      nodeid = sym p.1.1.1.0;
      uid = sym q.0;
      gid = sym q.1.0;
      pid = sym q.1.1.0;
      fits = rw (sym units) (omega (arith, len, e));
      body = s.body;
      body_is = rw (sym units, body_len, at40) (take_at s.body v.ext (length s.body) refl);
      ext_is = rw (sym units, before_ext) (sym (drop-drop (length s.body) 40 m) ∙ ap (drop (length s.body)) at40 ∙ drop_at s.body v.ext (length s.body) refl);
      laid = s.parted;
    }

pub is_at : Laws → (v : Asked) (m : List ℕ) → Spells v m → asked_at m ≡ v
unfolding act_in ext_in
is_at laws v m s =
    let p = has_parts laws v m s in
    let one = one_act laws v.act p.body p.laid s.named in
    let act_is : act_at (number_of 4 (drop 4 m)) (body_of m) ≡ v.act = rw (p.opcode, p.body_is) one.0 in
    rw (p.unique, p.nodeid, p.uid, p.gid, p.pid, act_is, p.ext_is) refl

pub spelled_at : Laws → SpelledAt
spelled_at laws v m s = let p = has_parts laws v m s in record { long = p.long; opcode = p.opcode; says = is_at laws v m s }

-- a message spells one request at most
pub one_request : Laws → (u v : Asked) (m : List ℕ) → Spells u m → Spells v m → u ≡ v
one_request laws u v m s t = sym (is_at laws u m s) ∙ is_at laws v m t

-- and then it has no fault
pub no_fault : Laws → (v : Asked) (m : List ℕ) → Spells v m → first_fault m ≡ None
no_fault laws v m s =
    let p = has_parts laws v m s in
    let one = one_act laws v.act p.body p.laid s.named in
    rw (
      le-ltb (length m) 40 p.long,
      eq-eqb (number_of 4 m) (length m) p.len,
      le-ltb (length m - 40) (8 * number_of 2 (drop 36 m)) p.fits,
      p.opcode,
      p.body_is,
    ) one.1

-- a header that was read is that of the message
is_raw : (m : List ℕ) (raw : RawHeader) → ◌≡◌ {A = Option RawHeader} (Some raw) (if nat_lt (length m) 40 then None else Some (raw_of m))
    → (40 ≤ length m) × (raw ≡ raw_of m)
is_raw m raw e =
    elim (cases_lt (length m) 40) [
      | inl lt ↦ (let h : ◌≡◌ {A = Option RawHeader} (Some raw) None = rw (lt-ltb (length m) 40 lt) at e in absurd cc)
      | inr le ↦ (let h : ◌≡◌ {A = Option RawHeader} (Some raw) (Some (raw_of m)) = rw (le-ltb (length m) 40 le) at e in (le, cc))
    ]

-- a fault of the body is that of the message, where nothing is wrong before it
pub body_faulty : (m : List ℕ) (raw : RawHeader) (body : List ℕ) (f : Malformed)
    → ◌≡◌ {A = Option RawHeader} (Some raw) (if nat_lt (length m) 40 then None else Some (raw_of m))
    → raw.len ≡ length m → 8 * raw.total_extlen ≤ length (drop 40 m) → body ≡ take (length (drop 40 m) - 8 * raw.total_extlen) (drop 40 m)
    → body_fault raw.opcode body ≡ Some f → first_fault m ≡ Some f
body_faulty m raw body f e len room body_is fault =
    let p = is_raw m raw e in
    let same : raw ≡ raw_of m = p.1 in
    let units : raw.total_extlen ≡ number_of 2 (drop 36 m) = ap (λ (r : RawHeader). r.total_extlen) same in
    let opcode : number_of 4 (drop 4 m) ≡ raw.opcode = ap (λ (r : RawHeader). r.opcode) (sym same) in
    let len_is : number_of 4 m ≡ length m = ap (λ (r : RawHeader). r.len) (sym same) ∙ len in
    let at : length (drop 40 m) - 8 * raw.total_extlen ≡ length m - 40 - 8 * number_of 2 (drop 36 m) = omega (arith, units, length-drop 40 m) in
    let body_at : body_of m ≡ body = sym (body_is ∙ ap (λ (n : ℕ). take n (drop 40 m)) at) in
    let fits : 8 * number_of 2 (drop 36 m) ≤ length m - 40 = omega (arith, units, room, length-drop 40 m) in
    rw (le-ltb (length m) 40 p.0, eq-eqb (number_of 4 m) (length m) len_is, le-ltb (length m - 40) (8 * number_of 2 (drop 36 m)) fits, opcode, body_at) fault

-- what was read is what stands at the places
pub read_at : Laws → (m : List ℕ) (r : Result Request Malformed) → IfOk r (λ q. Spells (asked q) m) → IfOk r (λ q. asked q ≡ asked_at m)
read_at laws m (Ok q) found = sym (is_at laws (asked q) m found)
read_at laws m (Err f) found = tt

-- what a reader answers is the one request, where there is one
pub only_one : Laws → (m : List ℕ) (r : Result Request Malformed) → IfOk r (λ q. Spells (asked q) m) → IfErr r (λ f. first_fault m ≡ Some f)
    → (v : Asked) → Spells v m → IsOkAnd r (λ q. asked q ≡ v)
only_one laws m (Ok q) found fault v s = one_request laws (asked q) v m found s
only_one laws m (Err f) found fault v s =
    let none : first_fault m ≡ None = no_fault laws v m s in
    absurd cc

-- which fault is answered
pub fault_read : Laws → (m : List ℕ) (r : Result Request Malformed) → IfOk r (λ q. Spells (asked q) m) → IfErr r (λ f. first_fault m ≡ Some f)
    → result_err r ≡ first_fault m
fault_read laws m (Ok q) found fault = sym (no_fault laws (asked q) m found)
fault_read laws m (Err f) found fault = sym fault

abbrev asked_by : RawHeader → Act → List ℕ → Asked
asked_by raw a ext = record { header = record { unique = raw.unique; nodeid = raw.nodeid; uid = raw.uid; gid = raw.gid; pid = raw.pid }; act = a; ext = ext }

-- the layout of a header as that of a request
abbrev head_by : ℕ → ℕ → RawHeader → List Part
head_by len opcode h =
    number 4 len ∷ number 4 opcode ∷ number 8 h.unique ∷ number 8 h.nodeid ∷ number 4 h.uid ∷ number 4 h.gid ∷ number 4 h.pid
    ∷ number 2 h.total_extlen ∷ unused 2 ∷ []

-- the header is that of the request that is made of it
head_laid : NumbersRead → (raw : RawHeader) (a : Act) (ext head : List ℕ) (n : ℕ) → Lays (raw_parts raw) head → raw.len ≡ n → opcode_of a ≡ raw.opcode
    → Lays (header_parts n raw.total_extlen (asked_by raw a ext)) head
head_laid read raw a ext head n h len opcode =
    let h1 = h.3 in let h2 = h1.3 in let h3 = h2.3 in let h4 = h3.3 in let h5 = h4.3 in let h6 = h5.3 in let h7 = h6.3 in let h8 = h7.3 in
    let laid : Lays (head_by raw.len raw.opcode raw) head = (
      h.0,
      h.1,
      h.2,
      (
        h1.0,
        h1.1,
        h1.2,
        (
          h2.0,
          h2.1,
          h2.2,
          (
            h3.0,
            h3.1,
            h3.2,
            (
              h4.0,
              h4.1,
              h4.2,
              (
                h5.0,
                h5.1,
                h5.2,
                (
                  h6.0,
                  h6.1,
                  h6.2,
                  (h7.0, h7.1, h7.2, (le 2 raw.padding, h8.0, read.len 2 raw.padding, h8.2, h8.3)),
                ),
              ),
            ),
          ),
        ),
      ),
    ) in
    subst (λ (o : ℕ). Lays (head_by n o raw) head) (sym opcode) (subst (λ (k : ℕ). Lays (head_by k raw.opcode raw) head) len laid)

pub read_spelled : NumbersRead → (m : List ℕ) (raw : RawHeader) (a : Act) (body ext : List ℕ) → IsHeaderOf raw m
    → raw.len ≡ length m → 8 * raw.total_extlen ≤ length (drop 40 m)
    → body ≡ take (length (drop 40 m) - 8 * raw.total_extlen) (drop 40 m) → ext ≡ drop (length (drop 40 m) - 8 * raw.total_extlen) (drop 40 m)
    → opcode_of a ≡ raw.opcode → Lays (parts a) body → IsSpellable a → Spells (asked_by raw a ext) m
read_spelled read m raw a body ext head len room body_is ext_is opcode laid named =
    let before : ℕ = length (drop 40 m) - 8 * raw.total_extlen in
    let whole : drop 40 m ≡ body ++ ext = rw (body_is, ext_is) (sym (take-append-drop before (drop 40 m))) in
    record {
      head = take 40 m;
      body = body;
      units = raw.total_extlen;
      whole = sym (take-append-drop 40 m) ∙ ap (λ (x : List ℕ). take 40 m ++ x) whole;
      ext = ap length ext_is ∙ omega (arith, room, length-drop before (drop 40 m));
      header = head_laid read raw a ext (take 40 m) (length m) head len opcode;
      parted = laid;
      named = named;
    }
