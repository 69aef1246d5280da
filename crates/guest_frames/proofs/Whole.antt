-- A frame's bytes are those of its head and its payload.
use Rattle.std.proofs.Common.{◌≡◌, ℕ, ◌≤◌, Bool, true, false, List, [], ◌∷◌, ◌++◌, length, drop, Option, Some, None, Result, Ok, Err}
use Rattle.std.proofs.Common.{refl, sym, ap, subst, ◌∙◌, arith}
use Rattle.std.specs.Prelude.{◌==◌, nat_lt, if◌then◌else◌}
use Rattle.std.proofs.lemmas.Bool.{ltb-false, eqb-true}
use Rattle.std.proofs.lemmas.List.{drop_at, drop-drop, length-drop}
use Rattle.fuse_wire.specs.Bytes.{le, IsBytes}
use Rattle.fuse_wire.specs.Laws.{NumbersRead, LayoutsStand}
use Rattle.fuse_wire.specs.Layout.{Part, number, unused, text, bytes, Lays, form, HasForm}
use Rattle.guest_frames.specs.declared.fault.GuestFault.{GuestFault}
use Rattle.guest_frames.specs.declared.fault.GuestFault.TheVariants as faults
use Rattle.guest_frames.specs.declared.guest_head.GuestHead.{GuestHead}
use Rattle.guest_frames.specs.declared.guest_kind.GuestKind.{GuestKind}
use Rattle.guest_frames.specs.declared.guest_kind.GuestKind.TheVariants as kinds
use Rattle.guest_frames.specs.declared.hello.Agreed.{Agreed}
use Rattle.guest_frames.specs.Limits.{max_frame_len}
use Rattle.guest_frames.specs.Kinds.{kind_number, guest_kind_of}
use Rattle.guest_frames.specs.Frames.{Frame, of_hello, of_ready, of_request, of_get, of_values, of_scan, of_pairs, of_answer, settings_parts}
use Rattle.guest_frames.specs.Frames.{payload_parts, frame_kind, frame_len, frame_bytes, IsFrame, SpellsFrame}
use Rattle.guest_frames.specs.Reading.{word_at}
use Rattle.guest_frames.specs.Heads.{head_of, guest_head_in}
use Rattle.guest_frames.specs.Laws.{FramesStand}
use Rattle.guest_frames.proofs.OneFrame.{one_frame, spelled}
use Rattle.guest_frames.proofs.Payloads.{payload_again}

-- ---- layouts of which no byte is free

abbrev IsPlain : List Part → Type 0
IsPlain [] = Unit {0}
IsPlain (number w n ∷ ps) = IsPlain ps
IsPlain (unused w ∷ ps) = ⊥
IsPlain (text t ∷ ps) = ⊥
IsPlain (bytes xs ∷ ps) = IsPlain ps

plain_form : (ps : List Part) (b : List ℕ) → IsPlain ps → Lays ps b → HasForm ps × (b ≡ form ps)
plain_form [] b plain h = (tt, h)
plain_form (number w n ∷ ps) b plain h =
    let more = plain_form ps h.0 plain h.3 in
    ((h.1, more.0), h.2 ∙ ap (λ (x : List ℕ). le w n ++ x) more.1)
plain_form (unused w ∷ ps) b plain h = absurd plain
plain_form (text t ∷ ps) b plain h = absurd plain
plain_form (bytes xs ∷ ps) b plain h = let more = plain_form ps h.0 plain h.2 in (more.0, h.1 ∙ ap (λ (x : List ℕ). xs ++ x) more.1)

plain_settings : (a : Option Agreed) (opcodes : ℕ) → IsPlain (settings_parts a opcodes)
plain_settings None opcodes = tt
plain_settings (Some a) opcodes = tt

plain_payload : (f : Frame) → IsPlain (payload_parts f)
plain_payload (of_hello h) = plain_settings h.agreed h.opcodes
plain_payload (of_ready r) = tt
plain_payload (of_request r) = tt
plain_payload (of_get keys) = tt
plain_payload (of_values values) = tt
plain_payload (of_scan s) = tt
plain_payload (of_pairs pairs more) = tt
plain_payload (of_answer a) = tt

-- ---- heads

abbrev read_head : GuestHead → Result (Option GuestHead) GuestFault
read_head h = Ok (Some h)

head_is : (h g : GuestHead) → read_head h ≡ read_head g → h ≡ g
head_is h g e = cc

head_tests : (few least most short : Bool) (len n : ℕ) (kind : Option GuestKind) (h : GuestHead)
    → (if few then Ok None else if least then Err (faults.Length len) else if most then Err (faults.Length len) else if short then Ok None else head_of len n kind)
    ≡ read_head h
    → (short ≡ false) × (most ≡ false) × (h.len ≡ len) × (kind ≡ Some h.kind)
head_tests true least most short len n kind h e = absurd cc
head_tests false true most short len n kind h e = absurd cc
head_tests false false true short len n kind h e = absurd cc
head_tests false false false true len n kind h e = absurd cc
head_tests false false false false len n None h e = absurd cc
head_tests false false false false len n (Some kind) h e =
    let is : record { len = len; kind = kind } ≡ h = head_is (record { len = len; kind = kind }) h e in
    (refl, refl, sym (ap (λ (x : GuestHead). x.len) is), ap (λ (x : GuestHead). Some x.kind) is)

abbrev some_kind : GuestKind → Option GuestKind
some_kind kind = Some kind

kind_is : (x y : GuestKind) → some_kind x ≡ some_kind y → x ≡ y
kind_is x y e = cc

known : (n : ℕ) (a b c d : Bool) (kind : GuestKind) → (a ≡ true → n ≡ 2) → (b ≡ true → n ≡ 4) → (c ≡ true → n ≡ 6) → (d ≡ true → n ≡ 8)
    → (if a then Some kinds.Ready else if b then Some kinds.Get else if c then Some kinds.Scan else if d then Some kinds.Answer else None) ≡ some_kind kind
    → n ≡ kind_number kind
known n true b c d kind ha hb hc hd e = ha refl ∙ ap kind_number (kind_is kinds.Ready kind e)
known n false true c d kind ha hb hc hd e = hb refl ∙ ap kind_number (kind_is kinds.Get kind e)
known n false false true d kind ha hb hc hd e = hc refl ∙ ap kind_number (kind_is kinds.Scan kind e)
known n false false false true kind ha hb hc hd e = hd refl ∙ ap kind_number (kind_is kinds.Answer kind e)
known n false false false false kind ha hb hc hd e = absurd cc

-- ---- the laws

whole : NumbersRead → (b : List ℕ) (h : GuestHead) (f : Frame) → IsBytes b → guest_head_in b ≡ Ok (Some h) → length b ≡ h.len
    → frame_kind f ≡ kind_number h.kind → SpellsFrame f (drop 8 b) → IsFrame f × (b ≡ frame_bytes f)
whole laws b h f fits e len of_kind s =
    let n : ℕ = word_at 4 b in
    let t = head_tests (nat_lt (length b) 4) (nat_lt (word_at 0 b) 8) (nat_lt max_frame_len (word_at 0 b)) (nat_lt (length b) 8) (word_at 0 b) n
    (guest_kind_of n) h e in
    let long : 8 ≤ length b = ltb-false (length b) 8 t.0 in
    let kind : n ≡ kind_number h.kind =
    known n (n == 2) (n == 4) (n == 6) (n == 8) h.kind (λ y. eqb-true n 2 y) (λ y. eqb-true n 4 y) (λ y. eqb-true n 6 y) (λ y. eqb-true n 8 y) t.3 in
    let first = laws.prefix 4 b (omega (arith, long)) fits in
    let second = laws.prefix 4 (drop 4 b) (omega (arith, long, length-drop 4 b)) (laws.rest_bytes 4 b fits) in
    let p = plain_form (payload_parts f) (drop 8 b) (plain_payload f) s.laid in
    let total : word_at 0 b ≡ frame_len f = omega (arith, t.2, len, long, ap length p.1, length-drop 8 b) in
    let after : drop 4 b ≡ le 4 (frame_kind f) ++ form (payload_parts f) =
    second.1 ∙ ap (λ (x : List ℕ). le 4 n ++ x) (drop-drop 4 4 b ∙ p.1) ∙ ap (λ (k : ℕ). le 4 k ++ form (payload_parts f)) (kind ∙ sym of_kind) in
    let is : b ≡ frame_bytes f = first.1 ∙ ap (λ (x : List ℕ). le 4 (word_at 0 b) ++ x) after
    ∙ ap (λ (k : ℕ). le 4 k ++ (le 4 (frame_kind f) ++ form (payload_parts f))) total in
    let short : frame_len f ≤ max_frame_len = omega (arith, total, ltb-false max_frame_len (word_at 0 b) t.1) in
    (record { limited = (s.within, short); fits = p.0 }, is)

payload : NumbersRead → LayoutsStand → (f : Frame) → IsFrame f → SpellsFrame f (drop 8 (frame_bytes f))
payload numbers laws f is =
    let after : List ℕ = le 4 (frame_kind f) ++ form (payload_parts f) in
    let dropped : drop 8 (frame_bytes f) ≡ form (payload_parts f) =
    sym (drop-drop 4 4 (frame_bytes f)) ∙ ap (drop 4) (drop_at (le 4 (frame_len f)) after 4 (numbers.len 4 (frame_len f)))
    ∙ drop_at (le 4 (frame_kind f)) (form (payload_parts f)) 4 (numbers.len 4 (frame_kind f)) in
    subst (SpellsFrame f) (sym dropped) (spelled laws f is)

pub frames_stand : NumbersRead → LayoutsStand → FramesStand
frames_stand numbers laws = record { one = one_frame numbers laws; payload = payload numbers laws; whole = whole numbers; read = payload_again numbers laws }
