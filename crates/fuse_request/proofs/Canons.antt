-- What has a spelling is spelled by its canon.
use Rattle.std.proofs.Common.{◌≡◌, ◌≢◌, ◌/◌, ◌*◌, ◌%◌, ◌==◌, ◌&&◌, ◌||◌, ℕ, zero, suc, Bool, true, false, not, List, [], ◌∷◌, ◌++◌, length, Option, Some}
use Rattle.std.proofs.Common.{None, refl, sym, subst, arith}
use Rattle.std.specs.Prelude.{Result, Ok, Err, OnOk, is_err}
use Rattle.std.specs.List.{list_any, AllByRecursion}
use Rattle.std.proofs.lemmas.Bool.{eqb-true}
use Rattle.std.proofs.lemmas.List.Elements.{All-from_recursion}
use Rattle.std.proofs.lemmas.List.{length-append}
use Rattle.fuse_wire.specs.Bytes.{HasNoNul}
use Rattle.fuse_wire.specs.Layout.{form, HasForm, Lays}
use Rattle.fuse_wire.specs.Laws.{LayoutsStand}
use Rattle.fuse_request.specs.Act.{Act, Lookup, Mknod, Mkdir, Unlink, Rmdir, Rename, Init, BatchForget, Rename2, Further, Asked}
use Rattle.fuse_request.specs.Spelling.{parts, flags2_parts, header_parts, IsSpellable, Spells}
use Rattle.fuse_request.specs.Canon.{len_of, canon, no_nul, sayable_act, sayable, CanonSpells}
use Rattle.fuse_wire.specs.Written.{AllFit}
use Rattle.fuse_request.specs.inner.Writing.{HasNumbers}

pub canon_spells : LayoutsStand → CanonSpells
canon_spells laws v h =
    let units : ℕ = length v.ext / 8 in
    let head : List ℕ = form (header_parts (len_of v) units v) in
    let laid : Lays (header_parts (len_of v) units v) head = laws.formed (header_parts (len_of v) units v) h.header in
    let head_len : length head ≡ 40 = laws.len (header_parts (len_of v) units v) head laid in
    let total : length (canon v) ≡ len_of v = omega (
      arith,
      head_len,
      length-append head (form (parts v.act) ++ v.ext),
      length-append (form (parts v.act)) v.ext,
    ) in
    record {
      head = head;
      body = form (parts v.act);
      units = units;
      whole = refl;
      ext = h.ext;
      header = subst (λ (n : ℕ). Lays (header_parts n units v) head) (sym total) laid;
      parted = laws.formed (parts v.act) h.body;
      named = h.named;
    }

-- ---- what may be encoded has a spelling

not_or : (b c : Bool) → (b || c) ≡ false → c ≡ false
not_or true c e = absurd cc
not_or false c e = e

no_nul_by : (name : List ℕ) → list_any (λ b. b == 0) name ≡ false → AllByRecursion (λ b. b ≢ 0) name
no_nul_by [] e = tt
no_nul_by (zero ∷ name) e = absurd cc
no_nul_by (suc n ∷ name) e = ((λ is. absurd cc), no_nul_by name (not_or _ _ e))

not_true : (b : Bool) → not b ≡ true → b ≡ false
not_true true e = absurd cc
not_true false e = refl

has_no_nul : (name : List ℕ) → no_nul name ≡ true → HasNoNul name
has_no_nul name e = All-from_recursion (λ b. b ≢ 0) name (no_nul_by name (not_true _ e))

both_true : (b c : Bool) → (b && c) ≡ true → (b ≡ true) × (c ≡ true)
both_true true c e = (refl, e)
both_true false c e = absurd cc

flags2_form : (flags2 : Option ℕ) → AllFit (flags2_parts flags2) → HasForm (flags2_parts flags2)
flags2_form None h = tt
flags2_form (Some flags2) h = h

body_form : (a : Act) → sayable_act a ≡ true → AllFit (parts a) → HasForm (parts a)
body_form (Lookup name) e h = (has_no_nul name e, tt)
body_form (Mknod mode rdev umask name) e h = (h.0, (h.1.0, (h.1.1.0, (has_no_nul name e, tt))))
body_form (Mkdir mode umask name) e h = (h.0, (h.1.0, (has_no_nul name e, tt)))
body_form (Unlink name) e h = (has_no_nul name e, tt)
body_form (Rmdir name) e h = (has_no_nul name e, tt)
body_form (Rename new_dir old_name new_name) e h =
    let n = both_true (no_nul old_name) _ e in
    (h.0, (has_no_nul old_name n.0, (has_no_nul new_name n.1, tt)))
body_form (Rename2 new_dir flags old_name new_name) e h =
    let n = both_true (no_nul old_name) _ e in
    (h.0, (h.1.0, (has_no_nul old_name n.0, (has_no_nul new_name n.1, tt))))
body_form (Init x) e h = (h.0, (h.1.0, (h.1.1.0, (h.1.1.1.0, flags2_form x.flags2 h.1.1.1.1))))
body_form _ e h = h

whole_items : (n : ℕ) → (n % 16 == 0) ≡ true → n ≡ 16 * (n / 16)
whole_items n e = let none : n % 16 ≡ 0 = eqb-true (n % 16) 0 e in omega (arith, none)

whole_units : (n : ℕ) → (n % 8 == 0) ≡ true → n ≡ 8 * (n / 8)
whole_units n e = let none : n % 8 ≡ 0 = eqb-true (n % 8) 0 e in omega (arith, none)

named_by : (a : Act) → sayable_act a ≡ true → IsSpellable a
named_by (BatchForget items) e = whole_items (length items) e
named_by (Further opcode body) e = not_true _ e
named_by _ e = tt

-- it is spelled by its canon
pub spelled_again : LayoutsStand → (v : Asked) → sayable v ≡ true → HasNumbers v → Spells v (canon v)
spelled_again laws v e h =
    let s = both_true (sayable_act v.act) _ e in
    canon_spells laws v (record { header = h.0; body = body_form v.act s.0 h.1; ext = whole_units (length v.ext) s.1; named = named_by v.act s.0 })

pub well : {T E : Type 0} (r : Result T E) (P : Type 0) (b : Bool) → OnOk r P → b ≡ is_err r → b ≡ false → P
well (Ok x) P b h is wrong = h
well (Err e) P b h is wrong = absurd cc
