-- The requests that the bytes of the cases spell.
use Rattle.std.proofs.Common.{◌≡◌, ◌≢◌, ℕ, List, [], ◌∷◌, refl, subst, rules, arith}
use Rattle.std.specs.List.{AllByRecursion}
use Rattle.std.proofs.lemmas.List.Elements.{All-from_recursion}
use Rattle.fuse_wire.specs.Bytes.{le, HasNoNul}
use Rattle.fuse_request.specs.Act.{Asked}
use Rattle.fuse_request.specs.Spelling.{Spells}
use Rattle.fuse_request.specs.Canon.{canon, CanonSpells, HasCanon}
use Rattle.spec_tests.specs.inner.RequestCases.{hello, lookup_hello, lookup_bytes, mkdir_a, mkdir_bytes, MissingLookup, FirstRun, rename_a, rename_text}
use Rattle.spec_tests.specs.inner.RequestCases.{RenameBytes, write_one, write_text, WriteBytes, exchange_a, exchange_text, Exchange}

spelled : CanonSpells → (v : Asked) (b : List ℕ) → HasCanon v → canon v ≡ b → (canon v ≡ b) × Spells v b
spelled law v b h e = (e, subst (Spells v) e (law v h))

no_nul : (t : List ℕ) → AllByRecursion (λ x. x ≢ 0) t → HasNoNul t
no_nul t h = All-from_recursion (λ x. x ≢ 0) t h

lookup_sayable : HasCanon lookup_hello
lookup_sayable = record { header = search rules; body = (no_nul hello (search rules), tt); ext = refl; named = tt }

pub missing_lookup : CanonSpells → MissingLookup
unfolding le
missing_lookup law = spelled law lookup_hello lookup_bytes lookup_sayable refl

mkdir_sayable : HasCanon mkdir_a
unfolding le
mkdir_sayable = record { header = search rules; body = (omega arith, (omega arith, (no_nul (0x61 ∷ []) (search rules), tt))); ext = refl; named = tt }

pub first_run : CanonSpells → FirstRun
unfolding le
first_run law = spelled law mkdir_a mkdir_bytes mkdir_sayable refl

rename_sayable : HasCanon rename_a
unfolding le
rename_sayable =
    record { header = search rules; body = (omega arith, (no_nul (0x61 ∷ []) (search rules), (no_nul (0x62 ∷ []) (search rules), tt))); ext = refl; named = tt }

pub rename_bytes : CanonSpells → RenameBytes
unfolding le
rename_bytes law = spelled law rename_a rename_text rename_sayable refl

write_sayable : HasCanon write_one
unfolding le
write_sayable = record { header = search rules; body = search rules; ext = refl; named = tt }

pub write_bytes : CanonSpells → WriteBytes
unfolding le
write_bytes law = spelled law write_one write_text write_sayable refl

exchange_sayable : HasCanon exchange_a
unfolding le
exchange_sayable =
    record {
      header = search rules;
      body = (omega arith, (omega arith, (no_nul (0x61 ∷ []) (search rules), (no_nul (0x62 ∷ []) (search rules), tt))));
      ext = refl;
      named = tt;
    }

pub exchange : CanonSpells → Exchange
unfolding le
exchange law = spelled law exchange_a exchange_text exchange_sayable refl
