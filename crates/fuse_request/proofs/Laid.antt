-- What stands at the places of bodies, and payloads.
use Rattle.std.proofs.Common.{◌≡◌, ℕ, List, [], ◌∷◌, ◌++◌, length, drop, None, Some, refl, sym, ap, ◌∙◌}
use Rattle.std.proofs.lemmas.List.{append-nil}
use Rattle.fuse_wire.specs.Bytes.{number_of}
use Rattle.fuse_wire.specs.Layout.{Lays, Placed, bytes}
use Rattle.fuse_request.specs.Act.{Init}
use Rattle.fuse_request.specs.Spelling.{parts, setattr_parts, read_parts, release_parts}
use Rattle.fuse_request.specs.Places.{setattr_at, read_at, release_at, init_with}

pub setattr_placed : (b : List ℕ) → length b ≡ 88 → Placed 0 (setattr_parts (setattr_at b)) b
setattr_placed b len = (refl, (refl, (refl, (refl, (refl, (refl, (refl, (refl, (refl, (refl, (refl, (refl, (refl, len)))))))))))))

pub read_placed : (b : List ℕ) → length b ≡ 40 → Placed 0 (read_parts (read_at b)) b
read_placed b len = (refl, (refl, (refl, (refl, (refl, (refl, len))))))

pub release_placed : (b : List ℕ) → length b ≡ 24 → Placed 0 (release_parts (release_at b)) b
release_placed b len = (refl, (refl, (refl, (refl, len))))

pub short_init_placed : (b : List ℕ) → length b ≡ 16 → Placed 0 (parts (Init (init_with b None))) b
short_init_placed b len = (refl, (refl, (refl, (refl, len))))

pub init_placed : (b : List ℕ) (flags2 : ℕ) → length b ≡ 64 → flags2 ≡ number_of 4 (drop 16 b) → Placed 0 (parts (Init (init_with b (Some flags2)))) b
init_placed b flags2 len e = (refl, (refl, (refl, (refl, (e, len)))))

-- ---- a payload that ends the message

pub bytes_laid : (xs b : List ℕ) → xs ≡ b → Lays (bytes xs ∷ []) b
bytes_laid xs b e = ([], sym e ∙ sym (append-nil xs), refl)

pub all_bytes : (xs b : List ℕ) → Lays (bytes xs ∷ []) b → b ≡ xs
all_bytes xs b h = h.1 ∙ ap (λ (x : List ℕ). xs ++ x) h.2 ∙ append-nil xs
