-- Laws of numbers, layouts and names (defined by this project).
use Rattle.std.specs.Prelude.{◌≡◌, ◌<◌, ◌≤◌, ◌^◌, ℕ, List, ◌∷◌, ◌++◌, length, take, drop, Some, None}
use Rattle.fuse_wire.specs.Bytes.{le, number_of, IsBytes, HasNoNul, after_nul}
use Rattle.fuse_wire.specs.Layout.{Part, Lays, Placed, widths, form, HasForm}

-- the bytes of a number are read as that number, bytes are those of the number that is read, and later bytes don't matter;
-- a prefix of bytes is bytes, and so is the rest
pub record NumbersRead : Type 0 where
  pub len : (w n : ℕ) → length (le w n) ≡ w
  pub read : (w n : ℕ) (rest : List ℕ) → n < 256 ^ w → number_of w (le w n ++ rest) ≡ n
  pub prefix : (w : ℕ) (b : List ℕ) → w ≤ length b → IsBytes b → (number_of w b < 256 ^ w) × (b ≡ le w (number_of w b) ++ drop w b)
  pub apart : (w : ℕ) (b rest : List ℕ) → w ≤ length b → number_of w (b ++ rest) ≡ number_of w b
  pub prefix_bytes : (n : ℕ) (b : List ℕ) → IsBytes b → IsBytes (take n b)
  pub rest_bytes : (n : ℕ) (b : List ℕ) → IsBytes b → IsBytes (drop n b)

-- how long layouts are, which bytes have one, where their parts stand, and how layouts are joined and parted
pub record LayoutsStand : Type 0 where
  pub len : (ps : List Part) (b : List ℕ) → Lays ps b → length b ≡ widths ps
  pub form_len : (ps : List Part) → length (form ps) ≡ widths ps
  pub formed : (ps : List Part) → HasForm ps → Lays ps (form ps)
  pub stands : (ps : List Part) (b : List ℕ) → Lays ps b → Placed 0 ps b
  pub placed : (ps : List Part) (b : List ℕ) → IsBytes b → Placed 0 ps b → Lays ps b
  pub joined : (ps qs : List Part) (a b : List ℕ) → Lays ps a → Lays qs b → Lays (ps ++ qs) (a ++ b)
  pub parted : (ps qs : List Part) (b : List ℕ) → Lays (ps ++ qs) b → Lays ps (take (widths ps) b) × Lays qs (drop (widths ps) b)

-- the bytes after the NUL of a name; bytes without a NUL have none
pub record NamesEnd : Type 0 where
  pub text : (t rest : List ℕ) → HasNoNul t → after_nul (t ++ 0 ∷ rest) ≡ Some rest
  pub endless : (b : List ℕ) → HasNoNul b → after_nul b ≡ None
