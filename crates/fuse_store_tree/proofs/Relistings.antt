-- A piece that is listed in place of what was stored there.
use Rattle.std.proofs.Common.{◌≡◌, ◌≤◌, ◌<◌, ◌+◌, ◌-◌, ◌*◌, ◌/◌, ◌%◌, ◌==◌, ◌&&◌, inl, inr, ℕ, zero, suc, List, [], ◌∷◌, take, drop, length, not, nat_lt, max}
use Rattle.std.proofs.Common.{Bool, true, false, cond, Option, Some, None, refl, sym, ap, subst, arith, ◌∙◌}
use Rattle.std.specs.Prelude.{◌||◌, nat_le, unwrap_or, option_map}
use Rattle.std.specs.Option.{is_some}
use Rattle.std.specs.List.{AllByRecursion, list_any}
use Rattle.std.proofs.lemmas.Bool.{cases_Bool}
use Rattle.std.proofs.lemmas.Bool.Decides.{nat_tests}
use Rattle.std.proofs.lemmas.List.{get_or-take, get_or-drop}
use Rattle.fuse_rows.specs.Bounds.{block_bytes}
use Rattle.fuse_rows.specs.Blocks.{first_touched, touched_end}
use Rattle.fuse_store_tables.specs.Pieces.{Piece}
use Rattle.fuse_store_tables.specs.Content.{Content, node_key, has_by}
use Rattle.fuse_store_tree.specs.Pieces.{byte_at, byte_in, end_of, piece_bytes, block_in_piece, stored_block, is_written_in, Moved}
use Rattle.fuse_store_tree.specs.Store.{Store, Bodies, DescribesAs, IsWrittenAs, AreWithin, ArePiecesWithin}
use Rattle.fuse_store_tree.specs.inner.Relisting.{is_between, Listed}
use Rattle.fuse_store_tree.specs.inner.Writing.{overlay, overlay_in, ends_grown, wrote_between}
use Rattle.fuse_store_tree.proofs.Cuts.{parts_hold}
use Rattle.fuse_store_tree.proofs.BlockBytes.{lower, upper}
use Rattle.fuse_store_tree.proofs.Within.{within_left, grown_more}

-- ---- bytes

-- a byte of one block of a run
byte_of_run : (bytes : List ℕ) (k r : ℕ) → r < block_bytes → byte_at (take block_bytes (drop k bytes)) r ≡ byte_at bytes (k + r)
byte_of_run bytes k r low = get_or-take block_bytes (drop k bytes) r 0 low ∙ get_or-drop k bytes r 0

-- a place is in the bytes of a range where its block is in the range
in_range : (first count i : ℕ) → (nat_le first (i / block_bytes) && nat_lt (i / block_bytes) (first + count))
    ≡ (not (nat_lt i (first * block_bytes)) && nat_lt i (first * block_bytes + count * block_bytes))
in_range first count i = elim (cases_Bool (nat_lt i (first * block_bytes))) [
  | inl before ↦
      let low = lower i (first * block_bytes) before in
      rw before (below first (i / block_bytes) (omega (arith, low)) (nat_lt (i / block_bytes) (first + count)))
  | inr behind ↦
      let high = upper i (first * block_bytes) behind in
      rw behind (above first (i / block_bytes) (omega (arith, high)) (nat_lt (i / block_bytes) (first + count))
      ∙ elim (cases_Bool (nat_lt i (first * block_bytes + count * block_bytes))) [
        | inl inside ↦
            let low = lower i (first * block_bytes + count * block_bytes) inside in
            within (i / block_bytes) (first + count) (omega (arith, low)) ∙ sym inside
        | inr outside ↦
            let far = upper i (first * block_bytes + count * block_bytes) outside in
            without (i / block_bytes) (first + count) (omega (arith, far)) ∙ sym outside
      ])
]
  where
    below : (a b : ℕ) → b < a → (t : Bool) → (nat_le a b && t) ≡ false
    below a b low t = grind (arith, nat_tests)

    above : (a b : ℕ) → a ≤ b → (t : Bool) → (nat_le a b && t) ≡ t
    above a b low t = grind (arith, nat_tests)

    within : (a b : ℕ) → a < b → nat_lt a b ≡ true
    within a b low = grind (arith, nat_tests)

    without : (a b : ℕ) → b ≤ a → nat_lt a b ≡ false
    without a b low = grind (arith, nat_tests)

module _ (file : List ℕ) (p : Piece) (part : List ℕ) (c new : Content) (listed : Listed file p c new) (bytes : part ≡ piece_bytes file p)
    (long : length part ≡ p.count * block_bytes) (some : 1 ≤ p.count) where
  abbrev at : ℕ
  at = p.first * block_bytes

  listed_byte : (n i : ℕ) → byte_in file new n i ≡ overlay p.node at part (byte_in file c) n i
  listed_byte n i =
      ap (λ o. byte_at (unwrap_or o []) (i % block_bytes)) (listed.blocks n (i / block_bytes)) ∙ elim (cases_Bool (n == p.node)) [
        | inr other ↦ rw other refl
        | inl here ↦
            let test = in_range p.first p.count i ∙ ap (λ z. not (nat_lt i at) && nat_lt i (at + z)) (sym long) in
            rw here (ap (λ b. byte_at (unwrap_or (cond b (Some (block_in_piece file (i / block_bytes) p)) (stored_block file c n (i / block_bytes))) []) (i % block_bytes)) test
            ∙ by (not (nat_lt i at) && nat_lt i (at + length part)) refl)
      ]
    where
      both : (a b : Bool) → (not a && b) ≡ true → a ≡ false
      both true b is = absurd cc
      both false b is = refl

      by : (b : Bool) → (not (nat_lt i at) && nat_lt i (at + length part)) ≡ b
          → byte_at (unwrap_or (cond b (Some (block_in_piece file (i / block_bytes) p)) (stored_block file c n (i / block_bytes))) []) (i % block_bytes)
          ≡ cond b (byte_at part (i - at)) (byte_in file c n i)
      by false is = refl
      by true is =
          let high = upper i at (both (nat_lt i at) (nat_lt i (at + length part)) is) in
          let place : (i / block_bytes - p.first) * block_bytes + i % block_bytes ≡ i - at = omega (arith, high) in
          byte_of_run (piece_bytes file p) ((i / block_bytes - p.first) * block_bytes) (i % block_bytes) (omega arith)
          ∙ ap (λ l. byte_at l ((i / block_bytes - p.first) * block_bytes + i % block_bytes)) (sym bytes) ∙ ap (byte_at part) place

  listed_written : (written : ℕ → Option (ℕ → Bool)) (n k : ℕ) → IsWrittenAs (is_written_in file c n k) (written n) k
      → IsWrittenAs (is_written_in file new n k) (wrote_between p.node (first_touched at) (touched_end at (length part)) written n) k
  listed_written written n k was =
      subst (λ b. IsWrittenAs b (wrote_between p.node (first_touched at) (touched_end at (length part)) written n) k)
      (sym (ap is_some (listed.blocks n k) ∙ some_if (is_between p.node p.first (end_of p) n k) (stored_block file c n k)))
      (by (n == p.node) (written n) was)
    where
      some_if : (b : Bool) (o : Option (List ℕ)) → is_some (cond b (Some (block_in_piece file k p)) o) ≡ (b || is_some o)
      some_if true o = refl
      some_if false o = refl

      first_is : p.first ≡ first_touched at
      first_is = omega arith

      last_is : (m : ℕ) → m ≡ p.count * block_bytes → p.first + p.count ≡ touched_end at m
      last_is zero is = absurd (omega (arith, is, some))
      last_is (suc m) is = omega (arith, is, some)

      by : (t : Bool) (o : Option (ℕ → Bool)) → IsWrittenAs (is_written_in file c n k) o k
          → IsWrittenAs ((t && (nat_le p.first k && nat_lt k (end_of p))) || is_written_in file c n k)
          (cond t (option_map (λ q block. (nat_le (first_touched at) block && nat_lt block (touched_end at (length part))) || q block) o) o) k
      by false o was = was
      by true None was = tt
      by true (Some q) was =
          ap (λ z. (nat_le z k && nat_lt k (end_of p)) || is_written_in file c n k) first_is
          ∙ ap (λ z. (nat_le (first_touched at) k && nat_lt k z) || is_written_in file c n k) (last_is (length part) long)
          ∙ ap (λ b. (nat_le (first_touched at) k && nat_lt k (touched_end at (length part))) || b) was

  -- the ends grow to that of the piece
  grown_pieces : (ends : ℕ → ℕ) (ps : List Piece) → ArePiecesWithin ends ps → ArePiecesWithin (ends_grown p.node (at + length part) ends) ps
  grown_pieces ends [] all = tt
  grown_pieces ends (q ∷ ps) all =
      (grown_more p.node (at + length part) ends q.node ((end_of q - 1) * block_bytes) all.0, grown_pieces ends ps all.1)

  own_end : (ends : ℕ → ℕ) → (end_of p - 1) * block_bytes < ends_grown p.node (at + length part) ends p.node
  own_end ends = by (p.node == p.node) same_self
    where
      same_self : (p.node == p.node) ≡ true
      same_self = grind (arith, nat_tests)

      by : (b : Bool) → b ≡ true → (end_of p - 1) * block_bytes < cond b (max (ends p.node) (at + length part)) (ends p.node)
      by true is = omega (arith, long, some)
      by false is = absurd cc

  -- the tables describe the bytes of the piece over those before
  pub described_listed : (x : Store) (g : Bodies) → DescribesAs x g file c → DescribesAs x (overlay_in p.node at part g) file new
  described_listed x g was =
      let others = listed.others in
      let grown = ends_grown p.node (at + length part) g.ends in
      record {
        number = was.number;
        layout = ap (λ (z : Content). z.layout) others ∙ was.layout;
        counters = ap (λ (z : Content). z.counters) others ∙ was.counters;
        nodes = ap (λ (z : Content). z.nodes) others ∙ was.nodes;
        entries = ap (λ (z : Content). z.entries) others ∙ was.entries;
        handles = ap (λ (z : Content). z.handles) others ∙ was.handles;
        answers = ap (λ (z : Content). z.answers) others ∙ was.answers;
        lots = ap (λ (z : Content). z.lots) others ∙ was.lots;
        kept = ap (λ (z : Content). z.kept) others ∙ was.kept;
        attributes = ap (λ (z : Content). z.attributes) others ∙ was.attributes;
        bytes = λ n i. listed_byte n i ∙ same p.node at part (byte_in file c) g.byte was.bytes n i;
        written = λ n k. listed_written g.written n k (was.written n k);
        within = subst (AreWithin grown) (sym listed.rows)
            (within_left (λ b. not (is_between p.node p.first (end_of p) b.node b.block)) g.ends grown
            (λ b stays low. grown_more p.node (at + length part) g.ends b.node (b.block * block_bytes) low) c.blocks was.within);
        pieces_within = parts_hold (λ n end. (end - 1) * block_bytes < grown n) (p ∷ c.pieces) new.pieces (λ n a b low high. omega (arith, low, high))
            (own_end g.ends, grown_pieces g.ends c.pieces was.pieces_within) listed.parts;
        pieces = listed.sound.1;
        owned = parts_hold (λ n end. list_any (has_by node_key n) new.nodes ≡ true) (p ∷ c.pieces) new.pieces (λ n a b low there. there)
            (subst (λ ns. AllByRecursion (λ q. list_any (has_by node_key q.node) ns ≡ true) (p ∷ c.pieces)) (sym (ap (λ (z : Content). z.nodes) others))
            (listed.there, was.owned)) listed.parts;
        header = was.header;
        settings = was.settings;
        fits = listed.sound.0;
      }
    where
      same : (node a : ℕ) (l : List ℕ) (f h : ℕ → ℕ → ℕ) → ((n i : ℕ) → f n i ≡ h n i) → (n i : ℕ) → overlay node a l f n i ≡ overlay node a l h n i
      same node a l f h each n i = ap (λ b. cond ((n == node) && (not (nat_lt i a) && nat_lt i (a + length l))) (byte_at l (i - a)) b) (each n i)

-- ---- the move

-- a piece that has what was stored there moves it
pub listed_moves : (file : List ℕ) (p : Piece) (c new : Content) → Listed file p c new
    → ((n k : ℕ) → is_between p.node p.first (end_of p) n k ≡ true → stored_block file c n k ≡ Some (block_in_piece file k p)) → Moved file c new
listed_moves file p c new listed same = record {
  blocks = λ n k. listed.blocks n k ∙ by n k (is_between p.node p.first (end_of p) n k) refl;
  others = listed.others;
}
  where
    by : (n k : ℕ) (b : Bool) → is_between p.node p.first (end_of p) n k ≡ b → cond b (Some (block_in_piece file k p)) (stored_block file c n k) ≡ stored_block file c n k
    by n k true is = sym (same n k is)
    by n k false is = refl

pub moved_twice : (file : List ℕ) (a b d : Content) → Moved file a b → Moved file b d → Moved file a d
moved_twice file a b d p q = record { blocks = λ n k. q.blocks n k ∙ p.blocks n k; others = q.others ∙ p.others }
