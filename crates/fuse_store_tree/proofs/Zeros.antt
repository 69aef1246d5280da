-- Zeros written within one block, and none where there is no block.
use Rattle.std.proofs.Common.{◌≡◌, ◌≤◌, ◌<◌, ◌+◌, ◌-◌, ◌*◌, ◌/◌, ◌%◌, ◌==◌, ◌&&◌, inl, inr, ℕ, List, length, replicate, not, nat_lt, true, false}
use Rattle.std.proofs.Common.{Option, Some, None, refl, sym, ap, subst, arith, ◌∙◌, Bool, cond, max}
use Rattle.std.specs.Prelude.{◌||◌, nat_le, unwrap_or, option_map, [], zero, suc}
use Rattle.std.specs.Option.{is_some}
use Rattle.std.proofs.lemmas.Bool.{cases_Bool}
use Rattle.std.proofs.lemmas.Bool.Decides.{nat_tests}
use Rattle.sqlite.specs.State.{State, HasCleanDisk}
use Rattle.fuse_rows.specs.Bounds.{block_bytes}
use Rattle.fuse_store_tables.specs.Content.{Content}
use Rattle.fuse_store_tables.specs.Moves.{Inside, LookedInside}
use Rattle.fuse_store_tree.specs.inner.Changing.{Overlaid, Zeroed}
use Rattle.fuse_store_tree.specs.Pieces.{File, byte_at, byte_in, stored_block, is_written_in}
use Rattle.fuse_store_tree.specs.Store.{IsWrittenAs}
use Rattle.fuse_store_tree.specs.inner.Reading.{IsSound}
use Rattle.fuse_rows.specs.Blocks.{first_touched, touched_end}
use Rattle.fuse_store_tree.specs.inner.Writing.{overlay, overlay_in, zeros_in, ends_grown, wrote_between}
use Rattle.fuse_store_tree.proofs.BlockBytes.{lower, upper}
use Rattle.fuse_store_tree.proofs.Overlays.{zero_at}
use Rattle.fuse_store_tree.proofs.RowChanges.{same_number}
use Rattle.fuse_store_tree.proofs.StoredBytes.{stored_within}
use Rattle.fuse_store_tree.proofs.Writes.{same_overlay, describes_same}

pub all_zero : (zeros : List ℕ) (n : ℕ) → zeros ≡ replicate n 0 → (i : ℕ) → byte_at zeros i ≡ 0
all_zero zeros n are i = ap (λ l. byte_at l i) are ∙ zero_at n i

no_block : (o : Option (List ℕ)) → false ≡ is_some o → (i : ℕ) → byte_at (unwrap_or o []) i ≡ 0
no_block None none i = refl
no_block (Some b) none i = absurd cc

in_its_block : (here m i : ℕ) → here % block_bytes + m ≤ block_bytes → (not (nat_lt i here) && nat_lt i (here + m)) ≡ true
    → i / block_bytes ≡ here / block_bytes
in_its_block here m i within is = elim (cases_Bool (nat_lt i here)) [
  | inl before ↦ absurd (let e = rw before at is in cc)
  | inr behind ↦ elim (cases_Bool (nat_lt i (here + m))) [
    | inl inside ↦
        let low = lower i (here + m) inside in
        let high = upper i here behind in
        omega (arith, low, high, within)
    | inr outside ↦ absurd (let e = rw (behind, outside) at is in cc)
  ]
]

-- where there is no block, its bytes are zeros already
unchanged : (file : List ℕ) (node here : ℕ) (zeros : List ℕ) (c : Content) → false ≡ is_written_in file c node (here / block_bytes)
    → ((i : ℕ) → byte_at zeros i ≡ 0) → here % block_bytes + length zeros ≤ block_bytes → (n i : ℕ)
    → byte_in file c n i ≡ overlay node here zeros (byte_in file c) n i
unchanged file node here zeros c none empty within n i = elim (cases_Bool (n == node)) [
  | inr other ↦ rw other refl
  | inl its ↦ rw its (elim (cases_Bool (not (nat_lt i here) && nat_lt i (here + length zeros))) [
    | inr outside ↦ rw outside refl
    | inl inside ↦
        let block = in_its_block here (length zeros) i within inside in
        rw inside (ap (λ k. byte_at (unwrap_or (stored_block file c n k) []) (i % block_bytes)) block
        ∙ ap (λ m. byte_at (unwrap_or (stored_block file c m (here / block_bytes)) []) (i % block_bytes)) (same_number n node its)
        ∙ no_block (stored_block file c node (here / block_bytes)) none (i % block_bytes) ∙ sym (empty (i - here)))
  ])
]

pub zeros_there : (f : File) (node here : ℕ) (zeros : List ℕ) (a b : State) → LookedInside a b
    → (HasCleanDisk b → (c : Content) → Inside c a → IsSound f.bytes c → false ≡ is_written_in f.bytes c node (here / block_bytes)) → ((i : ℕ) → byte_at zeros i ≡ 0)
    → here % block_bytes + length zeros ≤ block_bytes → Zeroed f node here zeros a b
zeros_there f node here zeros a b p none empty within = record {
  stays = p.stays;
  within = p.within;
  turns = λ read clean w at.
      let c = at.holds.0 in
      let was = at.holds.2 in
      let inside : Inside c a = record { is_open = at.is_open; in_transaction = at.in_transaction; holds = at.holds.1 } in
      let now = p.same clean c inside in
      let same = λ (n i : ℕ). sym (was.bytes n i) ∙ unchanged f.bytes node here zeros c (none clean c inside (was.fits, was.pieces)) empty within n i
      ∙ same_overlay node here zeros (byte_in f.bytes c) w.1.byte was.bytes n i in
      record {
        is_open = now.is_open;
        in_transaction = now.in_transaction;
        holds = (c, now.holds, describes_same w.0 w.1 (zeros_in node here zeros w.1) f.bytes c same (λ n k low. low) (λ n k so. so) was);
      };
}

-- ---- a step after a read

-- the block is there, so what is written in it ends no later
no_later : (here m y k : ℕ) → here / block_bytes * block_bytes < y → here % block_bytes + m ≤ block_bytes → (b : Bool)
    → k * block_bytes < cond b (max y (here + m)) y → k * block_bytes < y
no_later here m y k there within true low = omega (arith, there, within, low)
no_later here m y k there within false low = low

pub zeros_over : (f : File) (node here : ℕ) (zeros : List ℕ) (a d : State)
    → (HasCleanDisk d → (c : Content) → Inside c a → IsSound f.bytes c → true ≡ is_written_in f.bytes c node (here / block_bytes)) → 1 ≤ length zeros
    → here % block_bytes + length zeros ≤ block_bytes → Overlaid f node here zeros a d → Zeroed f node here zeros a d
zeros_over f node here zeros a d found some within q = record {
  stays = q.stays;
  within = q.within;
  turns = λ read clean w at.
      let c = at.holds.0 in
      let inside : Inside c a = record { is_open = at.is_open; in_transaction = at.in_transaction; holds = at.holds.1 } in
      let was = at.holds.2 in
      let here_is = found clean c inside (was.fits, was.pieces) in
      let there = stored_within f.bytes c w.1.ends node (here / block_bytes) was.within was.pieces_within (sym here_is) in
      let is = subst (λ b. IsWrittenAs b (w.1.written node) (here / block_bytes)) (sym here_is) (was.written node (here / block_bytes)) in
      let last = q.turns read clean w at in
      record {
        is_open = last.is_open;
        in_transaction = last.in_transaction;
        holds = (
          last.holds.0,
          last.holds.1,
          describes_same w.0 (overlay_in node here zeros w.1) (zeros_in node here zeros w.1) f.bytes last.holds.0 (λ n i. refl)
              (λ n k low. ends_same w.1.ends there n k low)
              (λ n k so. wrote_same w.1.written is (length zeros) some within (is_written_in f.bytes last.holds.0 n k) n k so) last.holds.2,
        );
      };
}
  where
    -- the block is written already
    wrote_same : (written : ℕ → Option (ℕ → Bool)) → IsWrittenAs true (written node) (here / block_bytes) → (m : ℕ) → 1 ≤ m → here % block_bytes + m ≤ block_bytes
        → (b : Bool) (n k : ℕ) → IsWrittenAs b (wrote_between node (first_touched here) (touched_end here m) written n) k → IsWrittenAs b (written n) k
    wrote_same written is zero low high b n k so = absurd (omega (arith, low))
    wrote_same written is (suc m) low high b n k so = elim (cases_Bool (n == node)) [
      | inr other ↦ rw other at so
      | inl its ↦
          let e : (here + m) / block_bytes ≡ here / block_bytes = omega (arith, high) in
          let one = subst (λ z. IsWrittenAs b (cond (n == node) (option_map (λ p block. (nat_le (here / block_bytes) block && nat_lt block (z + 1)) || p block)
          (written n)) (written n)) k) e so in
          by (written n) (subst (λ z. IsWrittenAs true (written z) (here / block_bytes)) (sym (same_number n node its)) is) (rw its at one)
    ]
      where
        only : (x : ℕ) → (nat_le x k && nat_lt k (x + 1)) ≡ (x == k)
        only x = grind (arith, nat_tests)

        by : (o : Option (ℕ → Bool)) → IsWrittenAs true o (here / block_bytes)
            → IsWrittenAs b (option_map (λ p block. (nat_le (here / block_bytes) block && nat_lt block (here / block_bytes + 1)) || p block) o) k → IsWrittenAs b o k
        by None there so = tt
        by (Some p) there so = elim (cases_Bool ((here / block_bytes) == k)) [
          | inl at ↦
              let m = same_number (here / block_bytes) k at in
              so ∙ ap (λ t. t || p k) (only (here / block_bytes) ∙ at) ∙ subst (λ z. true ≡ p z) m there
          | inr off ↦ so ∙ ap (λ t. t || p k) (only (here / block_bytes) ∙ off)
        ]

    ends_same : (e : ℕ → ℕ) → here / block_bytes * block_bytes < e node → (n k : ℕ) → k * block_bytes < ends_grown node (here + length zeros) e n
        → k * block_bytes < e n
    ends_same e there n k low = elim (cases_Bool (n == node)) [
      | inl its ↦
          let m = same_number n node its in
          no_later here (length zeros) (e n) k (subst (λ z. here / block_bytes * block_bytes < e z) (sym m) there) within (n == node) low
      | inr other ↦ rw other at low
    ]
