-- The piece before a block, which becomes two.
use Rattle.std.proofs.Common.{◌≡◌, ◌≤◌, ◌<◌, ◌⊎◌, ◌+◌, ◌-◌, ◌^◌, ◌==◌, ◌&&◌, inl, inr, ℕ, List, [], nat_lt, filter}
use Rattle.std.proofs.Common.{Bool, true, false, Option, Some, None, Ok, Err, Result, OnOk, OnErr, refl, sym, ap, subst, arith, ◌∙◌}
use Rattle.std.specs.Prelude.{IsTrue}
use Rattle.std.specs.Ordering.{is_eq, is_le, nat_cmp}
use Rattle.std.specs.List.{AllByRecursion, Contains}
use Rattle.std.proofs.lemmas.Bool.{cases_Bool}
use Rattle.std.proofs.lemmas.Bool.Decides.{nat_tests}
use Rattle.sqlite.specs.Effect.{Database}
use Rattle.sqlite.specs.Order.{Row}
use Rattle.sqlite.specs.State.{State, HasCleanDisk}
use Rattle.sqlite.specs.declared.error.Error.{Error}
use Rattle.fuse_data.specs.Extents.{IsWhole}
use Rattle.fuse_data.specs.Laws.{PartsHold}
use Rattle.fuse_keeper.specs.declared.fault.StoreFault.{StoreFault}
use Rattle.fuse_store_tables.specs.declared.pieces.PieceRow.{PieceRow}
use Rattle.fuse_store_tables.specs.declared.version.Layout.{Layout}
use Rattle.fuse_store_tables.specs.declared.version.Layout.TheVariants.{Second, Third}
use Rattle.fuse_store_tables.specs.Pieces.{Piece, shown_piece}
use Rattle.fuse_store_tables.specs.Ranges.{row_of, begins_by, held_pieces, pieces_in, IsLast, ShowsLast}
use Rattle.fuse_store_tables.specs.Content.{Content, HoldsIn, with_piece, without_pieces_between}
use Rattle.fuse_store_tables.specs.Faults.{IsOutside}
use Rattle.fuse_store_tables.specs.Moves.{Inside, LookedInside, Stays, StaysInside, Takes}
use Rattle.fuse_store_tables.specs.inner.Following.{earlier, inside_then, stays_then}
use Rattle.fuse_store_tree.specs.Fits.{KeepsPiece}
use Rattle.fuse_store_tree.specs.Pieces.{end_of}
use Rattle.fuse_store_tree.specs.inner.Reading.{IsSound, IsInFile}
use Rattle.fuse_store_tree.specs.inner.Relisting.{IsCutAt, IsAny, extent_in, HasSums, with_parts, Relists, Split}
use Rattle.fuse_store_tree.specs.inner.Laws.{looked_still}
use Rattle.fuse_store_tree.proofs.PieceSets.{In, in_of, all_in, each_in, in_filter, of_filter, Apart, well_of, apart_others}
use Rattle.fuse_store_tree.proofs.PieceSlots.{pieces_rise}
use Rattle.fuse_store_tree.proofs.Splits.{was_split}
use Rattle.fuse_store_tree.proofs.Outs.{out_none, cut_first, third_in, third_out}

-- ---- the piece before a block

pub split_same : (file : List ℕ) (node block : ℕ) (c : Content) → IsSound file c → IsCutAt node block c.pieces → Split file node block c c
split_same file node block c sound cut = record { same = out_none file c sound; listed = λ b. (λ at. at, λ at. at); cut = cut }

begins_test : (node block : ℕ) (r : Piece) → r.node ≡ node → r.first ≤ block → begins_by node block r ≡ true
begins_test node block r of low = test r.node node r.first block of low
  where
    test : (a b x y : ℕ) → a ≡ b → x ≤ y → (is_eq (nat_cmp a b) && is_le (nat_cmp x y)) ≡ true
    test a b x y same low = grind (arith, nat_tests)

pub record BeginsBy (node block : ℕ) (r : Piece) : Type 0 where
  pub of : r.node ≡ node
  pub low : r.first ≤ block

begins_is : (node block : ℕ) (r : Piece) → begins_by node block r ≡ true → BeginsBy node block r
begins_is node block r is = record { of = number r.node node (is_le (nat_cmp r.first block)) is; low = lower (is_eq (nat_cmp r.node node)) r.first block is }
  where
    number : (a b : ℕ) (t : Bool) → (is_eq (nat_cmp a b) && t) ≡ true → a ≡ b
    number a b t is = grind (arith, nat_tests)

    lower : (t : Bool) (a b : ℕ) → (t && is_le (nat_cmp a b)) ≡ true → a ≤ b
    lower t a b is = grind (arith, nat_tests)

-- those that the tables hold
held_all : (file : List ℕ) (c : Content) → IsSound file c → held_pieces c ≡ c.pieces
held_all file c sound = by c.layout refl
  where
    by : (layout : Layout) → c.layout ≡ layout → held_pieces c ≡ c.pieces
    by Second is = ap (λ l. pieces_in l c.pieces) is ∙ sym (sound.0.no_pieces is)
    by Third is = ap (λ l. pieces_in l c.pieces) is

-- there is no piece before a block
none_before : (file : List ℕ) (node block : ℕ) (c : Content) → 1 ≤ block → IsSound file c → filter (begins_by node (block - 1)) (held_pieces c) ≡ [] → IsCutAt node block c.pieces
none_before file node block c some sound none = each_in (λ p. p.node ≡ node → (end_of p ≤ block) ⊎ (block ≤ p.first)) c.pieces (λ r at of.
    elim (cases_Bool (nat_lt r.first block)) [
      | inr high ↦ inr (upper r.first block high)
      | inl low ↦
          let less = lower r.first block low in
          absurd (subst (In r) (ap (filter (begins_by node (block - 1))) (sym (held_all file c sound)) ∙ none)
          (in_filter (begins_by node (block - 1)) c.pieces r at (begins_test node (block - 1) r of (omega (arith, less)))))
    ])
  where
    lower : (a b : ℕ) → nat_lt a b ≡ true → a < b
    lower a b is = grind (arith, nat_tests)

    upper : (a b : ℕ) → nat_lt a b ≡ false → b ≤ a
    upper a b is = grind (arith, nat_tests)

-- the last one before it
pub record IsBefore (node block : ℕ) (c : Content) (p : Piece) : Type 0 where
  pub at : In p c.pieces
  pub of : p.node ≡ node
  pub low : p.first < block
  pub last : (r : Piece) → In r c.pieces → r.node ≡ node → (r ≡ p) ⊎ ((r.first < p.first) ⊎ (block ≤ r.first))

last_before : (file : List ℕ) (node block : ℕ) (c : Content) (p : Piece) → 1 ≤ block → IsSound file c → IsLast p (filter (begins_by node (block - 1)) (held_pieces c))
    → IsBefore node block c p
last_before file node block c p some sound last =
    let same = held_all file c sound in
    let at = of_filter (begins_by node (block - 1)) c.pieces p (in_of (filter (begins_by node (block - 1)) c.pieces) p
    (subst (λ ps. Contains (filter (begins_by node (block - 1)) ps) p) same last.there)) in
    let begins = begins_is node (block - 1) p at.1 in
    let low = begins.low in
    record {
      at = at.0;
      of = begins.of;
      low = omega (arith, low, some);
      last = λ r there of. elim (cases_Bool (nat_lt r.first block)) [
        | inr high ↦ inr (inr (upper r.first block high))
        | inl less ↦
            let before = lower r.first block less in
            either r (all_in (λ (q : Piece). (q ≡ p) ⊎ (q.first < p.first)) (filter (begins_by node (block - 1)) c.pieces) r
            (subst (λ ps. AllByRecursion (λ (q : Piece). (q ≡ p) ⊎ (q.first < p.first)) (filter (begins_by node (block - 1)) ps)) same last.last)
            (in_filter (begins_by node (block - 1)) c.pieces r there (begins_test node (block - 1) r of (omega (arith, before)))))
      ];
    }
  where
    lower : (a b : ℕ) → nat_lt a b ≡ true → a < b
    lower a b is = grind (arith, nat_tests)

    upper : (a b : ℕ) → nat_lt a b ≡ false → b ≤ a
    upper a b is = grind (arith, nat_tests)

    either : (r : Piece) → (r ≡ p) ⊎ (r.first < p.first) → (r ≡ p) ⊎ ((r.first < p.first) ⊎ (block ≤ r.first))
    either r (inl is) = inl is
    either r (inr less) = inr (inl less)

-- it ends before the block
not_across : (file : List ℕ) (node block : ℕ) (c : Content) (p : Piece) → IsSound file c → IsBefore node block c p → end_of p ≤ block → IsCutAt node block c.pieces
not_across file node block c p sound before ends = each_in (λ p. p.node ≡ node → (end_of p ≤ block) ⊎ (block ≤ p.first)) c.pieces (λ r at of.
    one r of (before.last r at of) (all_in (λ r. (r ≡ p) ⊎ Apart r p) c.pieces r (apart_others file c.pieces p (well_of file c.pieces sound.1) before.at) at))
  where
    itself : (r : Piece) → r ≡ p → (end_of r ≤ block) ⊎ (block ≤ r.first)
    itself r is = inl (let e : end_of r ≡ end_of p = ap end_of is in omega (arith, e, ends))

    beside : (r : Piece) → r.first < p.first → (end_of r ≤ p.first) ⊎ (end_of p ≤ r.first) → (end_of r ≤ block) ⊎ (block ≤ r.first)
    beside r less (inl low) = let first = before.low in inl (omega (arith, low, first))
    beside r less (inr low) = absurd (omega (arith, low, less))

    one : (r : Piece) → r.node ≡ node → (r ≡ p) ⊎ ((r.first < p.first) ⊎ (block ≤ r.first)) → (r ≡ p) ⊎ Apart r p → (end_of r ≤ block) ⊎ (block ≤ r.first)
    one r of (inl is) either = itself r is
    one r of (inr (inr high)) either = inr high
    one r of (inr (inl less)) (inl is) = itself r is
    one r of (inr (inl less)) (inr apart) = beside r less (apart.own (of ∙ sym before.of))

module _ (t : Bool) (file : List ℕ) (node block : ℕ) (some : 1 ≤ block) where
  abbrev Shown : Option Row → State → State → Type 0
  Shown row a b = HasCleanDisk b → (c : Content) → Inside c a → ShowsLast (filter (begins_by node (block - 1)) (held_pieces c)) row

  -- a read, after which no piece reaches over the block's begin
  looked_cut : (a b : State) → LookedInside a b → (HasCleanDisk b → (c : Content) → IsSound file c → Inside c a → IsCutAt node block c.pieces) → Relists t file IsAny (Split file node block) a b
  looked_cut a b looked cut = record {
    stays = looked.stays;
    within = looked.within;
    turns = λ read clean c sound so at. (c, looked.same clean c at, split_same file node block c sound (cut clean c sound at));
  }

  pub none_found : (a b : State) → LookedInside a b → Shown None a b → Relists t file IsAny (Split file node block) a b
  none_found a b looked found = looked_cut a b looked (λ clean c sound at. none_before file node block c some sound (found clean c at))

  module _ (row : Row) (piece : PieceRow) where
    abbrev ReadAs : Type 0
    ReadAs = (p : Piece) → p.node ≡ node → p.sum < 2 ^ 64 → row ≡ shown_piece p → piece ≡ row_of p

    -- the piece of the row
    found_piece : (a b : State) → Shown (Some row) a b → ReadAs → HasCleanDisk b → (c : Content) → IsSound file c → Inside c a
        → (p : Piece) × IsBefore node block c p × (piece ≡ row_of p)
    found_piece a b found read clean c sound at =
        let shown = found clean c at in
        let before = last_before file node block c shown.0 some sound shown.1 in
        (shown.0, before, read shown.0 before.of (all_in KeepsPiece c.pieces shown.0 sound.0.pieces before.at).sum shown.2)

    pub ends_before : (a b : State) → LookedInside a b → Shown (Some row) a b → ReadAs → (block ≤ piece.first) ⊎ (piece.first + piece.count ≤ block)
        → Relists t file IsAny (Split file node block) a b
    ends_before a b looked found read so = looked_cut a b looked (λ clean c sound at.
        let one = found_piece a b found read clean c sound at in
        not_across file node block c one.0 sound one.1 (by one.0 one.1 one.2 so))
      where
        by : {c : Content} (p : Piece) → IsBefore node block c p → piece ≡ row_of p → (block ≤ piece.first) ⊎ (piece.first + piece.count ≤ block) → end_of p ≤ block
        by p before is (inl high) = let e : piece.first ≡ p.first = ap (λ (x : PieceRow). x.first) is in let low = before.low in absurd (omega (arith, e, high, low))
        by p before is (inr low) = let e : piece.first + piece.count ≡ end_of p = ap (λ (x : PieceRow). x.first + x.count) is in omega (arith, e, low)

    -- its parts stand in its place
    pub was_across : {X : Type 0} (laws : PartsHold) (front back : ℕ) (a b d : State) (x : X) → LookedInside a b → Shown (Some row) a b → ReadAs → piece.first < block
        → block < piece.first + piece.count → front < 2 ^ 64 → back < 2 ^ 64 → (IsTrue t → HasSums file piece block front back)
        → Takes {X = X} {E = StoreFault} (HoldsIn Third) (λ c. HoldsIn Third (with_parts piece block front back c)) b d (Ok x) → Relists t file IsAny (Split file node block) a d
    was_across laws front back a b d x looked found read begins ends low_front low_back sums q = record {
      stays = stays_then a b d looked.stays looked.within q.stays;
      within = inside_then a b d looked.within q.stays.survives q.within;
      turns = λ clean_file clean c sound so at.
          let mid = earlier b d _ q.stays.survives clean in
          let one = found_piece a b found read mid c sound at in
          let p = one.0 in
          let third = by c sound p one.1.at in
          let first : p.first < block = subst (λ (y : PieceRow). y.first < block) one.2 begins in
          let last : block < end_of p = subst (λ (y : PieceRow). block < y.first + y.count) one.2 ends in
          let told : HasSums file (row_of p) block front back = subst (λ (y : PieceRow). HasSums file y block front back) one.2 (sums clean_file) in
          let now = q.turns clean c (third_in c b third (looked.same mid c at)) in (
            with_parts piece block front back c,
            third_out (with_parts piece block front back c) d now,
            subst (λ n. Split file n block c (with_parts piece block front back c)) one.1.of (subst (λ y. Split file p.node block c (with_parts y block front back c)) (sym one.2)
                (was_split laws file c sound third (pieces_rise c a.now at.holds third) p one.1.at block front back first last told low_front low_back)),
          );
    }
      where
        by : (c : Content) → IsSound file c → (p : Piece) → In p c.pieces → c.layout ≡ Third
        by c sound p there = layout c.layout refl
          where
            layout : (l : Layout) → c.layout ≡ l → c.layout ≡ Third
            layout Second is = absurd (subst (In p) (sound.0.no_pieces is) there)
            layout Third is = is

    pub across_ok : {X : Type 0} (laws : PartsHold) (front back : ℕ) (a b d : State) (r : Result X StoreFault) → LookedInside a b → Shown (Some row) a b → ReadAs
        → piece.first < block → block < piece.first + piece.count → front < 2 ^ 64 → back < 2 ^ 64 → (IsTrue t → HasSums file piece block front back)
        → Takes (HoldsIn Third) (λ c. HoldsIn Third (with_parts piece block front back c)) b d r → OnOk r (Relists t file IsAny (Split file node block) a d)
    across_ok laws front back a b d (Ok x) looked found read begins ends low_front low_back sums q =
        was_across laws front back a b d x looked found read begins ends low_front low_back sums q
    across_ok laws front back a b d (Err e) looked found read begins ends low_front low_back sums q = tt

    -- its row and its bytes can be read
    pub row_read : (a b : State) (e : StoreFault) → Shown (Some row) a b → HasCleanDisk b → ((p : Piece) → row ≡ shown_piece p → IsOutside e)
        → (c : Content) → Inside c a → IsOutside e
    row_read a b e found clean sure c at = let shown = found clean c at in sure shown.0 shown.2

    pub bytes_read : (a b : State) (e : StoreFault) → Shown (Some row) a b → ReadAs → HasCleanDisk b
        → ((((piece.place == 0) ≡ false) → IsWhole file (extent_in piece)) → IsOutside e) → (c : Content) → IsSound file c → Inside c a → IsOutside e
    bytes_read a b e found read clean sure c sound at =
        let one = found_piece a b found read clean c sound at in
        sure (subst (λ (y : PieceRow). ((y.place == 0) ≡ false) → IsWhole file (extent_in y)) (sym one.2)
        (all_in (IsInFile file) c.pieces one.0 (well_of file c.pieces sound.1).whole one.1.at))

-- where a block is the first, nothing is to be split
pub first_cut : (t : Bool) (file : List ℕ) (node : ℕ) (a : State) → Relists t file IsAny (Split file node 0) a a
first_cut t file node a = record {
  stays = (looked_still a).stays;
  within = (looked_still a).within;
  turns = λ read clean c sound so at. (c, at, split_same file node 0 c sound (cut_first node c.pieces));
}

-- a call that failed after the read
pub across_fails : {X : Type 0} {P Q : Content → Database → Type 0} (a b d : State) (r : Result X StoreFault) → LookedInside a b → Takes P Q b d r → OnErr r (Stays a d)
across_fails a b d (Ok x) looked q = tt
across_fails a b d (Err e) looked q = stays_then a b d looked.stays looked.within q.stays

-- ---- its parts are put in its place

module _ (x front back : PieceRow) (a b d e : State) (gone : Takes {X = Unit {0}} {E = Error} (HoldsIn Third)
    (λ c. HoldsIn Third (without_pieces_between x.node x.first (x.first + 1) c)) a b (Ok tt)) where
  abbrev Put : {X F : Type 0} → PieceRow → State → State → Result X F → Type 0
  Put y s t r = Takes (HoldsIn Third) (λ c. HoldsIn Third (with_piece y c)) s t r

  pub first_fails : Stays b d → Stays a d
  first_fails q = stays_then a b d gone.stays gone.within q

  module _ (first : Put {X = Unit {0}} {F = Error} front b d (Ok tt)) where
    first_stays : Stays a d
    first_stays = stays_then a b d gone.stays gone.within first.stays

    first_within : StaysInside a d
    first_within = inside_then a b d gone.within first.stays.survives first.within

    pub last_fails : Stays d e → Stays a e
    last_fails q = stays_then a d e first_stays first_within q

    as_given : Put {X = Unit {0}} {F = Error} back d e (Ok tt)
        → Takes {X = Unit {0}} {E = StoreFault} (HoldsIn Third)
        (λ c. HoldsIn Third (with_piece back (with_piece front (without_pieces_between x.node x.first (x.first + 1) c)))) a e (Ok tt)
    as_given last = record {
      stays = stays_then a d e first_stays first_within last.stays;
      within = inside_then a d e first_within last.stays.survives last.within;
      turns = λ clean c at.
          let late = earlier d e _ last.stays.survives clean in
          let early = earlier b d _ first.stays.survives late in
          let one = gone.turns early c at in
          let two = first.turns late (without_pieces_between x.node x.first (x.first + 1) c) one in
          last.turns clean (with_piece front (without_pieces_between x.node x.first (x.first + 1) c)) two;
    }

    pub parts_put : (f l : PieceRow) → front ≡ f → back ≡ l → Put {X = Unit {0}} {F = Error} back d e (Ok tt)
        → Takes {X = Unit {0}} {E = StoreFault} (HoldsIn Third)
        (λ c. HoldsIn Third (with_piece l (with_piece f (without_pieces_between x.node x.first (x.first + 1) c)))) a e (Ok tt)
    parts_put f l first_is last_is last =
        let made : PieceRow → PieceRow → Type 0 = λ y z. Takes {X = Unit {0}} {E = StoreFault} (HoldsIn Third)
        (λ c. HoldsIn Third (with_piece z (with_piece y (without_pieces_between x.node x.first (x.first + 1) c)))) a e (Ok tt) in
        subst (λ y. made y l) first_is (subst (λ z. made front z) last_is (as_given last))
