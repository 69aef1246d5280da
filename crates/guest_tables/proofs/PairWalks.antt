-- A scan goes on page by page, and its end is what PAIRS lists.
use Rattle.std.proofs.Common.{◌≡◌, ◌<◌, ◌≤◌, ◌+◌, ◌==◌, ℕ, Bool, true, false, not, List, [], ◌∷◌, ◌++◌, map, take, drop, reverse, length, refl, sym, ap, subst, arith, ◌∙◌}
use Rattle.std.specs.Prelude.{nat_lt}
use Rattle.std.proofs.lemmas.Bool.Decides.{nat_tests}
use Rattle.std.proofs.lemmas.List.{append_assoc, length-append, length-take, map-append, take-append-drop, take_all}
use Rattle.sqlite_trees.proofs.ListLemmas.{filter_same, all_of}
use Rattle.guest_frames.specs.Frames.{PairContent, ScanContent}
use Rattle.fuse_guest.specs.Pairs.{Pairs, is_in_range, pairs_within}
use Rattle.fuse_guest.specs.Telling.{bare_if, turned_if, scanned, pairs_told}
use Rattle.guest_tables.specs.declared.owned_pair.OwnedPair.{OwnedPair}
use Rattle.guest_tables.specs.declared.owned_pair.PairPage.{PairPage}
use Rattle.guest_tables.specs.declared.slices.Cursor.{Cursor}
use Rattle.guest_tables.specs.declared.scans.Walk.{Walk}
use Rattle.guest_tables.specs.Scanned.{owned_content, owned_contents, ShowsScan}
use Rattle.guest_tables.specs.inner.Slices.{is_in_slice, slice_of, next_key, left_at, bare_left, whole_room, taken, room_after, so_far, TakesOf, MovesOn}
use Rattle.guest_tables.specs.inner.Walks.{IsAt, IsOver}
use Rattle.guest_tables.proofs.PairOrder.{Rises}
use Rattle.guest_tables.proofs.PairPages.{after_up, after_down}
use Rattle.guest_tables.proofs.PairRows.{no_bound, some_bound}
use Rattle.guest_tables.proofs.PairTaking.{taken_told, taken_on, taken_short}

-- ---- at its first pair

in_range : (to : List ℕ) (from key : List ℕ) → is_in_slice (not (length to == 0)) from to key ≡ is_in_range from to key
in_range [] from key = no_bound from key
in_range (t ∷ to) from key = some_as (length (t ∷ to) == 0) refl
  where
    none : (n : ℕ) → 1 ≤ n → (n == 0) ≡ false
    none n some = grind (arith, nat_tests)

    some_as : (b : Bool) → (length (t ∷ to) == 0) ≡ b → is_in_slice (not (length (t ∷ to) == 0)) from (t ∷ to) key ≡ is_in_range from (t ∷ to) key
    some_as b is =
        let off = none (length (t ∷ to)) (omega arith) in
        ap (λ x. is_in_slice (not x) from (t ∷ to) key) off ∙ some_bound from (t ∷ to) key off

whole_slice : (from to : List ℕ) (ps : Pairs) → slice_of (not (length to == 0)) from to ps ≡ pairs_within from to ps
whole_slice from to ps =
    filter_same (λ (p : PairContent). is_in_slice (not (length to == 0)) from to p.key) (λ p. is_in_range from to p.key) ps
    (all_of (λ (p : PairContent). is_in_slice (not (length to == 0)) from to p.key ≡ is_in_range from to p.key) (λ p. in_range to from p.key) ps)

pub at_first : (s : ScanContent) (ps : Pairs) (w : Walk) → w.at.from.items ≡ s.from → w.at.to.items ≡ s.to → w.at.is_bounded ≡ not (length s.to == 0)
    → w.held.pairs.items ≡ [] → w.held.room ≡ whole_room → IsAt s ps w
at_first s ps w from to bounded none room =
    let left : bare_left s.keys_alone s.downwards w.at ps ≡ scanned s ps =
    ap (λ b. map (bare_if s.keys_alone) (turned_if s.downwards (slice_of b w.at.from.items w.at.to.items ps))) bounded
    ∙ ap (λ f. map (bare_if s.keys_alone) (turned_if s.downwards (slice_of (not (length s.to == 0)) f w.at.to.items ps))) from
    ∙ ap (λ t. map (bare_if s.keys_alone) (turned_if s.downwards (slice_of (not (length s.to == 0)) s.from t ps))) to
    ∙ ap (λ l. map (bare_if s.keys_alone) (turned_if s.downwards l)) (whole_slice s.from s.to ps) in
    record {
      first = ap (λ l. owned_contents l ++ bare_left s.keys_alone s.downwards w.at ps) none ∙ left;
      goes_on = ap (taken s.limit 0 whole_room) (sym left)
          ∙ ap (λ r. taken s.limit 0 r (bare_left s.keys_alone s.downwards w.at ps)) (sym room)
          ∙ ap (λ l. owned_contents l ++ taken s.limit (length (owned_contents l)) w.held.room (bare_left s.keys_alone s.downwards w.at ps)) (sym none);
    }

-- ---- the last pair of a page

pub split_last : {X Y : Type 0} (f : X → Y) (xs : List X) (ys : List Y) (y : Y) → map f xs ≡ ys ++ y ∷ []
    → (front : List X) × (last : X) × (xs ≡ front ++ last ∷ []) × (f last ≡ y)
split_last f [] [] y is = absurd cc
split_last f [] (z ∷ ys) y is = absurd cc
split_last f (x ∷ []) [] y is = ([], x, refl, (let same : f x ≡ y = cc in same))
split_last f (x ∷ w ∷ xs) [] y is = absurd (let none : ◌≡◌ {A = List _} (f w ∷ map f xs) [] = cc in cc)
split_last f (x ∷ xs) (z ∷ ys) y is =
    let rest : map f xs ≡ ys ++ y ∷ [] = cc in
    let more = split_last f xs ys y rest in
    (x ∷ more.0, more.1, ap (λ l. x ∷ l) more.2, more.3)

has_last : {X : Type 0} (xs : List X) → 1 ≤ length xs → (front : List X) × (last : X) × (xs ≡ front ++ last ∷ [])
has_last [] some = absurd (omega (arith, some))
has_last (x ∷ []) some = ([], x, refl)
has_last (x ∷ y ∷ xs) some = let more = has_last (y ∷ xs) (omega arith) in (x ∷ more.0, more.1, ap (λ l. x ∷ l) more.2)

bare_key : (b : Bool) (p : PairContent) → (bare_if b p).key ≡ p.key
bare_key true p = refl
bare_key false p = refl

left_after : (downwards : Bool) (old new : Cursor) (ps xs : Pairs) (p : PairContent) (ys : Pairs) → Rises ps → MovesOn downwards p.key old new
    → left_at downwards old ps ≡ (xs ++ p ∷ []) ++ ys → left_at downwards new ps ≡ ys
left_after false old new ps xs p ys up moves are =
    ap (λ b. slice_of b new.from.items new.to.items ps) moves.2 ∙ ap (λ f. slice_of old.is_bounded f new.to.items ps) moves.0
    ∙ ap (λ t. slice_of old.is_bounded (next_key p.key) t ps) moves.1 ∙ after_up old.is_bounded old.from.items old.to.items ps xs p ys up are
left_after true old new ps xs p ys up moves are =
    ap (λ b. reverse (slice_of b new.from.items new.to.items ps)) moves.2 ∙ ap (λ f. reverse (slice_of true f new.to.items ps)) moves.0
    ∙ ap (λ t. reverse (slice_of true old.from.items t ps)) moves.1 ∙ after_down old.is_bounded old.from.items old.to.items ps xs p ys up are

-- ---- one page: n rows, or all that are left

module _ (s : ScanContent) (ps : Pairs) (up : Rises ps) (old new : Walk) (n : ℕ) where
  abbrev left : Pairs
  left = left_at s.downwards old.at ps

  abbrev page : List PairContent
  page = map (bare_if s.keys_alone) (take n left)

  abbrev rest : List PairContent
  rest = map (bare_if s.keys_alone) (drop n left)

  abbrev count : ℕ
  count = length (so_far old.held)

  in_two : bare_left s.keys_alone s.downwards old.at ps ≡ page ++ rest
  in_two = ap (map (bare_if s.keys_alone)) (sym (take-append-drop n left)) ∙ map-append (bare_if s.keys_alone) (take n left) (drop n left)

  abbrev more_of : List PairContent
  more_of = taken s.limit count old.held.room page

  -- a pair of the page isn't taken
  pub stops : TakesOf s.limit page old.held new.held false → new.held.more ≡ true → IsAt s ps old → IsOver s ps new
  stops takes more is = record {
    pairs = is.goes_on ∙ ap (λ l. so_far old.held ++ taken s.limit count old.held.room l) in_two
        ∙ ap (λ l. so_far old.held ++ l) (taken_short s.limit count old.held.room page rest takes.whole) ∙ sym takes.takes.pairs;
    more = more ∙ sym (below (length (so_far new.held)) (length (scanned s ps)) (omega (
      arith,
      takes.whole,
      ap length takes.takes.pairs,
      length-append (so_far old.held) more_of,
      ap length (sym is.first ∙ ap (λ l. so_far old.held ++ l) in_two),
      length-append (so_far old.held) (page ++ rest),
      length-append page rest,
    )));
  }
    where
      below : (a b : ℕ) → a < b → nat_lt a b ≡ true
      below a b low = grind (arith, nat_tests)

  whole_page : TakesOf s.limit page old.held new.held true → so_far new.held ≡ so_far old.held ++ page
  whole_page takes = takes.takes.pairs ∙ ap (λ l. so_far old.held ++ l) takes.whole

  -- all of it is taken, and nothing follows
  pub ends : TakesOf s.limit page old.held new.held true → length (take n left) < n → new.held.more ≡ false → IsAt s ps old → IsOver s ps new
  ends takes short more is =
      let all : take n left ≡ left = take_all n left (omega (arith, short, length-take n left)) in
      let bare : page ≡ bare_left s.keys_alone s.downwards old.at ps = ap (map (bare_if s.keys_alone)) all in
      let same : so_far new.held ≡ scanned s ps = whole_page takes ∙ ap (λ l. so_far old.held ++ l) bare ∙ is.first in
      record {
        pairs = is.goes_on ∙ ap (λ l. so_far old.held ++ taken s.limit count old.held.room l) (sym bare) ∙ ap (λ l. so_far old.held ++ l) takes.whole
            ∙ sym (whole_page takes);
        more = more ∙ sym (ap (λ l. nat_lt (length l) (length (scanned s ps))) same ∙ not_below (length (scanned s ps)));
      }
    where
      not_below : (a : ℕ) → nat_lt a a ≡ false
      not_below a = grind (arith, nat_tests)

  -- all of it is taken, and the cursor stands after it
  pub goes : TakesOf s.limit page old.held new.held true → 1 ≤ length (take n left)
      → ((front : List OwnedPair) (last : OwnedPair) → new.held.pairs.items ≡ front ++ last ∷ [] → MovesOn s.downwards last.key.items old.at new.at)
      → IsAt s ps old → IsAt s ps new
  goes takes some moves is =
      let end = has_last (take n left) some in
      let p = end.1 in
      let bare : page ≡ map (bare_if s.keys_alone) end.0 ++ bare_if s.keys_alone p ∷ [] =
      ap (map (bare_if s.keys_alone)) end.2 ∙ map-append (bare_if s.keys_alone) end.0 (p ∷ []) in
      let held : map owned_content new.held.pairs.items ≡ (so_far old.held ++ map (bare_if s.keys_alone) end.0) ++ bare_if s.keys_alone p ∷ [] =
      whole_page takes ∙ ap (λ l. so_far old.held ++ l) bare ∙ sym (append_assoc (so_far old.held) (map (bare_if s.keys_alone) end.0) (bare_if s.keys_alone p ∷ [])) in
      let last = split_last owned_content new.held.pairs.items (so_far old.held ++ map (bare_if s.keys_alone) end.0) (bare_if s.keys_alone p) held in
      let key : last.1.key.items ≡ p.key = ap (λ (q : PairContent). q.key) last.3 ∙ bare_key s.keys_alone p in
      let moved : MovesOn s.downwards p.key old.at new.at = subst (λ k. MovesOn s.downwards k old.at new.at) key (moves last.0 last.1 last.2) in
      let after : left_at s.downwards new.at ps ≡ drop n left =
      left_after s.downwards old.at new.at ps end.0 p (drop n left) up moved
      (sym (take-append-drop n left) ∙ ap (λ l. l ++ drop n left) end.2) in
      let bare_after : bare_left s.keys_alone s.downwards new.at ps ≡ rest = ap (map (bare_if s.keys_alone)) after in
      let counts : count + length page ≡ length (so_far new.held) =
      sym (ap length (whole_page takes) ∙ length-append (so_far old.held) page) in
      let room : room_after old.held.room page ≡ new.held.room = ap (room_after old.held.room) (sym takes.whole) ∙ sym takes.takes.room in
      record {
        first = ap (λ l. so_far new.held ++ l) bare_after ∙ ap (λ l. l ++ rest) (whole_page takes) ∙ append_assoc (so_far old.held) page rest
            ∙ ap (λ l. so_far old.held ++ l) (sym in_two) ∙ is.first;
        goes_on = is.goes_on ∙ ap (λ l. so_far old.held ++ taken s.limit count old.held.room l) in_two
            ∙ ap (λ l. so_far old.held ++ l) (taken_on s.limit count old.held.room page rest takes.whole)
            ∙ sym (append_assoc (so_far old.held) page (taken s.limit (count + length page) (room_after old.held.room page) rest))
            ∙ ap (λ l. l ++ taken s.limit (count + length page) (room_after old.held.room page) rest) (sym (whole_page takes))
            ∙ ap (λ m. so_far new.held ++ taken s.limit m (room_after old.held.room page) rest) counts
            ∙ ap (λ r. so_far new.held ++ taken s.limit (length (so_far new.held)) r rest) room
            ∙ ap (λ l. so_far new.held ++ taken s.limit (length (so_far new.held)) new.held.room l) (sym bare_after);
      }

-- ---- at its end

pub shows_scan : (s : ScanContent) (ps : Pairs) (w : Walk) (page : PairPage) → page.pairs.items ≡ w.held.pairs.items → page.more ≡ w.held.more
    → IsOver s ps w → ShowsScan ps s page
shows_scan s ps w page pairs more over =
    let told : owned_contents page.pairs.items ≡ pairs_told ps s = ap owned_contents pairs ∙ sym over.pairs ∙ taken_told s.limit (scanned s ps) in
    record {
      pairs = told;
      more = more ∙ over.more ∙ ap (λ l. nat_lt (length l) (length (scanned s ps))) (sym over.pairs ∙ taken_told s.limit (scanned s ps));
    }
