-- The pair that a row shows, and whether it is taken.
use Rattle.std.proofs.Common.{◌≡◌, ◌<◌, ◌≤◌, ◌+◌, ◌-◌, ◌==◌, ◌&&◌, ◌||◌, ℕ, Bool, true, false, List, [], ◌∷◌, ◌++◌, map, take, drop, cond, length, get_or, Ok, Err, Result, IfErr, IsErrAnd, refl, sym, ap, subst, arith, ◌∙◌}
use Rattle.std.specs.Prelude.{nat_le, nat_lt}
use Rattle.std.proofs.lemmas.Bool.Decides.{nat_tests}
use Rattle.std.proofs.lemmas.List.{append_assoc, append-nil, length-append, length-map, length-take-le, take_more, take_all, get_or-map, take-append-drop, drop_more}
use Rattle.sqlite.specs.declared.types.Value.TheVariants.{Blob}
use Rattle.sqlite.specs.Order.{Row, column}
use Rattle.fuse_keeper.specs.declared.fault.StoreFault.{StoreFault}
use Rattle.fuse_store_tables.specs.Faults.{IsOutside}
use Rattle.guest_frames.specs.Frames.{PairContent}
use Rattle.fuse_guest.specs.Telling.{bare_if, pair_size}
use Rattle.guest_tables.specs.declared.owned_pair.OwnedPair.{OwnedPair}
use Rattle.guest_tables.specs.declared.taking.Taken.{Taken}
use Rattle.guest_tables.specs.Scanned.{owned_content}
use Rattle.guest_tables.specs.inner.Slices.{shown_pair, is_taken, taken, room_after, so_far, TakesMore, TakesPair, TakesOf}
use Rattle.guest_tables.proofs.PairTaking.{taken_on}

pub same_bytes : (a b : List ℕ) → Blob a ≡ Blob b → a ≡ b
same_bytes a b is = cc

-- ---- the columns of a row

pub key_in : (k : Bool) (row : Row) (p : PairContent) (v : List ℕ) → row ≡ shown_pair k p → column row 0 ≡ Blob v → v ≡ p.key
key_in true row p v is shows = same_bytes v p.key (sym shows ∙ ap (λ r. column r 0) is)
key_in false row p v is shows = same_bytes v p.key (sym shows ∙ ap (λ r. column r 0) is)

pub key_out : (k : Bool) (row : Row) (p : PairContent) (f : StoreFault) → ((l : List ℕ) → 0 < length row → column row 0 ≡ Blob l → IsOutside f)
    → row ≡ shown_pair k p → IsOutside f
key_out true row p f out is = out p.key (subst (λ r. 0 < length r) (sym is) (omega arith)) (ap (λ r. column r 0) is)
key_out false row p f out is = out p.key (subst (λ r. 0 < length r) (sym is) (omega arith)) (ap (λ r. column r 0) is)

pub no_value : (k : Bool) (p : PairContent) → k ≡ true → [] ≡ (bare_if k p).value
no_value k p is = rw is refl

pub value_in : (k : Bool) (row : Row) (p : PairContent) (v : List ℕ) → k ≡ false → row ≡ shown_pair k p → column row 1 ≡ Blob v → v ≡ (bare_if k p).value
value_in true row p v off is shows = absurd cc
value_in false row p v off is shows = same_bytes v p.value (sym shows ∙ ap (λ r. column r 1) is)

pub value_out : (k : Bool) (row : Row) (p : PairContent) (f : StoreFault) → k ≡ false
    → ((l : List ℕ) → 1 < length row → column row 1 ≡ Blob l → IsOutside f) → row ≡ shown_pair k p → IsOutside f
value_out true row p f off out is = absurd cc
value_out false row p f off out is = out p.value (subst (λ r. 1 < length r) (sym is) (omega arith)) (ap (λ r. column r 1) is)

pub bare_of : (k : Bool) (p : PairContent) (x : OwnedPair) → x.key.items ≡ p.key → x.value.items ≡ (bare_if k p).value → owned_content x ≡ bare_if k p
bare_of true p x keys values = λ i. record { key = keys i; value = values i }
bare_of false p x keys values = λ i. record { key = keys i; value = values i }

-- ---- one pair

abbrev may_take : ℕ → ℕ → ℕ → ℕ → Bool
may_take limit count room size = ((limit == 0) || nat_lt count limit) && (nat_lt 0 room && ((count == 0) || nat_le size room))

pub told_taken : (limit n : ℕ) (p : PairContent) (held : Taken) (size : ℕ) (b : Bool) → size ≡ pair_size p → n ≡ length held.pairs.items
    → b ≡ may_take limit n held.room size → is_taken limit (length (so_far held)) held.room p ≡ b
told_taken limit n p held size b sized counts is =
    ap (λ m. may_take limit m held.room (pair_size p)) (length-map held.pairs.items owned_content ∙ sym counts)
    ∙ ap (may_take limit n held.room) (sym sized) ∙ sym is

-- the same pair, and what was said of it
pub taken_as : (limit : ℕ) (q p : PairContent) (old new : Taken) (b d : Bool) → q ≡ p → b ≡ d → TakesPair limit q old new b → TakesPair limit p old new d
taken_as limit q p old new b d same is took =
    subst (λ x. TakesPair limit x old new d) same (subst (λ x. TakesPair limit q old new x) is took)

-- ---- rows one after another

-- so many rows of a page were taken
pub record TookRows (limit at : ℕ) (page : List PairContent) (old new : Taken) : Type 0 where
  pub takes : TakesMore (take at page) old new
  pub all : taken limit (length (so_far old)) old.room (take at page) ≡ take at page

room_last : (room : ℕ) (ps : List PairContent) (p : PairContent) → room_after room (ps ++ p ∷ []) ≡ room_after room ps - pair_size p
room_last room [] p = refl
room_last room (q ∷ ps) p = room_last (room - pair_size q) ps p

take_nil : (page : List PairContent) → take 0 page ≡ []
take_nil page = refl

pub none_yet : (limit : ℕ) (page : List PairContent) (old : Taken) → TookRows limit 0 page old old
none_yet limit page old = record {
  takes = record { pairs = sym (append-nil (so_far old)); room = refl };
  all = refl;
}

counts_after : (old new : Taken) (some : List PairContent) → TakesMore some old new → length (so_far old) + length some ≡ length (so_far new)
counts_after old new some takes = sym (ap length takes.pairs ∙ length-append (so_far old) some)

-- the next one
next_is : (limit : ℕ) (p : PairContent) (some : List PairContent) (old mid : Taken) → TakesMore some old mid
    → is_taken limit (length (so_far mid)) mid.room p ≡ is_taken limit (length (so_far old) + length some) (room_after old.room some) p
next_is limit p some old mid takes =
    ap (λ n. is_taken limit n mid.room p) (sym (counts_after old mid some takes))
    ∙ ap (λ r. is_taken limit (length (so_far old) + length some) r p) takes.room

taken_next : (limit : ℕ) (p : PairContent) (some later : List PairContent) (old mid : Taken) (b : Bool) → TakesMore some old mid
    → taken limit (length (so_far old)) old.room some ≡ some → is_taken limit (length (so_far mid)) mid.room p ≡ b
    → taken limit (length (so_far old)) old.room (some ++ p ∷ later)
    ≡ some ++ cond b (p ∷ taken limit (length (so_far old) + length some + 1) (room_after old.room some - pair_size p) later) []
taken_next limit p some later old mid b takes all is =
    taken_on limit (length (so_far old)) old.room some (p ∷ later) all
    ∙ ap (λ x. some ++ cond x (p ∷ taken limit (length (so_far old) + length some + 1) (room_after old.room some - pair_size p) later) [])
    (sym (next_is limit p some old mid takes) ∙ is)

one_more : (limit : ℕ) (p : PairContent) (some : List PairContent) (old mid new : Taken) → TakesMore some old mid
    → taken limit (length (so_far old)) old.room some ≡ some → TakesPair limit p mid new true
    → TakesMore (some ++ p ∷ []) old new × (taken limit (length (so_far old)) old.room (some ++ p ∷ []) ≡ some ++ p ∷ [])
one_more limit p some old mid new takes all took = (
  record {
    pairs = took.1.pairs ∙ ap (λ l. l ++ p ∷ []) takes.pairs ∙ append_assoc (so_far old) some (p ∷ []);
    room = took.1.room ∙ ap (λ r. r - pair_size p) takes.room ∙ sym (room_last old.room some p);
  },
  taken_next limit p some [] old mid true takes all took.0,
)

pub took_more : (limit at : ℕ) (page : List PairContent) (p : PairContent) (old mid new : Taken) → at < length page → p ≡ get_or page at p
    → TookRows limit at page old mid → TakesPair limit p mid new true → TookRows limit (at + 1) page old new
took_more limit at page p old mid new low is before took =
    let next : take (at + 1) page ≡ take at page ++ p ∷ [] = take_more page at p low ∙ ap (λ q. take at page ++ q ∷ []) (sym is) in
    let both = one_more limit p (take at page) old mid new before.takes before.all took in
    record {
      takes = subst (λ l. TakesMore l old new) (sym next) both.0;
      all = subst (λ l. taken limit (length (so_far old)) old.room l ≡ l) (sym next) both.1;
    }

split_at : (page : List PairContent) (at : ℕ) (p : PairContent) → at < length page → p ≡ get_or page at p
    → page ≡ take at page ++ p ∷ drop (at + 1) page
split_at page at p low is =
    sym (take-append-drop at page) ∙ ap (λ l. take at page ++ l) (drop_more page at p low)
    ∙ ap (λ q. take at page ++ q ∷ drop (at + 1) page) (sym is)

-- one that isn't taken
pub took_less : (limit at : ℕ) (page : List PairContent) (p : PairContent) (old mid new : Taken) → at < length page → p ≡ get_or page at p
    → TookRows limit at page old mid → TakesPair limit p mid new false → TakesOf limit page old new false
took_less limit at page p old mid new low is before took =
    let later = drop (at + 1) page in
    let some = take at page in
    let stops : taken limit (length (so_far old)) old.room page ≡ some =
    ap (taken limit (length (so_far old)) old.room) (split_at page at p low is)
    ∙ taken_next limit p some later old mid false before.takes before.all took.0 ∙ append-nil some in
    record {
      takes = record {
        pairs = took.1 ∙ before.takes.pairs ∙ ap (λ l. so_far old ++ l) (sym stops);
        room = took.2 ∙ before.takes.room ∙ ap (room_after old.room) (sym stops);
      };
      whole = subst (λ l. length l < length page) (sym stops) (omega (arith, low, length-take-le at page (omega (arith, low))));
    }

pub took_all : (limit at : ℕ) (page : List PairContent) (old new : Taken) → length page ≤ at → TookRows limit at page old new → TakesOf limit page old new true
took_all limit at page old new high before =
    let all : take at page ≡ page = take_all at page high in
    let whole : taken limit (length (so_far old)) old.room page ≡ page = subst (λ l. taken limit (length (so_far old)) old.room l ≡ l) all before.all in
    record {
      takes = record {
        pairs = before.takes.pairs ∙ ap (λ l. so_far old ++ l) (all ∙ sym whole);
        room = before.takes.room ∙ ap (room_after old.room) (all ∙ sym whole);
      };
      whole = whole;
    }

-- a pair that is taken leaves less room
pub less_room : (limit : ℕ) (p : PairContent) (old new : Taken) → TakesPair limit p old new true → new.room < old.room
less_room limit p old new took =
    let some : nat_lt 0 old.room ≡ true = room_of (length (so_far old)) took.0 in
    omega (arith, took.1.room, above old.room some)
  where
    and_left : (a b : Bool) → (a && b) ≡ true → a ≡ true
    and_left true b is = refl
    and_left false b is = absurd cc

    and_right : (a b : Bool) → (a && b) ≡ true → b ≡ true
    and_right true b is = is
    and_right false b is = absurd cc

    room_of : (count : ℕ) → is_taken limit count old.room p ≡ true → nat_lt 0 old.room ≡ true
    room_of count is =
        and_left (nat_lt 0 old.room) ((count == 0) || nat_le (pair_size p) old.room)
        (and_right ((limit == 0) || nat_lt count limit) (nat_lt 0 old.room && ((count == 0) || nat_le (pair_size p) old.room)) is)

    above : (n : ℕ) → nat_lt 0 n ≡ true → 0 < n
    above n is = grind (arith, nat_tests)

-- ---- the rows of a page

-- the pair of a row
pub row_at : (k : Bool) (rows : List Row) (at : ℕ) (row : Row) (page : List PairContent) → rows ≡ map (shown_pair k) page → at < length rows → row ≡ get_or rows at row
    → (p : PairContent) × (row ≡ shown_pair k p) × (bare_if k p ≡ get_or (map (bare_if k) page) at (bare_if k p)) × (at < length (map (bare_if k) page))
row_at k rows at row page are low is =
    let none : PairContent = record { key = []; value = [] } in
    let p = get_or page at none in
    let low_page : at < length page = omega (arith, low, ap length are, length-map page (shown_pair k)) in (
      p,
      is ∙ ap (λ l. get_or l at row) are ∙ get_or-map (shown_pair k) page at none row low_page,
      sym (get_or-map (bare_if k) page at none (bare_if k p) low_page),
      omega (arith, low_page, length-map page (bare_if k)),
    )

-- what `?` returns of a row that isn't read
pub told_page : {Y : Type 0} (k : Bool) (rows : List Row) (e : StoreFault) (r : Result Y StoreFault) → IsErrAnd r (λ f. f ≡ e)
    → ((page : List PairContent) → rows ≡ map (shown_pair k) page → IsOutside e)
    → IfErr r (λ f. (page : List PairContent) → rows ≡ map (shown_pair k) page → IsOutside f)
told_page k rows e (Ok y) same out = absurd same
told_page k rows e (Err f) same out = λ page are. subst IsOutside (sym same) (out page are)

-- the same pairs and room, whatever more says
pub retold : (limit bound : ℕ) (page : List PairContent) (old new other : Taken) (b d : Bool) → limit ≡ bound → b ≡ d → so_far other ≡ so_far new
    → other.room ≡ new.room → TakesOf limit page old new b → TakesOf bound page old other d
retold limit bound page old new other b d limits is pairs room took =
    let t = subst (λ x. TakesOf x page old new d) limits (subst (λ x. TakesOf limit page old new x) is took) in
    record { takes = record { pairs = pairs ∙ t.takes.pairs; room = room ∙ t.takes.room }; whole = t.whole }
