-- The entries of a directory, of a state and of its rows.
use Rattle.std.proofs.Common.{◌≡◌, ◌<◌, ◌≤◌, ◌&&◌, ◌==◌, ℕ, true, false, cond, eqb, nat_lt, List, [], ◌∷◌, ◌++◌, map, refl, ap, ◌∙◌, arith}
use Rattle.std.specs.Prelude.{filter}
use Rattle.std.specs.List.{AllByRecursion}
use Rattle.std.proofs.lemmas.List.Elements.{filter-append}
use Rattle.fuse_answer.specs.Entries.{DirectoryEntry, IsNamed, packed_len}
use Rattle.fuse_rows.specs.declared.rows.EntryRow.{EntryRow}
use Rattle.fuse_tree.specs.State.{State, Shape, Apart, IsEntry, AreApart}
use Rattle.fuse_rows.specs.Rows.{is_after}
use Rattle.fuse_tree.specs.Listing.{dots, above_or_root, told_entry, entries_in, is_following, entries_following, ListingIsLongest}
use Rattle.fuse_plan.proofs.Lists.{all_more, all_kept, apart_filtered}
use Rattle.fuse_plan.proofs.Shown.{name_fits}
use Rattle.fuse_plan.proofs.Prefixes.{longest}

-- ---- those after an offset

told_after : (s : State) (dir offset : ℕ) (es : List EntryRow)
    → filter (is_following offset) (map (told_entry s) (filter (λ e. e.dir == dir) es)) ≡ map (told_entry s) (filter (is_after dir offset) es)
told_after s dir offset [] = refl
told_after s dir offset (e ∷ es) =
    let rest = told_after s dir offset es in
    let told : List EntryRow → List DirectoryEntry = map (told_entry s) in
    let here : List EntryRow = filter (λ x. x.dir == dir) es in
    let after : List EntryRow = filter (is_after dir offset) es in
    elim (eqb e.dir dir) as (λ b. filter (is_following offset) (told (cond b (e ∷ here) here)) ≡ told (cond (b && nat_lt offset e.cookie) (e ∷ after) after)) [
      | true ↦ elim (nat_lt offset e.cookie) as
          (λ b. cond b (told_entry s e ∷ filter (is_following offset) (told here)) (filter (is_following offset) (told here)) ≡ told (cond b (e ∷ after) after)) [
            | true ↦ ap (λ (xs : List DirectoryEntry). told_entry s e ∷ xs) rest
            | false ↦ rest
          ]
      | false ↦ rest
    ]

-- the dots and the entries after the offset
pub all_after : (s : State) (dir offset : ℕ)
    → entries_following s dir offset ≡ filter (is_following offset) (dots dir (above_or_root s dir)) ++ map (told_entry s) (filter (is_after dir offset) s.entries)
all_after s dir offset =
    filter-append (is_following offset) (dots dir (above_or_root s dir)) (map (told_entry s) (filter (λ e. e.dir == dir) s.entries))
    ∙ ap (λ (xs : List DirectoryEntry). filter (is_following offset) (dots dir (above_or_root s dir)) ++ xs) (told_after s dir offset s.entries)

-- ---- their names

all_told : (s : State) (es : List EntryRow) → AllByRecursion (λ e. IsNamed (told_entry s e)) es → AllByRecursion IsNamed (map (told_entry s) es)
all_told s [] all = tt
all_told s (e ∷ es) all = (all.0, all_told s es all.1)

-- of a directory in a tree, each entry has a name
pub all_named : (s : State) (dir offset : ℕ) → Shape s → AllByRecursion IsNamed (entries_following s dir offset)
all_named s dir offset tree =
    let each : AllByRecursion (λ e. IsNamed (told_entry s e)) s.entries =
    all_more (IsEntry s.nodes s.entries s.next_cookie) (λ e. IsNamed (told_entry s e)) s.entries
    (λ e p. let fits = name_fits e.name p.name in (fits.some, fits.short)) tree.entries in
    all_kept IsNamed (is_following offset) (entries_in s dir)
    ((omega arith, omega arith), ((omega arith, omega arith), all_told s _ (all_kept (λ e. IsNamed (told_entry s e)) (λ e. e.dir == dir) s.entries each)))

-- ---- the law

apart_told : (s : State) (es : List EntryRow) → Apart AreApart es → Apart (λ e later. e.off < later.off) (map (told_entry s) es)
apart_told s [] apart = tt
apart_told s (e ∷ es) apart = (later es apart.0, apart_told s es apart.1)
  where
    later : (fs : List EntryRow) → AllByRecursion (AreApart e) fs → AllByRecursion (λ x. e.cookie < x.off) (map (told_entry s) fs)
    later [] all = tt
    later (f ∷ fs) all = (all.0.cookie, later fs all.1)

-- the dots come first
all_above : (s : State) (n : ℕ) (es : List EntryRow) → n ≤ 2 → AllByRecursion (λ e. 3 ≤ e.cookie) es → AllByRecursion (λ x. n < x.off) (map (told_entry s) es)
all_above s n [] low all = tt
all_above s n (e ∷ es) low all = (omega (arith, low, all.0), all_above s n es low all.1)

pub listing_is_longest : ListingIsLongest
listing_is_longest s dir offset size tree =
    let here : List EntryRow = filter (λ e. e.dir == dir) s.entries in
    let cookies : AllByRecursion (λ e. 3 ≤ e.cookie) here =
    all_kept (λ e. 3 ≤ e.cookie) (λ e. e.dir == dir) s.entries
    (all_more (IsEntry s.nodes s.entries s.next_cookie) (λ e. 3 ≤ e.cookie) s.entries (λ e p. p.from_three) tree.shape.entries) in
    record {
      rise = (
        (omega arith, all_above s 1 here (omega arith) cookies),
        (all_above s 2 here (omega arith) cookies, apart_told s here (apart_filtered AreApart (λ e. e.dir == dir) s.entries tree.shape.entries_apart)),
      );
      longest = longest packed_len (entries_following s dir offset) size;
    }
