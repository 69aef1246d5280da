-- The steps of an open.
use Rattle.std.proofs.Common.{◌≡◌, ◌≤◌, ◌<◌, ◌^◌, inl, inr, ℕ, List, [], ◌∷◌, ◌++◌, map, fold, length, cond, false, Less, None, Option, Result, refl, sym, ap, subst, arith}
use Rattle.std.proofs.Common.{◌∙◌}
use Rattle.std.specs.List.{AllByRecursion}
use Rattle.std.specs.Ordering.{is_eq, nat_cmp, match_ordering}
use Rattle.std.proofs.lemmas.Bool.Decides.{nat_tests}
use Rattle.sqlite_trees.specs.Tree.{IsTable}
use Rattle.sqlite.specs.Command.TheVariants.{CreateTable, CreateIndex}
use Rattle.sqlite.specs.Effect.{Database}
use Rattle.sqlite.specs.Listing.{understood}
use Rattle.sqlite.specs.declared.error.Error.{Error}
use Rattle.sqlite.specs.State.{State, HasCleanDisk, Survives, CommitsBy, Writes}
use Rattle.sqlite.proofs.Callers.{statement_of}
use Rattle.fuse_init.specs.declared.profile.Profile.TheVariants.{Plain}
use Rattle.fuse_init.specs.Profile.{terms}
use Rattle.fuse_store_tables.specs.Layout.{with_answers, with_lots, with_kept, lots, kept, entries, entries_in_order, version_of}
use Rattle.fuse_store_tables.specs.Content.{Content, Answer, Kept, Holds, stored, lot_row, kept_row, answer_row, kept_key, value_at, put_by, with_counter}
use Rattle.fuse_store_tables.specs.Opening.{AreAbove, IsOld, IsFitContent, IsFirst, IsSecond, HoldsUnindexed, IsStored, IsOpened, under, as_version_2, migrated, opened, profile_in}
use Rattle.fuse_store_tables.specs.Migrating.{in_third}
use Rattle.fuse_store_tables.specs.inner.Steps.{HasLots, HasKept, HasTables, moved_answers}
use Rattle.fuse_store_tables.specs.Moves.{InsideAs, Takes}
use Rattle.fuse_store_tables.specs.inner.Performing.{Ran}
use Rattle.fuse_store_tables.proofs.Writing.{makes}
use Rattle.fuse_store_tables.proofs.Sorting.{Rises}
use Rattle.fuse_store_tables.proofs.Ordered.{rises_from}
use Rattle.fuse_store_tables.proofs.SchemaLemmas.{table_more, index_more, lots_text, lots_made, kept_text, kept_made, entries_in_order_text, entries_in_order_made}
use Rattle.fuse_store_tables.proofs.MetaLemmas.{marked_meta, marked_version}
use Rattle.fuse_store_tables.proofs.Profiles.{plain_in, second_meta}
use Rattle.fuse_store_tables.proofs.Laid.{in_layout}
use Rattle.fuse_store_tables.specs.declared.version.Layout.{Layout}
use Rattle.fuse_store_tables.specs.declared.version.Layout.TheVariants.{Second, Third}
use Rattle.fuse_store_tables.proofs.CounterValues.{value_set, value_put, above_set, above_put}
use Rattle.fuse_store_tables.proofs.Either.{sub_from, narrowed_if}

-- ---- the two tables, and the index

lots_more : (c : Content) (old new : State) (n : ℕ) → IsFirst c old.now
    → Writes old new None CreateTable (statement_of lots_text (understood with_answers lots_text)) [] n → HasLots c new.now
lots_more c old new n h w = record {
  holds = (table_more with_answers lots lots_text lots_made (stored c) (ap (map lot_row) h.old.no_lots) old new n h.holds.0 w, h.holds.1);
  old = h.old;
}

pub adds_lots : (old new : State) (r : Result (Unit {0}) Error) → (HasCleanDisk new → Ran lots_text [] old new r)
    → Survives old new (CommitsBy lots_text [] old) → Takes IsFirst HasLots old new r
adds_lots = makes IsFirst with_answers (λ c d h. h.holds.0.schema) lots_text [] CreateTable lots_made.command lots_made.plain refl lots_made.edit HasLots lots_more

kept_more : (c : Content) (old new : State) (n : ℕ) → HasLots c old.now
    → Writes old new None CreateTable (statement_of kept_text (understood with_lots kept_text)) [] n → HasKept c new.now
kept_more c old new n h w = record {
  holds = (table_more with_lots kept kept_text kept_made (stored c) (ap (map kept_row) h.old.no_kept) old new n h.holds.0 w, h.holds.1);
  old = h.old;
}

pub adds_kept_table : (old new : State) (r : Result (Unit {0}) Error) → (HasCleanDisk new → Ran kept_text [] old new r)
    → Survives old new (CommitsBy kept_text [] old) → Takes HasLots HasKept old new r
adds_kept_table = makes HasLots with_lots (λ c d h. h.holds.0.schema) kept_text [] CreateTable kept_made.command kept_made.plain refl kept_made.edit HasKept kept_more

index_made : (c : Content) (old new : State) (n : ℕ) → HoldsUnindexed c old.now
    → Writes old new None (CreateIndex 2) (statement_of entries_in_order_text (understood with_kept entries_in_order_text)) [] n → Holds c new.now
index_made c old new n h w =
    (in_layout Second c new.now h.1 (index_more with_kept 2 entries entries_in_order entries_in_order_text entries_in_order_made (stored c) old new n h.0 w)).0

pub adds_index : (old new : State) (r : Result (Unit {0}) Error) → (HasCleanDisk new → Ran entries_in_order_text [] old new r)
    → Survives old new (CommitsBy entries_in_order_text [] old) → Takes HoldsUnindexed Holds old new r
adds_index =
    makes HoldsUnindexed with_kept (λ c d h. h.0.schema) entries_in_order_text [] (CreateIndex 2) entries_in_order_made.command entries_in_order_made.plain refl
    entries_in_order_made.edit
    Holds index_made

pub indexes_kept : {X E : Type 0} (a b : State) (r : Result X E) → Takes HoldsUnindexed Holds a b r → Takes HasKept HasTables a b r
indexes_kept a b r p =
    narrowed_if HasKept Holds HasTables a b r (sub_from HasKept HoldsUnindexed Holds (λ c d h. h.holds) a b r p)
    (λ clean c at on. record { is_open = on.is_open; in_transaction = on.in_transaction; holds = record { holds = (on.holds, at.holds.holds.1); old = at.holds.old } })

-- ---- the records in their order

lower : (a b : ℕ) → a < b → nat_cmp a b ≡ Less
lower a b low = grind (arith, nat_tests)

abbrev Below : List Kept → Kept → Type 0
Below acc x = AllByRecursion (λ (a : Kept). a.id < x.id) acc

put_last : (x : Kept) (acc : List Kept) → Below acc x → put_by kept_key x acc ≡ acc ++ x ∷ []
put_last x [] low = refl
put_last x (a ∷ acc) low = ap (λ o. match_ordering o (a ∷ put_by kept_key x acc) (x ∷ acc) (x ∷ a ∷ acc)) (lower a.id x.id low.0)
    ∙ ap (λ more. a ∷ more) (put_last x acc low.1)

below_more : (acc : List Kept) (x y : Kept) → Below acc y → x.id < y.id → Below (acc ++ x ∷ []) y
below_more [] x y low last = (last, tt)
below_more (a ∷ acc) x y low last = (low.0, below_more acc x y low.1 last)

all_more : (acc : List Kept) (x : Kept) (ys : List Kept) → AllByRecursion (Below acc) ys → AllByRecursion (λ (y : Kept). x.id < y.id) ys
    → AllByRecursion (Below (acc ++ x ∷ [])) ys
all_more acc x [] low above = tt
all_more acc x (y ∷ ys) low above = (below_more acc x y low.0 above.0, all_more acc x ys low.1 above.1)

shift : (acc : List Kept) (x : Kept) (xs : List Kept) → (acc ++ x ∷ []) ++ xs ≡ acc ++ x ∷ xs
shift [] x xs = refl
shift (a ∷ acc) x xs = ap (λ more. a ∷ more) (shift acc x xs)

put_all_last : (acc xs : List Kept) → Rises (λ (k : Kept). k.id) xs → AllByRecursion (Below acc) xs → fold (λ all k. put_by kept_key k all) acc xs ≡ acc ++ xs
put_all_last acc [] rise low = none acc
  where
    none : (l : List Kept) → l ≡ l ++ []
    none [] = refl
    none (a ∷ l) = ap (λ more. a ∷ more) (none l)
put_all_last acc (x ∷ xs) rise low =
    ap (λ l. fold (λ all k. put_by kept_key k all) l xs) (put_last x acc low.0) ∙ put_all_last (acc ++ x ∷ []) xs rise.1 (all_more acc x xs low.1 rise.0)
    ∙ shift acc x xs

nothing_below : (xs : List Kept) → AllByRecursion (Below []) xs
nothing_below [] = tt
nothing_below (x ∷ xs) = (tt, nothing_below xs)

rises_under : (xs : List Answer) → Rises (λ (a : Answer). a.id) xs → Rises (λ (k : Kept). k.id) (map (under 0) xs)
rises_under [] rise = tt
rises_under (a ∷ xs) rise = (each xs rise.0, rises_under xs rise.1)
  where
    each : (bs : List Answer) → AllByRecursion (λ (b : Answer). a.id < b.id) bs → AllByRecursion (λ (k : Kept). a.id < k.id) (map (under 0) bs)
    each [] all = tt
    each (b ∷ bs) all = (all.0, each bs all.1)

-- ---- what the statements make is the migrated store

pub is_migrated : (c : Content) (d : Database) → IsFirst c d → as_version_2 (moved_answers c) ≡ migrated c
is_migrated c d h =
    let was = h.holds.0.rows.1.1.1.1.1.0 in
    let rise = rises_from (λ (a : Answer). a.id) answer_row (λ _. refl) c.answers (subst IsTable was.0 was.1) in
    let all = map (under 0) c.answers in
    ap (λ ls. record c { counters = (as_version_2 c).counters; answers = []; lots = put_by (λ l. l) 0 ls; kept = fold (λ ks k. put_by kept_key k ks) c.kept all })
    h.old.no_lots
    ∙ ap (λ ks. record c { counters = (as_version_2 c).counters; answers = []; lots = 0 ∷ []; kept = fold (λ l k. put_by kept_key k l) ks all }) h.old.no_kept
    ∙ ap (λ ks. record c { counters = (as_version_2 c).counters; answers = []; lots = 0 ∷ []; kept = ks }) (put_all_last [] all (rises_under c.answers rise)
    (nothing_below all))

pub opened_first : (number : Option ℕ) (c : Content) → value_at 1 c ≡ 1 → opened number c ≡ migrated c
opened_first number c is = ap (λ v. cond (is_eq (nat_cmp v 1)) (migrated c) (in_third c.layout (profile_in c) number c)) is

pub not_first : (l : Layout) → is_eq (nat_cmp (version_of l) 1) ≡ false
not_first Second = refl
not_first Third = refl

small_under : (xs : List Answer) → AllByRecursion (λ (a : Answer). a.said.errno < 2 ^ 32) xs → AllByRecursion (λ (k : Kept). k.said.errno < 2 ^ 32)
    (map (under 0) xs)
small_under [] small = tt
small_under (a ∷ xs) small = (small.0, small_under xs small.1)

-- the counters of the nodes, handles and entries are as they were, and the next lot is 1
marked_above : (c : Content) → AreAbove c → AreAbove (as_version_2 c)
marked_above c above =
    above_set 1 2 (record { node = refl; fh = refl; cookie = refl }) (with_counter 11 1 c)
    (above_put 11 1 (record { node = refl; fh = refl; cookie = refl }) c above)

marked_lot : (c : Content) → value_at 11 (as_version_2 c) ≡ 1
marked_lot c = value_set 1 2 11 refl (with_counter 11 1 c) ∙ value_put 11 1 c

pub migrated_fit : (c : Content) → c.layout ≡ Second → IsOld c → IsFitContent (migrated c)
migrated_fit c second old =
    let above = marked_above c old.above in
    record {
      version = marked_version c old.meta ∙ ap version_of (sym second);
      meta = second_meta Plain (migrated c) second (marked_meta c old.meta) tt;
      above = record { nodes = above.nodes; handles = above.handles; entries = above.entries };
      lots = (let is = marked_lot c in omega (arith, is), tt);
      errnos = small_under c.answers old.errnos;
      few = subst (λ p. length c.nodes ≤ (terms p).node_limit) (sym (plain_in 11 (migrated c) (omega arith) (marked_meta c old.meta))) old.few;
    }

pub first_opened : (number : Option ℕ) (c : Content) (d e : Database) → IsFirst c d → Holds (as_version_2 (moved_answers c)) e → IsOpened number c e
first_opened number c d e h holds =
    subst (λ k. IsSecond k e) (sym (opened_first number c h.old.version))
    (record { holds = subst (λ k. Holds k e) (is_migrated c d h) holds; fit = migrated_fit c h.holds.1 h.old })

-- ---- of any version

pub not_both : {X : Type 0} (v : ℕ) → v ≡ 1 → v ≡ 2 → X
not_both v one two = absurd (omega (arith, one, two))

pub not_old : {X : Type 0} (v : ℕ) (l : Layout) → v ≡ 1 → v ≡ version_of l → X
not_old v Second one later = absurd (omega (arith, one, later))
not_old v Third one later = absurd (omega (arith, one, later))

inside_first : (c : Content) (b : State) → value_at 1 c ≡ 1 → InsideAs (IsStored c) b → InsideAs (IsFirst c) b
inside_first c b is at = record {
  is_open = at.is_open;
  in_transaction = at.in_transaction;
  holds = elim at.holds [
    | inl whole ↦ elim whole [
      | inl h ↦ h
      | inr h ↦ not_old (value_at 1 c) c.layout is h.fit.version
    ]
    | inr h ↦ not_old (value_at 1 c) c.layout is h.fit.version
  ];
}

-- where the version is known
pub found_first : (a b : State) (v : ℕ) → v ≡ 1 → ((c : Content) → InsideAs (IsStored c) a → v ≡ value_at 1 c) → (c : Content) → InsideAs (IsStored c) a
    → InsideAs (IsStored c) b → InsideAs (IsFirst c) b
found_first a b v is value c at on = inside_first c b (sym (value c at) ∙ is) on
