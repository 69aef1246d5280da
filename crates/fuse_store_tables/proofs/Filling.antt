-- Empty tables filled with rows in rising order.
use Rattle.std.proofs.Common.{◌≡◌, ◌<◌, ℕ, List, [], ◌∷◌, ◌++◌, map, fold, Less, Ok, Err, Result, refl, sym, ap, subst, arith, ◌∙◌}
use Rattle.std.specs.Prelude.{⊤}
use Rattle.std.specs.List.{AllByRecursion}
use Rattle.std.specs.Ordering.{nat_cmp, match_ordering}
use Rattle.std.proofs.lemmas.Bool.Decides.{nat_tests}
use Rattle.sqlite_trees.specs.Tree.{IsTable}
use Rattle.sqlite.specs.Order.{Row}
use Rattle.sqlite.specs.Effect.{Database}
use Rattle.sqlite.specs.State.{State, HasCleanDisk}
use Rattle.fuse_rows.specs.declared.rows.NodeRow.{NodeRow}
use Rattle.fuse_rows.specs.declared.rows.EntryRow.{EntryRow}
use Rattle.fuse_rows.specs.declared.rows.HandleRow.{HandleRow}
use Rattle.fuse_store_tables.specs.declared.copied.Copied.{Copied}
use Rattle.fuse_store_tables.specs.declared.copied.Copied.TheVariants.{Counters, Entries, Blocks, Handles, Lots, Records}
use Rattle.fuse_store_tables.specs.declared.counted_nodes.Added.{Added}
use Rattle.fuse_store_tables.specs.declared.everyday.Copies.{Copies}
use Rattle.fuse_store_tables.specs.declared.version.Layout.TheVariants.{Second, Third}
use Rattle.fuse_store_tables.specs.Layout.{store_schema, third_schema, schema_for}
use Rattle.fuse_store_tables.specs.Blocks.{Block, block_row}
use Rattle.fuse_store_tables.specs.Content.{Content, Counter, Kept, Holds, node_key, put_by}
use Rattle.fuse_store_tables.specs.Content.{counter_row, node_row, entry_row, handle_row, lot_row, kept_row}
use Rattle.fuse_store_tables.specs.Making.{IsBare}
use Rattle.fuse_store_tables.specs.Migrating.{with_written, counting_written}
use Rattle.fuse_store_tables.specs.Moves.{Makes, Takes}
use Rattle.fuse_store_tables.specs.inner.Following.{inside_then}
use Rattle.fuse_store_tables.specs.inner.Columns.{given_node}
use Rattle.fuse_store_tables.specs.inner.Copies.{RowOf, copy_row, rows_in, put_copies, Rises, AreOrdered, IsOrderedCopy, IsCopyOf, Filled, RowsGiven, RowsPut, NodesGiven, NodesPut, no_rows, added_of, all_copied, marked_third, IsRead}
use Rattle.fuse_store_tables.specs.inner.Dropping.{HasSchema}
use Rattle.fuse_store_tables.specs.inner.Steps.{HoldsIn}
use Rattle.fuse_store_tables.proofs.Joining.{earlier, stays_then}
use Rattle.fuse_store_tables.proofs.Ordered.{rises_from}
use Rattle.fuse_store_tables.proofs.Tables.{laid}

-- ---- the last row

module _ {X : Type 0} (key : X → ℕ) where
  abbrev Below : List X → X → Type 0
  Below acc x = AllByRecursion (λ a. key a < key x) acc

  lower : (a b : ℕ) → a < b → nat_cmp a b ≡ Less
  lower a b low = grind (arith, nat_tests)

  put_last : (x : X) (acc : List X) → Below acc x → put_by key x acc ≡ acc ++ x ∷ []
  put_last x [] low = refl
  put_last x (a ∷ acc) low = ap (λ o. match_ordering o (a ∷ put_by key x acc) (x ∷ acc) (x ∷ a ∷ acc)) (lower (key a) (key x) low.0)
      ∙ ap (λ more. a ∷ more) (put_last x acc low.1)

  below_more : (acc : List X) (x y : X) → Below acc y → key x < key y → Below (acc ++ x ∷ []) y
  below_more [] x y low last = (last, tt)
  below_more (a ∷ acc) x y low last = (low.0, below_more acc x y low.1 last)

  all_more : (acc : List X) (x : X) (ys : List X) → AllByRecursion (Below acc) ys → AllByRecursion (λ y. key x < key y) ys → AllByRecursion (Below (acc ++ x ∷ [])) ys
  all_more acc x [] low above = tt
  all_more acc x (y ∷ ys) low above = (below_more acc x y low.0 above.0, all_more acc x ys low.1 above.1)

  shift : (acc : List X) (x : X) (xs : List X) → (acc ++ x ∷ []) ++ xs ≡ acc ++ x ∷ xs
  shift [] x xs = refl
  shift (a ∷ acc) x xs = ap (λ more. a ∷ more) (shift acc x xs)

  none_more : (l : List X) → l ≡ l ++ []
  none_more [] = refl
  none_more (a ∷ l) = ap (λ more. a ∷ more) (none_more l)

  all_last : (acc xs : List X) → Rises key xs → AllByRecursion (Below acc) xs → fold (λ l x. put_by key x l) acc xs ≡ acc ++ xs
  all_last acc [] rise low = none_more acc
  all_last acc (x ∷ xs) rise low =
      ap (λ l. fold (λ m y. put_by key y m) l xs) (put_last x acc low.0) ∙ all_last (acc ++ x ∷ []) xs rise.1 (all_more acc x xs low.1 rise.0) ∙ shift acc x xs

  nothing_below : (xs : List X) → AllByRecursion (Below []) xs
  nothing_below [] = tt
  nothing_below (x ∷ xs) = (tt, nothing_below xs)

  -- a list of a content
  module _ (get : Content → List X) (set : List X → Content → Content) (same : (d : Content) → set (get d) d ≡ d)
      (got : (l : List X) (d : Content) → get (set l d) ≡ l) (twice : (l m : List X) (d : Content) → set l (set m d) ≡ set l d) where
    folded : (xs : List X) (d : Content) → fold (λ e x. set (put_by key x (get e)) e) d xs ≡ set (fold (λ l x. put_by key x l) (get d) xs) d
    folded [] d = sym (same d)
    folded (x ∷ xs) d =
        let e = set (put_by key x (get d)) d in
        folded xs e ∙ ap (λ l. set (fold (λ m y. put_by key y m) l xs) e) (got (put_by key x (get d)) d) ∙ twice _ (put_by key x (get d)) d

    pub filled : (xs : List X) (d : Content) → get d ≡ [] → Rises key xs → fold (λ e x. set (put_by key x (get e)) e) d xs ≡ set xs d
    filled xs d none rise =
        folded xs d ∙ ap (λ l. set (fold (λ m y. put_by key y m) l xs) d) none ∙ ap (λ l. set l d) (all_last [] xs rise (nothing_below xs))

-- ---- each table

abbrev pub with_rows : (k : Copied) → List (RowOf k) → Content → Content
with_rows Counters xs c = record c { counters = xs }
with_rows Entries xs c = record c { entries = xs }
with_rows Blocks xs c = record c { blocks = xs }
with_rows Handles xs c = record c { handles = xs }
with_rows Lots xs c = record c { lots = xs }
with_rows Records xs c = record c { kept = xs }

abbrev pub key_in : (k : Copied) → RowOf k → ℕ
key_in Counters x = x.key
key_in Entries x = x.cookie
key_in Blocks x = x.slot
key_in Handles x = x.fh
key_in Lots x = x
key_in Records x = x.id

all_filled : (k : Copied) (xs : List (RowOf k)) (d : Content) → rows_in k d ≡ [] → Rises (key_in k) xs → put_copies k xs d ≡ with_rows k xs d
all_filled Counters xs d none rise =
    filled (λ (x : Counter). x.key) (λ e. e.counters) (λ l e. record e { counters = l }) (λ e. refl) (λ l e. refl) (λ l m e. refl) xs d none rise
all_filled Entries xs d none rise =
    filled (λ (x : EntryRow). x.cookie) (λ e. e.entries) (λ l e. record e { entries = l }) (λ e. refl) (λ l e. refl) (λ l m e. refl) xs d none rise
all_filled Blocks xs d none rise =
    filled (λ (x : Block). x.slot) (λ e. e.blocks) (λ l e. record e { blocks = l }) (λ e. refl) (λ l e. refl) (λ l m e. refl) xs d none rise
all_filled Handles xs d none rise =
    filled (λ (x : HandleRow). x.fh) (λ e. e.handles) (λ l e. record e { handles = l }) (λ e. refl) (λ l e. refl) (λ l m e. refl) xs d none rise
all_filled Lots xs d none rise =
    filled (λ (x : ℕ). x) (λ e. e.lots) (λ l e. record e { lots = l }) (λ e. refl) (λ l e. refl) (λ l m e. refl) xs d none rise
all_filled Records xs d none rise =
    filled (λ (x : Kept). x.id) (λ e. e.kept) (λ l e. record e { kept = l }) (λ e. refl) (λ l e. refl) (λ l m e. refl) xs d none rise

ordered_in : (k : Copied) (c : Content) → AreOrdered c → Rises (key_in k) (rows_in k c)
ordered_in Counters c o = o.counters
ordered_in Entries c o = o.entries
ordered_in Blocks c o = o.blocks
ordered_in Handles c o = o.handles
ordered_in Lots c o = o.lots
ordered_in Records c o = o.kept

-- one table filled, where the content that it is filled from is known
pub fills : (k : Copied) (s : Copies) (rows : List Row) (f : Content → Content) → ((c : Content) → IsCopyOf s c → rows ≡ map (copy_row k) (rows_in k c))
    → ((c : Content) → rows_in k (f c) ≡ []) → {Y E : Type 0} (a b : State) (r : Result Y E) → Takes (RowsGiven k rows) (RowsPut k) a b r
    → Takes (Filled s f) (Filled s (λ c. with_rows k (rows_in k c) (f c))) a b r
fills k s rows f shown none a b (Ok y) p = record {
  stays = p.stays;
  within = p.within;
  turns = λ clean c at.
      let on = p.turns clean (rows_in k c, f c)
      (record { is_open = at.is_open; in_transaction = at.in_transaction; holds = (shown c at.holds.0.copy, at.holds.1) }) in
      record {
        is_open = on.is_open;
        in_transaction = on.in_transaction;
        holds = (
          at.holds.0,
          subst (λ e. HoldsIn Third e b.now) (all_filled k (rows_in k c) (f c) (none c) (ordered_in k c at.holds.0.ordered)) on.holds,
        );
      };
}
fills k s rows f shown none a b (Err e) p = record { stays = p.stays; within = tt; turns = tt }

-- ---- the nodes

same_keys : (bs : List Block) (ns : List NodeRow) → Rises node_key ns → Rises node_key (map (with_written bs) ns)
same_keys bs [] rise = tt
same_keys bs (n ∷ ns) rise = (each n.node ns rise.0, same_keys bs ns rise.1)
  where
    each : (k : ℕ) (ms : List NodeRow) → AllByRecursion (λ (m : NodeRow). k < m.node) ms → AllByRecursion (λ (m : NodeRow). k < m.node) (map (with_written bs) ms)
    each k [] all = tt
    each k (m ∷ ms) all = (all.0, each k ms all.1)

given_same : (bs : List Block) (ns : List NodeRow) → map (given_node Second) ns ≡ map (given_node Second) (map (with_written bs) ns)
given_same bs [] = refl
given_same bs (n ∷ ns) = ap (λ more. given_node Second n ∷ more) (given_same bs ns)

pub added_same : (bs : List Block) (ns : List NodeRow) → map (λ n. added_of (with_written bs n)) ns ≡ map added_of (map (with_written bs) ns)
added_same bs [] = refl
added_same bs (n ∷ ns) = ap (λ more. added_of (with_written bs n) ∷ more) (added_same bs ns)

pub fills_nodes : (s : Copies) (rows : List Row) (added : List Added) (f : Content → Content) → ((c : Content) → IsCopyOf s c → rows ≡ map (given_node Second) c.nodes)
    → ((c : Content) → IsCopyOf s c → added ≡ map (λ n. added_of (with_written c.blocks n)) c.nodes) → ((c : Content) → (f c).nodes ≡ [])
    → {Y E : Type 0} (a b : State) (r : Result Y E) → Takes (NodesGiven rows added) NodesPut a b r
    → Takes (Filled s f) (Filled s (λ c. record (f c) { nodes = map (with_written c.blocks) c.nodes })) a b r
fills_nodes s rows added f shown more none a b (Ok y) p = record {
  stays = p.stays;
  within = p.within;
  turns = λ clean c at.
      let ns = map (with_written c.blocks) c.nodes in
      let on = p.turns clean (ns, f c) (record {
        is_open = at.is_open;
        in_transaction = at.in_transaction;
        holds = (shown c at.holds.0.copy ∙ given_same c.blocks c.nodes, more c at.holds.0.copy ∙ added_same c.blocks c.nodes, at.holds.1);
      }) in
      record {
        is_open = on.is_open;
        in_transaction = on.in_transaction;
        holds = (
          at.holds.0,
          subst (λ e. HoldsIn Third e b.now) (filled (λ (n : NodeRow). n.node) (λ e. e.nodes) (λ l e. record e { nodes = l }) (λ e. refl) (λ l e. refl) (λ l m e. refl) ns (f c)
              (none c) (same_keys c.blocks c.nodes at.holds.0.ordered.nodes)) on.holds,
        );
      };
}
fills_nodes s rows added f shown more none a b (Err e) p = record { stays = p.stays; within = tt; turns = tt }

-- ---- what the tables of version 2 have

pub ordered_of : (c : Content) (d : Database) → HoldsIn Second c d → AreOrdered c
ordered_of c d h =
    let was = laid c d h.0 in
    record {
      counters = rises_from (λ (x : Counter). x.key) counter_row (λ _. refl) c.counters (subst IsTable was.counters.0 was.counters.1);
      nodes = rises_from (λ (n : NodeRow). n.node) (node_row c.layout) (λ _. refl) c.nodes (subst IsTable was.nodes.0 was.nodes.1);
      entries = rises_from (λ (x : EntryRow). x.cookie) entry_row (λ _. refl) c.entries (subst IsTable was.entries.0 was.entries.1);
      blocks = rises_from (λ (b : Block). b.slot) block_row (λ _. refl) c.blocks (subst IsTable was.blocks.0 was.blocks.1);
      handles = rises_from (λ (x : HandleRow). x.fh) handle_row (λ _. refl) c.handles (subst IsTable was.handles.0 was.handles.1);
      lots = rises_from (λ (n : ℕ). n) lot_row (λ _. refl) c.lots (subst IsTable was.lots.0 was.lots.1);
      kept = rises_from (λ (x : Kept). x.id) kept_row (λ _. refl) c.kept (subst IsTable was.kept.0 was.kept.1);
    }

pub schema_of : (c : Content) (d : Database) → HoldsIn Second c d → HasSchema store_schema tt d
schema_of c d h = record { schema = subst (λ l. d.schema ≡ schema_for l) h.1 h.0.schema; sound = h.0.sound }

pub bare_third : (c : ⊤) (d : Database) → IsBare third_schema c d → HoldsIn Third (no_rows Third) d
bare_third c d h = (record { schema = h.schema; sound = h.sound; rows = h.rows }, refl)

-- the tables made anew, for a content that is known
pub remade : (s : Copies) {X E : Type 0} (a b : State) (r : Result X E) → Takes (HasSchema store_schema) (λ _. HoldsIn Third (no_rows Third)) a b r
    → Takes (λ c d. IsCopyOf s c × HoldsIn Second c d) (Filled s (λ _. no_rows Third)) a b r
remade s a b (Ok x) p = record {
  stays = p.stays;
  within = p.within;
  turns = λ clean c at.
      let on = p.turns clean tt (record { is_open = at.is_open; in_transaction = at.in_transaction; holds = schema_of c a.now at.holds.1 }) in
      record {
        is_open = on.is_open;
        in_transaction = on.in_transaction;
        holds = (record { copy = at.holds.0; ordered = ordered_of c a.now at.holds.1 }, on.holds);
      };
}
remade s a b (Err e) p = record { stays = p.stays; within = tt; turns = tt }

-- the counters set, and all is as it is to be
pub all_counted : (s : Copies) (used number : ℕ) {X Y E F : Type 0} (a b d : State) (x : X) (r : Result Y F)
    → Takes {E = E} (λ c e. IsCopyOf s c × HoldsIn Second c e) (λ c. HoldsIn Third (all_copied c)) a b (Ok x) → Makes (marked_third used number) b d r
    → Takes (IsRead s used) (λ c. Holds (counting_written number c)) a d r
all_counted s used number a b d x (Ok y) p q = record {
  stays = stays_then a b d p.stays p.within q.stays;
  within = inside_then a b d p.within q.stays.survives q.within;
  turns = λ clean c at.
      let mid = p.turns (earlier b d _ q.stays.survives clean) c
      (record { is_open = at.is_open; in_transaction = at.in_transaction; holds = (at.holds.0, at.holds.2) }) in
      let on = q.turns clean (all_copied c) (record { is_open = mid.is_open; in_transaction = mid.in_transaction; holds = mid.holds.0 }) in
      record {
        is_open = on.is_open;
        in_transaction = on.in_transaction;
        holds = subst (λ u. Holds (marked_third u number (all_copied c)) d.now) at.holds.1 on.holds;
      };
}
all_counted s used number a b d x (Err e) p q = record { stays = stays_then a b d p.stays p.within q.stays; within = tt; turns = tt }
