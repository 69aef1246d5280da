-- The tables of a tree are within the bounds of a store.
use Rattle.std.proofs.Common.{◌≡◌, ◌≤◌, ◌<◌, ◌^◌, ℕ, suc, List, [], ◌∷◌, map, filter, length, Bool, true, false, cond, Some, None, Option, option_map}
use Rattle.std.proofs.Common.{refl, sym, ap, subst, arith, ◌∙◌}
use Rattle.std.specs.Prelude.{IfSome, IsSome}
use Rattle.std.specs.List.{AllByRecursion}
use Rattle.sqlite.specs.Effect.{Database}
use Rattle.fuse_init.specs.declared.profile.Profile.TheVariants.{Plain, Everyday}
use Rattle.fuse_init.specs.Profile.{Terms, terms}
use Rattle.fuse_init.specs.declared.settings.Settings.{Settings}
use Rattle.fuse_rows.specs.Rows.{profile_for}
use Rattle.fuse_tree.specs.State.{State, Node, Tree, IsNode, IsEntry, IsHandle, FitsCapacity, profile_of, terms_of, used_of}
use Rattle.fuse_tree.specs.Rowed.{rowed, full_of}
use Rattle.fuse_store_tables.specs.Content.{Content, Counter, Kept, value_at, node_key, fh_of, cookie_of}
use Rattle.fuse_store_tables.specs.Opening.{IsMetaFrom, MetaOf, profile_in, AllBelow, AreAbove, LotsAreBelow, IsFitContent, IsSecond}
use Rattle.fuse_rows.specs.declared.rows.Room.{Room}
use Rattle.fuse_store_tables.specs.Layout.{version_of}
use Rattle.fuse_store_tree.specs.Fits.{KeepsRecord}
use Rattle.fuse_store_tree.specs.Store.{FitsSettings, layout_for, meta_rows_of, in_order, is_there, minor_of, readahead_of, flags_of}
use Rattle.fuse_store_tree.specs.inner.Reading.{Describes}
use Rattle.fuse_store_tree.specs.Holding.{Holding, HeldFor, AreBelow, TreesAreInOrder, store_of}

-- ---- lists

pub filter_length : {X : Type 0} (p : X → Bool) (xs : List X) → length (filter p xs) ≤ length xs
filter_length p [] = omega arith
filter_length p (x ∷ xs) = told (filter_length p xs) (p x)
  where
    told : length (filter p xs) ≤ length xs → (b : Bool) → length (cond b (x ∷ filter p xs) (filter p xs)) ≤ suc (length xs)
    told less true = omega (arith, less)
    told less false = omega (arith, less)

pub all_filter : {X : Type 0} (P : X → Type 0) (q : X → Bool) (xs : List X) → AllByRecursion P xs → AllByRecursion P (filter q xs)
all_filter P q [] all = tt
all_filter P q (x ∷ xs) all = told (all_filter P q xs all.1) (q x)
  where
    told : AllByRecursion P (filter q xs) → (b : Bool) → AllByRecursion P (cond b (x ∷ filter q xs) (filter q xs))
    told more true = (all.0, more)
    told more false = more

pub all_less : {X : Type 0} (P Q : X → Type 0) (xs : List X) → ((x : X) → P x → Q x) → AllByRecursion P xs → AllByRecursion Q xs
all_less P Q [] f all = tt
all_less P Q (x ∷ xs) f all = (f x all.0, all_less P Q xs f all.1)

-- ---- so many nodes

rows_length : (s : State) (ns : List Node) → length (map (λ f. f.row) (map (full_of s) ns)) ≡ length ns
rows_length s [] = refl
rows_length s (n ∷ ns) = ap suc (rows_length s ns)

-- a list of rows in the order of the tables is as long as the tree's nodes
pub nodes_length : TreesAreInOrder → (s : State) → Tree s → length (in_order node_key (map (λ f. f.row) (rowed s).nodes)) ≡ length s.nodes
unfolding rowed
nodes_length ordered s tree = ap length (ordered s tree).nodes ∙ rows_length s s.nodes

-- ---- `meta`

small : (n : ℕ) → n < 2 ^ 32 → n ≤ 4294967295
small n low = omega (arith, low)

pub flags_low : (n : ℕ) → n < 2 ^ 63 → n ≤ 9223372036854775807
flags_low n low = omega (arith, low)

there_low : (s : Option Settings) → is_there s ≤ 1
there_low None = omega arith
there_low (Some s) = omega arith

-- the counters from the second on
pub record AreLow (s : State) : Type 0 where
  pub there : is_there s.settings ≤ 1
  pub minor : minor_of s.settings ≤ 4294967295
  pub readahead : readahead_of s.settings ≤ 4294967295
  pub flags : flags_of s.settings ≤ 9223372036854775807

pub settings_low : (s : State) → FitsSettings s.settings → AreLow s
settings_low s fits = record {
  there = there_low s.settings;
  minor = small (minor_of s.settings) fits.minor;
  readahead = small (readahead_of s.settings) fits.readahead;
  flags = flags_low (flags_of s.settings) fits.flags;
}

-- its counters, where the state has this capacity and the store this number
abbrev pub counters_with : Option ℕ → State → ℕ → ℕ → List Counter
counters_with o s next number =
    meta_rows_of (record (rowed s).counters { room = option_map (λ c. record { capacity = c; used = used_of s }) o }) (rowed s).settings next number

meta_plain : (s : State) → Tree s → length s.nodes ≤ 65536 → FitsSettings (rowed s).settings → (next number : ℕ) → next ≤ 2 ^ 62
    → IsMetaFrom Plain 1 11 (counters_with None s next number)
unfolding rowed
meta_plain s tree few fits next number below =
    let low = settings_low s fits in
    let limits = tree.shape.limits in (
      refl,
      omega arith,
      (
        refl,
        limits.next_node,
        (
          refl,
          limits.next_fh,
          (
            refl,
            limits.next_cookie,
            (
              refl,
              few,
              (refl, limits.handles, (refl, low.there, (refl, low.minor, (refl, low.readahead, (refl, low.flags, (refl, below, tt)))))),
            ),
          ),
        ),
      ),
    )

pub block_low : (n : ℕ) → n < 2 ^ 51 → n ≤ 2251799813685247
block_low n low = omega (arith, low)

pub used_low : (used capacity : ℕ) → used ≤ capacity → capacity < 2 ^ 51 → used ≤ 2251799813685247
used_low used capacity less low = omega (arith, less, low)

meta_everyday : (s : State) → Tree s → length s.nodes ≤ 1048576 → (k : ℕ) → FitsCapacity s k → FitsSettings (rowed s).settings → (next number : ℕ) → next ≤ 2 ^ 62
    → number < 2 ^ 63 → IsMetaFrom Everyday 1 15 (counters_with (Some k) s next number)
unfolding rowed
meta_everyday s tree few k room fits next number below low_number =
    let low = settings_low s fits in
    let limits = tree.shape.limits in (
      refl,
      omega arith,
      (
        refl,
        limits.next_node,
        (
          refl,
          limits.next_fh,
          (
            refl,
            limits.next_cookie,
            (
              refl,
              few,
              (
                refl,
                limits.handles,
                (
                  refl,
                  low.there,
                  (
                    refl,
                    low.minor,
                    (
                      refl,
                      low.readahead,
                      (
                        refl,
                        low.flags,
                        (refl, below, (refl, omega arith, (refl, block_low k room.bounded, (refl, used_low (used_of s) k room.used room.bounded, (refl, flags_low number low_number, tt))))),
                      ),
                    ),
                  ),
                ),
              ),
            ),
          ),
        ),
      ),
    )

-- the room of a state with this capacity
abbrev pub room_with : Option ℕ → State → Option Room
room_with o s = option_map (λ c. record { capacity = c; used = used_of s }) o

meta_of : (s : State) → Tree s → FitsSettings (rowed s).settings → (c : Content) (next number : ℕ) → next ≤ 2 ^ 62 → (o : Option ℕ) → s.capacity ≡ o
    → (IsSome o → number < 2 ^ 63)
    → MetaOf (profile_for o) (record c { layout = layout_for (room_with o s); counters = counters_with o s next number })
meta_of s tree fits c next number below None is low =
    (meta_plain s tree (subst (λ (o : Option ℕ). length s.nodes ≤ (terms (profile_for o)).node_limit) is tree.shape.limits.nodes) fits next number below, tt)
meta_of s tree fits c next number below (Some k) is low =
    let room : FitsCapacity s k = subst (λ (o : Option ℕ). IfSome o (FitsCapacity s)) is tree.shape.space in (
      meta_everyday s tree (subst (λ (o : Option ℕ). length s.nodes ≤ (terms (profile_for o)).node_limit) is tree.shape.limits.nodes) k room fits next number below (low refl),
      (refl, room.used),
    )

-- the profile that the rows of `meta` say
profile_with : (o : Option ℕ) (s : State) (c : Content) (next number : ℕ) → profile_in (record c { counters = counters_with o s next number }) ≡ profile_for o
profile_with None s c next number = refl
profile_with (Some k) s c next number = refl

-- ---- the numbers of a tree are below its counters

nodes_below : (t : Terms) (s : State) (next : ℕ) (ns : List Node) → AllByRecursion (IsNode t next) ns → AllBelow node_key next (map (λ f. f.row) (map (full_of s) ns))
nodes_below t s next [] all = tt
nodes_below t s next (n ∷ ns) all = (all.0.below, nodes_below t s next ns all.1)

-- the same of its rows in the tables
pub record HasRowsOf (s : State) (c : Content) : Type 0 where
  pub next_node : value_at 2 c ≡ (rowed s).counters.next_node
  pub next_fh : value_at 3 c ≡ (rowed s).counters.next_fh
  pub next_cookie : value_at 4 c ≡ (rowed s).counters.next_cookie
  pub nodes : c.nodes ≡ in_order node_key (map (λ f. f.row) (rowed s).nodes)
  pub handles : c.handles ≡ in_order fh_of (rowed s).handles
  pub entries : c.entries ≡ in_order cookie_of (rowed s).entries

pub above_for : TreesAreInOrder → (s : State) (c : Content) → Tree s → HasRowsOf s c → AreAbove c
unfolding rowed
above_for ordered s c tree has =
    let rising = ordered s tree in
    record {
      nodes = subst (λ xs. AllBelow node_key (value_at 2 c) xs) (sym (has.nodes ∙ rising.nodes))
          (subst (λ n. AllBelow node_key n (map (λ f. f.row) (map (full_of s) s.nodes))) (sym has.next_node) (nodes_below (terms_of s) s s.next_node s.nodes tree.shape.nodes));
      handles = subst (λ xs. AllBelow fh_of (value_at 3 c) xs) (sym (has.handles ∙ rising.handles))
          (subst (λ n. AllBelow fh_of n s.handles) (sym has.next_fh)
          (all_less (IsHandle s.nodes s.next_fh) (λ h. h.fh < s.next_fh) s.handles (λ h is. is.below) tree.shape.handles));
      entries = subst (λ xs. AllBelow cookie_of (value_at 4 c) xs) (sym (has.entries ∙ rising.entries))
          (subst (λ n. AllBelow cookie_of n s.entries) (sym has.next_cookie)
          (all_less (IsEntry s.nodes s.entries s.next_cookie) (λ e. e.cookie < s.next_cookie) s.entries (λ e is. is.below) tree.shape.entries));
    }

-- ---- what is held is a store of its version

-- its tables describe this over a data file
abbrev pub Told : Holding → List ℕ → Content → Type 0
Told y = Describes (store_of y)

pub errnos_fit : (ks : List Kept) → AllByRecursion KeepsRecord ks → AllByRecursion (λ (k : Kept). k.said.errno < 2 ^ 32) ks
errnos_fit ks all = all_less KeepsRecord (λ (k : Kept). k.said.errno < 2 ^ 32) ks (λ k keeps. keeps.errno) all

lots_for : (y : Holding) (file : List ℕ) (c : Content) → AreBelow y.next_lot y.lots → Told y file c → LotsAreBelow c
lots_for y file c below told =
    subst (λ xs. AllBelow (λ lot. lot) (value_at 11 c) xs) (sym told.lots)
    (subst (λ n. AllBelow (λ lot. lot) n y.lots) (sym (ap (λ cs. value_at 11 (record c { counters = cs })) told.counters)) below)

pub profile_is : (y : Holding) (file : List ℕ) (c : Content) → Told y file c → profile_in c ≡ profile_of y.tree
unfolding rowed
profile_is y file c told =
    ap (λ cs. profile_in (record c { counters = cs })) told.counters ∙ profile_with y.tree.capacity y.tree c y.next_lot told.number

meta_for : (y : Holding) (file : List ℕ) (c : Content) → Tree y.tree → y.next_lot ≤ 2 ^ 62 → Told y file c → MetaOf (profile_in c) c
unfolding rowed
meta_for y file c tree next told =
    subst (λ p. MetaOf p c) (sym (profile_is y file c told))
    (subst (λ cs. MetaOf (profile_of y.tree) (record c { counters = cs })) (sym told.counters)
    (subst (λ l. MetaOf (profile_of y.tree) (record c { layout = l; counters = counters_with y.tree.capacity y.tree y.next_lot told.number })) (sym told.layout)
    (meta_of y.tree tree told.settings c y.next_lot told.number next y.tree.capacity refl (λ some. (told.header (there y.tree.capacity some)).1))))
  where
    there : (o : Option ℕ) → IsSome o → IsSome (room_with o y.tree)
    there None none = none
    there (Some k) some = refl

version_for : (y : Holding) (file : List ℕ) (c : Content) → Told y file c → value_at 1 c ≡ version_of c.layout
version_for y file c told =
    ap (λ cs. value_at 1 (record c { counters = cs })) told.counters ∙ ap version_of (sym told.layout)

pub fit_for : TreesAreInOrder → (y : Holding) (file : List ℕ) (c : Content) → Tree y.tree → AreBelow y.next_lot y.lots → y.next_lot ≤ 2 ^ 62 → Told y file c
    → IsFitContent c
fit_for ordered y file c tree below next told = record {
  version = version_for y file c told;
  meta = meta_for y file c tree next told;
  above = above_for ordered y.tree c tree (record {
    next_node = ap (λ cs. value_at 2 (record c { counters = cs })) told.counters;
    next_fh = ap (λ cs. value_at 3 (record c { counters = cs })) told.counters;
    next_cookie = ap (λ cs. value_at 4 (record c { counters = cs })) told.counters;
    nodes = told.nodes;
    handles = told.handles;
    entries = told.entries;
  });
  lots = lots_for y file c below told;
  errnos = errnos_fit c.kept told.fits.kept;
  few = subst (λ p. length c.nodes ≤ (terms p).node_limit) (sym (profile_is y file c told))
      (subst (λ n. n ≤ (terms (profile_of y.tree)).node_limit) (sym (ap length told.nodes ∙ nodes_length ordered y.tree tree)) tree.shape.limits.nodes);
}

pub second_for : TreesAreInOrder → (y : Holding) (file : List ℕ) (d : Database) (at : HeldFor file y d) → IsSecond at.held.0 d
second_for ordered y file d at = record { holds = at.held.1; fit = fit_for ordered y file at.held.0 at.tree at.below at.next at.held.2 }
