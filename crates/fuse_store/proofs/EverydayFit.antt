-- The tables of an everyday store of version 2 are within the bounds of a store.
use Rattle.std.proofs.Common.{◌≡◌, ◌≤◌, ◌<◌, ◌^◌, ℕ, List, [], ◌∷◌, map, length, false, true, Option, Some, None, inl, inr, refl, sym, ap, subst, arith, ◌∙◌}
use Rattle.std.specs.Prelude.{IsSome, IfSome, if◌then◌else◌}
use Rattle.std.specs.Ordering.{is_eq, nat_cmp}
use Rattle.std.specs.List.{AllByRecursion}
use Rattle.std.proofs.lemmas.List.{length-map}
use Rattle.sqlite.specs.Effect.{Database}
use Rattle.fuse_init.specs.declared.profile.Profile.TheVariants.{Plain, Everyday}
use Rattle.fuse_init.specs.Profile.{terms}
use Rattle.fuse_rows.specs.Rows.{profile_for}
use Rattle.fuse_rows.specs.declared.rows.NodeRow.{NodeRow}
use Rattle.fuse_tree.specs.State.{State, Tree, FitsCapacity, profile_of, used_of}
use Rattle.fuse_tree.specs.Rowed.{rowed}
use Rattle.fuse_store_tables.specs.declared.version.Layout.TheVariants as layouts
use Rattle.fuse_store_tables.specs.Layout.{version_of}
use Rattle.fuse_store_tables.specs.Content.{Content, Counter, value_at, node_key}
use Rattle.fuse_store_tables.specs.Migrating.{all_written, counting_written, in_third}
use Rattle.fuse_store_tables.specs.Opening.{AllBelow, AreAbove, HasRoomFor, HasRoomIn, IsFitContent, IsMetaFrom, IsStored, LotsAreBelow, MetaOf, migrated, opened, profile_in}
use Rattle.fuse_store_tables.specs.ToCount.{HoldsOfSecond}
use Rattle.fuse_store_tree.specs.Store.{FitsSettings}
use Rattle.fuse_store_tree.specs.Holding.{Holding, AreBelow, TreesAreInOrder}
use Rattle.fuse_store.specs.SecondVersion.{second_meta_rows, uncounted}
use Rattle.fuse_store.proofs.Fitting.{above_for, block_low, errnos_fit, flags_low, nodes_length, room_with, settings_low, used_low}
use Rattle.fuse_store.proofs.Migrated.{ToldSecond, nodes_are, used_now}
use Rattle.fuse_store.proofs.Uncounted.{rows_of}
use Rattle.fuse_store.proofs.WrittenBlocks.{NoneTwice}

abbrev second_with : State → ℕ → ℕ → ℕ → List Counter
second_with s next capacity used = second_meta_rows (rowed s).counters (rowed s).settings next capacity used

-- what the rows of `meta` say
record MetaSays (y : Holding) (c : Content) : Type 0 where
  capacity : ℕ
  used : ℕ
  is : y.tree.capacity ≡ Some capacity
  counters : c.counters ≡ second_with y.tree y.next_lot capacity used
  room : used ≤ capacity

meta_second : (s : State) → Tree s → length s.nodes ≤ 1048576 → (k used : ℕ) → FitsCapacity s k → used ≤ k → FitsSettings (rowed s).settings → (next : ℕ)
    → next ≤ 2 ^ 62 → IsMetaFrom Everyday 1 14 (second_with s next k used)
unfolding rowed
meta_second s tree few k used room less fits next below =
    let low = settings_low s fits in
    let limits = tree.shape.limits in (
      refl,
      omega arith,
      (
        refl,
        limits.next_node,
        (
          refl,
          limits.next_fh,
          (
            refl,
            limits.next_cookie,
            (
              refl,
              few,
              (
                refl,
                limits.handles,
                (
                  refl,
                  low.there,
                  (
                    refl,
                    low.minor,
                    (
                      refl,
                      low.readahead,
                      (
                        refl,
                        low.flags,
                        (refl, below, (refl, omega arith, (refl, block_low k room.bounded, (refl, used_low used k less room.bounded, tt)))),
                      ),
                    ),
                  ),
                ),
              ),
            ),
          ),
        ),
      ),
    )

below_uncounted : (next : ℕ) (ns : List NodeRow) → AllBelow node_key next ns → AllBelow node_key next (map uncounted ns)
below_uncounted next [] all = tt
below_uncounted next (n ∷ ns) all = (all.0, below_uncounted next ns all.1)

module _ (y : Holding) (c : Content) (tree : Tree y.tree) (everyday : IsSome y.tree.capacity) (told : ToldSecond y c) where
  meta_says : MetaSays y c
  unfolding rowed
  meta_says = by y.tree.capacity refl everyday told.counters
    where
      by : (o : Option ℕ) → y.tree.capacity ≡ o → IsSome o
          → IfSome (room_with o y.tree) (λ r. (c.counters ≡ second_with y.tree y.next_lot r.capacity told.used) × (told.used ≤ r.capacity)) → MetaSays y c
      by None is none at = absurd (let e : false ≡ true = none in cc)
      by (Some k) is some at = record { capacity = k; used = told.used; is = is; counters = at.0; room = at.1 }

  pub profile_second : profile_in c ≡ Everyday
  profile_second = ap (λ cs. profile_in (record c { counters = cs })) meta_says.counters

  pub version_second : value_at 1 c ≡ 2
  version_second = ap (λ cs. value_at 1 (record c { counters = cs })) meta_says.counters

  pub of_everyday : profile_of y.tree ≡ Everyday
  of_everyday = ap (λ (o : Option ℕ). profile_for o) meta_says.is

  fits_capacity : FitsCapacity y.tree meta_says.capacity
  fits_capacity = subst (λ (o : Option ℕ). IfSome o (FitsCapacity y.tree)) meta_says.is tree.shape.space

  meta_fits : y.next_lot ≤ 2 ^ 62 → MetaOf (profile_in c) c
  meta_fits next =
      let m = meta_says in
      let few = subst (λ p. length y.tree.nodes ≤ (terms p).node_limit) of_everyday tree.shape.limits.nodes in
      subst (λ p. MetaOf p c) (sym profile_second)
      (subst (λ cs. MetaOf Everyday (record c { counters = cs })) (sym m.counters)
      (subst (λ l. MetaOf Everyday (record c { layout = l; counters = second_with y.tree y.next_lot m.capacity m.used })) (sym told.layout)
      (meta_second y.tree tree few m.capacity m.used fits_capacity m.room told.settings y.next_lot next, (refl, m.room))))

  module _ (ordered : TreesAreInOrder) (apart : NoneTwice c.blocks) where
    rows_are : c.nodes ≡ map uncounted (rows_of y.tree y.tree.nodes)
    rows_are = nodes_are y c tree everyday told apart ordered

    above_second : AreAbove c
    unfolding rowed
    above_second =
        let rows = rows_of y.tree y.tree.nodes in
        let above = above_for ordered y.tree (record c { nodes = rows }) tree (record {
          next_node = ap (λ cs. value_at 2 (record c { counters = cs })) meta_says.counters;
          next_fh = ap (λ cs. value_at 3 (record c { counters = cs })) meta_says.counters;
          next_cookie = ap (λ cs. value_at 4 (record c { counters = cs })) meta_says.counters;
          nodes = sym (ordered y.tree tree).nodes;
          handles = told.handles;
          entries = told.entries;
        }) in
        record {
          nodes = subst (λ ns. AllBelow node_key (value_at 2 c) ns) (sym rows_are) (below_uncounted (value_at 2 c) rows above.nodes);
          handles = above.handles;
          entries = above.entries;
        }

    lots_second : AreBelow y.next_lot y.lots → LotsAreBelow c
    lots_second below =
        subst (λ xs. AllBelow (λ lot. lot) (value_at 11 c) xs) (sym told.lots)
        (subst (λ n. AllBelow (λ lot. lot) n y.lots) (sym (ap (λ cs. value_at 11 (record c { counters = cs })) meta_says.counters)) below)

    nodes_few : length c.nodes ≤ (terms (profile_of y.tree)).node_limit
    unfolding rowed
    nodes_few =
        let rows = rows_of y.tree y.tree.nodes in
        subst (λ n. n ≤ (terms (profile_of y.tree)).node_limit)
        (sym (ap length rows_are ∙ length-map rows uncounted ∙ sym (ap length (ordered y.tree tree).nodes) ∙ nodes_length ordered y.tree tree)) tree.shape.limits.nodes

    pub fit_second : AreBelow y.next_lot y.lots → y.next_lot ≤ 2 ^ 62 → IsFitContent c
    fit_second below next = record {
      version = version_second ∙ ap version_of (sym told.layout);
      meta = meta_fits next;
      above = above_second;
      lots = lots_second below;
      errnos = errnos_fit c.kept told.fits.kept;
      few = subst (λ p. length c.nodes ≤ (terms p).node_limit) (of_everyday ∙ sym profile_second) nodes_few;
    }

    room_for : HasRoomFor c
    room_for =
        let m = meta_says in
        let most : value_at 13 c ≡ m.capacity = ap (λ cs. value_at 13 (record c { counters = cs })) m.counters in
        fits_in (all_written c) (used_of y.tree) m.capacity (value_at 13 c) (used_now y c tree everyday told apart ordered) fits_capacity.used most
      where
        fits_in : (w used capacity most : ℕ) → w ≡ used → used ≤ capacity → most ≡ capacity → w ≤ most
        fits_in w used capacity most same less top = omega (arith, same, less, top)

    pub room_second : HasRoomIn c.layout (profile_in c) c
    room_second =
        subst (λ p. HasRoomIn c.layout p c) (sym profile_second) (subst (λ l. HasRoomIn l Everyday c) (sym told.layout) room_for)

    pub stored_second : AreBelow y.next_lot y.lots → y.next_lot ≤ 2 ^ 62 → (d : Database) → HoldsOfSecond c d → IsStored c d
    stored_second below next d (inl h) = inl (inr (record { holds = h.0; fit = fit_second below next }))
    stored_second below next d (inr h) = inr (record { holds = h; fit = fit_second below next })

  -- what its opening makes of it
  pub opened_counted : (number : ℕ) → opened (Some number) c ≡ counting_written number c
  opened_counted number =
      ap (λ v. if is_eq (nat_cmp v 1) then migrated c else in_third c.layout (profile_in c) (Some number) c) version_second
      ∙ ap (λ l. in_third l (profile_in c) (Some number) c) told.layout
      ∙ ap (λ p. in_third layouts.Second p (Some number) c) profile_second

  -- no piece is listed then
  pub opened_pieces : (number : Option ℕ) → (opened number c).pieces ≡ []
  opened_pieces (Some number) = ap (λ k. k.pieces) (opened_counted number)
  opened_pieces None =
      ap (λ v. (if is_eq (nat_cmp v 1) then migrated c else in_third c.layout (profile_in c) None c).pieces) version_second
      ∙ ap (λ l. (in_third l (profile_in c) None c).pieces) told.layout
      ∙ ap (λ p. (in_third layouts.Second p None c).pieces) profile_second ∙ told.fits.no_pieces told.layout
