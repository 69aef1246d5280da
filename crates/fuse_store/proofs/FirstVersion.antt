-- A store of version 1, and what its migration makes of it.
use Rattle.std.proofs.Common.{◌≡◌, ◌≤◌, ◌<◌, ◌^◌, ◌/◌, ◌%◌, ℕ, true, Option, None, option_map, List, [], ◌∷◌, map, length, refl, sym, ap, subst, arith, ◌∙◌}
use Rattle.std.specs.Prelude.{IsSome, unwrap_or}
use Rattle.std.specs.List.{AllByRecursion, list_any}
use Rattle.fuse_rows.specs.declared.rows.Room.{Room}
use Rattle.fuse_init.specs.declared.profile.Profile.TheVariants.{Plain}
use Rattle.fuse_init.specs.Profile.{terms}
use Rattle.fuse_rows.specs.Rows.{profile_for}
use Rattle.fuse_rows.specs.Bounds.{block_bytes}
use Rattle.fuse_tree.specs.State.{State, Tree, used_of}
use Rattle.fuse_tree.specs.Rowed.{rowed}
use Rattle.fuse_store_tables.specs.Pieces.{Piece}
use Rattle.fuse_store_tables.specs.Content.{Content, Answer, value_at, has_by, node_key}
use Rattle.fuse_store_tables.specs.Opening.{IsMetaFrom, IsOld, under, as_version_2, migrated}
use Rattle.fuse_store_tree.specs.Fits.{KeepsRecord}
use Rattle.fuse_store_tree.specs.Pieces.{ArePieces, byte_at}
use Rattle.fuse_store_tree.specs.Store.{FitsSettings, ArePiecesWithin, layout_for, rows_ends}
use Rattle.fuse_store_tree.specs.Holding.{TreesAreInOrder}
use Rattle.fuse_store.specs.Opening.{DescribesFirst, first_meta_rows, First, opened_for}
use Rattle.fuse_store.proofs.Fitting.{Told, counters_with, nodes_length, settings_low, all_less, above_for}
use Rattle.fuse_store.proofs.PlainFiles.{same_stored, no_pieces_are, uncounted_written}

meta_old : (s : State) → Tree s → length s.nodes ≤ 65536 → FitsSettings (rowed s).settings → IsMetaFrom Plain 1 10 (first_meta_rows (rowed s).counters (rowed s).settings)
unfolding rowed
meta_old s tree few fits =
    let low = settings_low s fits in
    let limits = tree.shape.limits in (
      refl,
      omega arith,
      (
        refl,
        limits.next_node,
        (
          refl,
          limits.next_fh,
          (
            refl,
            limits.next_cookie,
            (refl, few, (refl, limits.handles, (refl, low.there, (refl, low.minor, (refl, low.readahead, (refl, low.flags, tt)))))),
          ),
        ),
      ),
    )

-- a plain tree has so many nodes at most
few_plain : (s : State) → Tree s → s.capacity ≡ None → length s.nodes ≤ 65536
few_plain s tree plain = subst (λ (o : Option ℕ). length s.nodes ≤ (terms (profile_for o)).node_limit) plain tree.shape.limits.nodes

pub old_for : TreesAreInOrder → (tree : State) (answers : List Answer) (c : Content) → Tree tree → tree.capacity ≡ None → DescribesFirst (rowed tree) answers c
    → IsOld c
old_for ordered tree answers c good plain told = record {
  version = ap (λ cs. value_at 1 (record c { counters = cs })) told.counters;
  meta = subst (IsMetaFrom Plain 1 10) (sym told.counters) (meta_old tree good (few_plain tree good plain) told.settings);
  above = above_for ordered tree c good (record {
    next_node = ap (λ cs. value_at 2 (record c { counters = cs })) told.counters;
    next_fh = ap (λ cs. value_at 3 (record c { counters = cs })) told.counters;
    next_cookie = ap (λ cs. value_at 4 (record c { counters = cs })) told.counters;
    nodes = told.nodes;
    handles = told.handles;
    entries = told.entries;
  });
  errnos = subst (AllByRecursion (λ (a : Answer). a.said.errno < 2 ^ 32)) (sym told.answers)
      (all_less (λ a. KeepsRecord (under 0 a)) (λ (a : Answer). a.said.errno < 2 ^ 32) answers (λ a keeps. keeps.errno) told.keeps);
  few = subst (λ n. n ≤ 65536) (sym (ap length told.nodes ∙ nodes_length ordered tree good)) (few_plain tree good plain);
  no_lots = told.lots;
  no_kept = told.kept;
}

kept_under : (answers : List Answer) → AllByRecursion (λ a. KeepsRecord (under 0 a)) answers → AllByRecursion KeepsRecord (map (under 0) answers)
kept_under [] all = tt
kept_under (a ∷ answers) all = (all.0, kept_under answers all.1)

-- the records are under lot 0, and the rest is as it was
pub describes_migrated : (tree : State) (answers : List Answer) (file : List ℕ) (c : Content) → Tree tree → tree.capacity ≡ None → DescribesFirst (rowed tree) answers c
    → Told (opened_for (First tree answers)) file (migrated c)
unfolding rowed
describes_migrated tree answers file c good plain told =
    let none : c.pieces ≡ [] = told.fits.no_pieces told.layout in
    record {
      number = 0;
      layout = told.layout ∙ ap (λ o. layout_for (option_map (λ k. record { capacity = k; used = used_of tree }) o)) (sym plain);
      counters = ap (λ cs. (as_version_2 (record c { counters = cs })).counters) told.counters
          ∙ ap (λ o. counters_with o tree 1 0) (sym plain);
      nodes = told.nodes;
      entries = told.entries;
      handles = told.handles;
      answers = refl;
      lots = refl;
      kept = ap (map (under 0)) told.answers;
      attributes = told.attributes;
      bytes = λ node i. ap (λ o. byte_at (unwrap_or o []) (i % block_bytes)) (same_stored [] file c none node (i / block_bytes)) ∙ told.bytes node i;
      within = told.within;
      written = λ node block. uncounted_written tree good plain _ node block;
      pieces_within = subst (ArePiecesWithin (rows_ends (rowed tree))) (sym none) tt;
      pieces = subst (ArePieces file) (sym none) (no_pieces_are file);
      owned = subst (λ ps. AllByRecursion (λ (p : Piece). list_any (has_by node_key p.node) c.nodes ≡ true) ps) (sym none) tt;
      header = λ some. absurd (let e = subst (λ (o : Option ℕ). IsSome (option_map {U = Room} (λ k. record { capacity = k; used = used_of tree }) o)) plain some in cc);
      settings = told.settings;
      fits = record {
        nodes = told.fits.nodes;
        entries = told.fits.entries;
        handles = told.fits.handles;
        blocks = told.fits.blocks;
        kept = subst (λ l. AllByRecursion KeepsRecord (map (under 0) l)) (sym told.answers) (kept_under answers told.keeps);
        pieces = told.fits.pieces;
        no_pieces = told.fits.no_pieces;
      };
    }
