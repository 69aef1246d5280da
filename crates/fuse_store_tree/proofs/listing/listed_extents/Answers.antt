use Rattle.std.proofs.Common.{◌≡◌, sym, subst, ◌∙◌}
use Rattle.std.specs.List.Sorted.{IsPermutation}
use Rattle.std.proofs.lemmas.List.Sorted.{IsPermutation-sym, All-permutation}
use Rattle.sqlite.specs.Held.{state}
use Rattle.fuse_data.specs.Extents.{IsWhole}
use Rattle.fuse_data.specs.Space.{InUse}
use Rattle.fuse_store_tables.specs.declared.version.Layout.TheVariants.{Third}
use Rattle.fuse_store_tree.specs.Pieces.{extents_of}
use Rattle.fuse_store_tree.proofs.AtRest.{laid_out, resting}
use Rattle.fuse_store_tree.proofs.ByPlaces.{sorted_by_place}
use Rattle.fuse_store_tree.proofs.ListedRows.{all_above_none}
use Rattle.fuse_store_tree.proofs.listing.listed_extents.Goals as goal

pub returns-in-Ok-clause-listed : goal.returns-in-Ok-clause-listed
returns-in-Ok-clause-listed g c = λ clean. record {
  exact = λ k at fits.
      subst (λ l. IsPermutation l c.sort_by_place.new.extents.items)
      (c.in-Ok.ensures.extents clean k (laid_out Third (state g.S.Store c.args.conn.now) (λ m here. sym (c.in-Third.ensures.value m here.holds)) k at) fits
      ∙ all_above_none k.pieces fits.pieces) c.sort_by_place.ensures.same;
  by_place = c.sort_by_place.ensures.rise;
}

pub returns-in-Ok-clause-in_use : goal.returns-in-Ok-clause-in_use
returns-in-Ok-clause-in_use g c = λ clean file y gaps at used k holds fits.
    let new = c.sort_by_place.new.extents.items in
    All-permutation (InUse gaps) new (extents_of k.pieces)
    (IsPermutation-sym (extents_of k.pieces) new
    ((returns-in-Ok-clause-listed g c clean).exact k (resting _ (state g.S.Store c.args.conn.now) k at holds) fits)) used

pub returns-in-Ok-clause-apart : goal.returns-in-Ok-clause-apart
returns-in-Ok-clause-apart g c = λ clean file y at.
    let k = at.holds.held.0 in
    let told = at.holds.held.2 in
    let new = c.sort_by_place.new.extents.items in
    let same = (returns-in-Ok-clause-listed g c clean).exact k (resting _ (state g.S.Store c.args.conn.now) k at at.holds.held.1) told.fits in (
      sorted_by_place (extents_of k.pieces) new same c.sort_by_place.ensures.rise (λ i d low. (told.pieces.whole i d low).placed) told.pieces.apart,
      All-permutation (IsWhole file) (extents_of k.pieces) new same told.pieces.whole,
    )
