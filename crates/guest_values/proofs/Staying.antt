-- Values stay where the data file changes in free blocks alone.
use Rattle.std.proofs.Common.{◌≡◌, ℕ, List, [], ◌∷◌, ◌++◌, refl, ap, ◌∙◌}
use Rattle.std.specs.Prelude.{slice_index_or, flat_map}
use Rattle.std.specs.List.{All}
use Rattle.std.proofs.lemmas.List.Elements.{All-cons, All-nil, All-head, All-tail}
use Rattle.fuse_data.specs.declared.extent.Extent.{Extent}
use Rattle.fuse_data.specs.declared.gaps.Gap.{Gap}
use Rattle.fuse_data.specs.Extents.{IsWhole, bytes_of}
use Rattle.fuse_data.specs.Leaving.{KeepsInUse}
use Rattle.fuse_data.specs.Space.{InUse, AllInUse}
use Rattle.guest_values.specs.declared.large_value.LargeValue.{LargeValue}
use Rattle.guest_values.specs.Values.{IsStoredValue, KeepsValue, value_pieces, all_value_pieces}
use Rattle.guest_values.proofs.Lists.{all_left, all_right}

module _ (gaps : List Gap) (old new : List ℕ) (kept : KeepsInUse gaps old new) where
  pieces_whole : (ps : List Extent) → AllInUse gaps ps → All (IsWhole old) ps → All (IsWhole new) ps
  pieces_whole ps used whole k d low = (kept.extents (slice_index_or ps k d) (used k d low) (whole k d low)).whole

  pieces_same : (ps : List Extent) → AllInUse gaps ps → All (IsWhole old) ps → flat_map (bytes_of new) ps ≡ flat_map (bytes_of old) ps
  pieces_same [] used whole = refl
  pieces_same (p ∷ ps) used whole =
      ap (λ (bytes : List ℕ). bytes ++ flat_map (bytes_of new) ps) (kept.extents p (All-head (InUse gaps) p ps used) (All-head (IsWhole old) p ps whole)).same
      ∙ ap (λ (bytes : List ℕ). bytes_of old p ++ bytes) (pieces_same ps (All-tail (InUse gaps) p ps used) (All-tail (IsWhole old) p ps whole))

  stays : (v : LargeValue) → AllInUse gaps (value_pieces v) → IsStoredValue old v → KeepsValue old new v
  stays v used stored = record {
    stored = record { fit = stored.fit; whole = pieces_whole (value_pieces v) used stored.whole };
    same = pieces_same (value_pieces v) used stored.whole;
  }

  all_stay : (vs : List LargeValue) → AllInUse gaps (all_value_pieces vs) → All (IsStoredValue old) vs → All (KeepsValue old new) vs
  all_stay [] used stored = All-nil (KeepsValue old new)
  all_stay (v ∷ vs) used stored =
      All-cons (KeepsValue old new) v vs (stays v (all_left (InUse gaps) (value_pieces v) (all_value_pieces vs) used) (All-head (IsStoredValue old) v vs stored))
      (all_stay vs (all_right (InUse gaps) (value_pieces v) (all_value_pieces vs) used) (All-tail (IsStoredValue old) v vs stored))

pub value_stays : (gaps : List Gap) (old new : List ℕ) (v : LargeValue) → KeepsInUse gaps old new → AllInUse gaps (value_pieces v) → IsStoredValue old v → KeepsValue old new v
value_stays gaps old new v kept used stored = stays gaps old new kept v used stored

pub values_stay : (gaps : List Gap) (old new : List ℕ) (vs : List LargeValue) → KeepsInUse gaps old new → AllInUse gaps (all_value_pieces vs) → All (IsStoredValue old) vs
    → All (KeepsValue old new) vs
values_stay gaps old new vs kept used stored = all_stay gaps old new kept vs used stored
