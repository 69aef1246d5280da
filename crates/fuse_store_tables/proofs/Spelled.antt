-- The layout, spelled out.
use Rattle.std.proofs.Common.{◌≡◌, [], refl}
use Rattle.sqlite_tied.specs.Compute.{everything}
use Rattle.fuse_store_tables.specs.Layout.{with_answers, store_schema, with_kept, third_schema}
use Rattle.fuse_store_tables.specs.inner.Shapes.{first_indexes, all_indexes, third_indexes, first_tables, all_tables, third_tables}

pub first_is : with_answers ≡ record { tables = first_tables; indexes = first_indexes; views = [] }
unfolding everything
first_is = refl

pub unindexed_is : with_kept ≡ record { tables = all_tables; indexes = first_indexes; views = [] }
unfolding everything
unindexed_is = refl

pub second_is : store_schema ≡ record { tables = all_tables; indexes = all_indexes; views = [] }
unfolding everything
second_is = refl

pub third_is : third_schema ≡ record { tables = third_tables; indexes = third_indexes; views = [] }
unfolding everything
third_is = refl
