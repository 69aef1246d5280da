-- A SELECT over any database, and the texts that are one.
pub use Rattle.fuse_store_tables.proofs.Queries.{IsSelectText, returns_none, only_reads, reads_within}
pub use Rattle.fuse_store_tables.proofs.OpenLemmas.{version_select, meta_select}
pub use Rattle.fuse_store_tables.proofs.CounterRows.{one_select}
pub use Rattle.fuse_store_tables.proofs.Unnamed.{unnamed_select, extents_select, count_select}
