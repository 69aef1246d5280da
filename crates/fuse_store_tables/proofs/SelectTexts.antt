-- Texts that are a SELECT, whatever the schema.
use Rattle.std.proofs.Common.{refl}
use Rattle.sqlite_resolve.specs.Compile.{first}
use Rattle.sqlite_tied.specs.Compute.{everything}
use Rattle.fuse_store_tables.proofs.Selects.{IsSelectText}
pub use Rattle.fuse_store_tables.proofs.CounterRows.{select_reads as counters_select}
pub use Rattle.fuse_store_tables.proofs.KeptRows.{select_reads as record_select}
use Rattle.fuse_store_tables.proofs.RecordCounts.{kept_text, lots_text}

pub kept_count_select : IsSelectText (first kept_text)
unfolding first everything
kept_count_select = (_, refl)

pub lot_count_select : IsSelectText (first lots_text)
unfolding first everything
lot_count_select = (_, refl)
