-- All rows of a table of version 2, as they are read.
use Rattle.std.proofs.Common.{◌≡◌, ℕ, pos, negsuc, List, [], ◌∷◌, map, codes, true, false, Ok, Err, Result, IfOk, IfErr, refl, ap, subst, ◌∙◌}
use Rattle.sqlite.specs.declared.types.Value.TheVariants.{Null, Int, Blob}
use Rattle.sqlite.specs.Order.{Row}
use Rattle.sqlite_trees.specs.Tree.{IsTable}
use Rattle.sqlite.specs.Term.{Term, lit, col}
use Rattle.sqlite.specs.Program.{overlay}
use Rattle.sqlite_schema.specs.declared.program.Program.{Program}
use Rattle.sqlite.specs.Command.TheVariants.{Select}
use Rattle.sqlite_tied.specs.Compute.{everything}
use Rattle.sqlite.specs.declared.error.Error.{Error}
use Rattle.sqlite.specs.Listing.{understood, reads_listing}
use Rattle.sqlite.specs.Effect.{Database, Answers}
use Rattle.sqlite.specs.State.{State, HasCleanDisk, Survives, Shown, FailsToQuery, CommitsShowing}
use Rattle.sqlite.proofs.Callers.{IsPlain, command_of}
use Rattle.sqlite_resolve.specs.Compile.{first}
use Rattle.fuse_rows.specs.declared.rows.EntryRow.{EntryRow}
use Rattle.fuse_rows.specs.declared.rows.HandleRow.{HandleRow}
use Rattle.fuse_store_tables.specs.Layout.{store_schema}
use Rattle.fuse_store_tables.specs.declared.version.Layout.TheVariants.{Second}
use Rattle.fuse_store_tables.specs.declared.copied.Copied.{Copied}
use Rattle.fuse_store_tables.specs.declared.copied.Copied.TheVariants.{Counters, Entries, Blocks, Handles, Lots, Records}
use Rattle.fuse_store_tables.specs.Blocks.{Block, block_row}
use Rattle.fuse_store_tables.specs.Content.{Content, Counter, Kept, access_code, counter_row, entry_row, handle_row, lot_row, kept_row}
use Rattle.fuse_store_tables.specs.Moves.{InsideAs, Takes}
use Rattle.fuse_store_tables.specs.inner.Copies.{copy_row, rows_in, whole_text}
use Rattle.fuse_store_tables.specs.inner.Steps.{HoldsIn}
use Rattle.fuse_store_tables.proofs.CounterRows.{all_of}
use Rattle.fuse_store_tables.proofs.Laid.{schema_known}
use Rattle.fuse_store_tables.proofs.Ordered.{ordered_query, answered_in_order, rises_from}
use Rattle.fuse_store_tables.proofs.Queries.{IsSelectText}
use Rattle.fuse_store_tables.proofs.Reading.{looks, read}
use Rattle.fuse_store_tables.proofs.Tables.{laid}

abbrev no_limit : Term
no_limit = lit (Int (negsuc 0))

abbrev shown : Copied → List Term
shown Counters = col 1 0 ∷ col 1 2 ∷ []
shown Entries = col 1 0 ∷ col 1 2 ∷ col 1 3 ∷ col 1 4 ∷ []
shown Blocks = col 1 0 ∷ col 1 1 ∷ col 1 2 ∷ col 1 3 ∷ []
shown Handles = col 1 0 ∷ col 1 2 ∷ col 1 3 ∷ []
shown Lots = col 1 0 ∷ []
shown Records = col 1 0 ∷ col 1 2 ∷ col 1 3 ∷ col 1 4 ∷ []

abbrev names : Copied → List (List ℕ)
names Counters = codes "k" ∷ codes "v" ∷ []
names Entries = codes "cookie" ∷ codes "dir" ∷ codes "name" ∷ codes "child" ∷ []
names Blocks = codes "rowid" ∷ codes "node" ∷ codes "block" ∷ codes "bytes" ∷ []
names Handles = codes "fh" ∷ codes "node" ∷ codes "access" ∷ []
names Lots = codes "lot" ∷ []
names Records = codes "id" ∷ codes "lot" ∷ codes "errno" ∷ codes "body" ∷ []

abbrev tree : Copied → ℕ
tree Counters = 0
tree Entries = 2
tree Blocks = 5
tree Handles = 7
tree Lots = 9
tree Records = 10

abbrev query : Copied → Program
query k = record { lets = []; body = ordered_query (tree k) [] (shown k) no_limit }

whole_is : (k : Copied) → command_of (understood store_schema (whole_text k)) ≡ Select (query k) (names k)
unfolding understood everything
whole_is Counters = refl
whole_is Entries = refl
whole_is Blocks = refl
whole_is Handles = refl
whole_is Lots = refl
whole_is Records = refl

whole_plain : (k : Copied) → IsPlain (understood store_schema (whole_text k))
unfolding understood everything
whole_plain Counters = (refl, refl)
whole_plain Entries = (refl, refl)
whole_plain Blocks = (refl, refl)
whole_plain Handles = (refl, refl)
whole_plain Lots = (refl, refl)
whole_plain Records = (refl, refl)

whole_unlisted : (k : Copied) → reads_listing store_schema (whole_text k) ≡ false
unfolding understood everything
whole_unlisted Counters = refl
whole_unlisted Entries = refl
whole_unlisted Blocks = refl
whole_unlisted Handles = refl
whole_unlisted Lots = refl
whole_unlisted Records = refl

pub whole_select : (k : Copied) → IsSelectText (first (whole_text k))
unfolding first everything
whole_select Counters = (_, refl)
whole_select Entries = (_, refl)
whole_select Blocks = (_, refl)
whole_select Handles = (_, refl)
whole_select Lots = (_, refl)
whole_select Records = (_, refl)

finds : (k : Copied) (c : Content) (d : Database) (rows : List Row) → HoldsIn Second c d → Answers d (query k) [] rows → rows ≡ map (copy_row k) (rows_in k c)
finds Counters c d rows at h =
    let was = (laid c d at.0).counters in
    answered_in_order (λ (x : Counter). x.key) (λ x. Null ∷ Int (pos x.value) ∷ []) (λ _. true) Null (overlay d.trees []) [] [] (λ _. refl) (shown Counters)
    no_limit 0 c.counters rows was.0 (rises_from (λ (x : Counter). x.key) counter_row (λ _. refl) c.counters (subst IsTable was.0 was.1)) (h.answer Null)
    ∙ ap (map (copy_row Counters)) (all_of c.counters)
finds Entries c d rows at h =
    let was = (laid c d at.0).entries in
    answered_in_order (λ (x : EntryRow). x.cookie) (λ x. Null ∷ Int (pos x.dir) ∷ Blob x.name ∷ Int (pos x.child) ∷ []) (λ _. true) Null (overlay d.trees []) []
    [] (λ _. refl) (shown Entries) no_limit 2 c.entries rows was.0
    (rises_from (λ (x : EntryRow). x.cookie) entry_row (λ _. refl) c.entries (subst IsTable was.0 was.1)) (h.answer Null)
    ∙ ap (map (copy_row Entries)) (all_of c.entries)
finds Blocks c d rows at h =
    let was = (laid c d at.0).blocks in
    answered_in_order (λ (x : Block). x.slot) (λ x. Int (pos x.node) ∷ Int (pos x.block) ∷ Blob x.bytes ∷ []) (λ _. true) Null (overlay d.trees []) [] []
    (λ _. refl) (shown Blocks) no_limit 5 c.blocks rows was.0
    (rises_from (λ (x : Block). x.slot) block_row (λ _. refl) c.blocks (subst IsTable was.0 was.1)) (h.answer Null)
    ∙ ap (map (copy_row Blocks)) (all_of c.blocks)
finds Handles c d rows at h =
    let was = (laid c d at.0).handles in
    answered_in_order (λ (x : HandleRow). x.fh) (λ x. Null ∷ Int (pos x.node) ∷ Int (pos (access_code x.access)) ∷ []) (λ _. true) Null (overlay d.trees []) []
    [] (λ _. refl) (shown Handles) no_limit 7 c.handles rows was.0
    (rises_from (λ (x : HandleRow). x.fh) handle_row (λ _. refl) c.handles (subst IsTable was.0 was.1)) (h.answer Null)
    ∙ ap (map (copy_row Handles)) (all_of c.handles)
finds Lots c d rows at h =
    let was = (laid c d at.0).lots in
    answered_in_order (λ (x : ℕ). x) (λ x. Null ∷ []) (λ _. true) Null (overlay d.trees []) [] [] (λ _. refl) (shown Lots) no_limit 9 c.lots rows was.0
    (rises_from (λ (x : ℕ). x) lot_row (λ _. refl) c.lots (subst IsTable was.0 was.1)) (h.answer Null)
    ∙ ap (map (copy_row Lots)) (all_of c.lots)
finds Records c d rows at h =
    let was = (laid c d at.0).kept in
    answered_in_order (λ (x : Kept). x.id) (λ x. Null ∷ Int (pos x.lot) ∷ Int (pos x.said.errno) ∷ Blob x.said.body ∷ []) (λ _. true) Null (overlay d.trees [])
    [] [] (λ _. refl) (shown Records) no_limit 10 c.kept rows was.0
    (rises_from (λ (x : Kept). x.id) kept_row (λ _. refl) c.kept (subst IsTable was.0 was.1)) (h.answer Null)
    ∙ ap (map (copy_row Records)) (all_of c.kept)

module _ (k : Copied) {X : Type 0} (items : X → List Row) (old new : State) (r : Result X Error)
    (ok : HasCleanDisk new → IfOk r (λ x. Shown (whole_text k) [] old new (items x))) where
  pub whole_looks : (HasCleanDisk new → IfErr r (FailsToQuery (whole_text k) [] old new)) → Survives old new (CommitsShowing (whole_text k) [] old)
      → Takes (HoldsIn Second) (HoldsIn Second) old new r
  whole_looks err survives =
      looks (HoldsIn Second) store_schema (schema_known Second) (whole_text k) [] (Select (query k) (names k)) (whole_is k) (whole_plain k) (whole_select k) items
      old new r ok err survives

whole_found_of : (k : Copied) {X : Type 0} (items : X → List Row) (old new : State) (x : X) → Shown (whole_text k) [] old new (items x) → (c : Content)
    → InsideAs (HoldsIn Second c) old → items x ≡ map (copy_row k) (rows_in k c)
whole_found_of k items old new x h c at =
    finds k c old.now (items x) at.holds
    (read (HoldsIn Second) store_schema (schema_known Second) (whole_text k) [] (Select (query k) (names k)) (whole_is k) (whole_plain k) (whole_unlisted k) c
    old new (items x) at h)

pub whole_found : (k : Copied) {X : Type 0} (items : X → List Row) (old new : State) (r : Result X Error)
    → (HasCleanDisk new → IfOk r (λ x. Shown (whole_text k) [] old new (items x))) → HasCleanDisk new
    → IfOk r (λ x. (c : Content) → InsideAs (HoldsIn Second c) old → items x ≡ map (copy_row k) (rows_in k c))
whole_found k items old new (Ok x) ok clean = whole_found_of k items old new x (ok clean)
whole_found k items old new (Err e) ok clean = tt
