-- The statement that reads the pieces with a place in the data file by their slots, outside a transaction.
use Rattle.std.proofs.Common.{◌≡◌, ℕ, pos, List, [], ◌∷◌, map, take, filter, codes, Bool, true, false, ◌&&◌, Some, Ok, Err, Result, IfOk, IfErr, refl, ap, subst, ◌∙◌}
use Rattle.std.specs.List.{list_all}
use Rattle.std.specs.Int.{w64, cast_signed}
use Rattle.std.specs.Ordering.{is_gt, nat_cmp}
use Rattle.sqlite.specs.declared.types.Value.TheVariants.{Null, Int}
use Rattle.sqlite.specs.Order.{Row}
use Rattle.sqlite_trees.specs.Tree.{IsTable}
use Rattle.sqlite_value.specs.Order.{value_cmp}
use Rattle.sqlite_value.specs.declared.keys.Collation.TheVariants.{Binary}
use Rattle.sqlite_sql.specs.declared.ops.BinaryOp.TheVariants.{Compare}
use Rattle.sqlite_sql.specs.declared.ops.CompareOp.TheVariants.{Gt}
use Rattle.sqlite_sql.specs.Ops.{binary, is_true, from_truth}
use Rattle.sqlite.specs.Term.{Term, lit, col, op2, holds}
use Rattle.sqlite.specs.Program.{overlay}
use Rattle.sqlite.specs.Command.TheVariants.{Select}
use Rattle.sqlite_tied.specs.Compute.{everything}
use Rattle.sqlite.specs.declared.error.Error.{Error}
use Rattle.sqlite.specs.Listing.{understood, reads_listing}
use Rattle.sqlite.specs.State.{State, HasCleanDisk, Survives, Shown, FailsToQuery, CommitsShowing}
use Rattle.sqlite.proofs.Callers.{IsPlain, command_of}
use Rattle.sqlite_resolve.specs.Compile.{first}
use Rattle.fuse_store_tables.specs.declared.version.Layout.TheVariants.{Third}
use Rattle.fuse_store_tables.specs.Layout.{third_schema}
use Rattle.fuse_store_tables.specs.Pieces.{Piece, piece_row}
use Rattle.fuse_store_tables.specs.Slices.{is_listed_above, shown_extent}
use Rattle.fuse_store_tables.specs.Content.{Content, HoldsIn}
use Rattle.fuse_store_tables.specs.Moves.{RestsAs, ServesAs}
use Rattle.fuse_store_tables.proofs.Keyed.{row_cmp_nat}
use Rattle.fuse_store_tables.proofs.Laid.{held_in, schema_known}
use Rattle.fuse_store_tables.proofs.Ordered.{ordered_query, answered_in_order, rises_from}
use Rattle.fuse_store_tables.proofs.Queries.{IsSelectText}
use Rattle.fuse_store_tables.proofs.Reading.{both_true, read_held}
use Rattle.fuse_store_tables.proofs.Resting.{peeks}

abbrev pub text : List ℕ
text = codes "SELECT rowid, count, place, sum FROM pieces WHERE rowid > ?1 AND place > 0 ORDER BY rowid LIMIT ?2"

abbrev terms : List Term
terms = op2 (Compare Gt Binary) (col 1 0) (col 0 0) ∷ op2 (Compare Gt Binary) (col 1 4) (lit (Int (pos 0))) ∷ []

abbrev shown : List Term
shown = col 1 0 ∷ col 1 3 ∷ col 1 4 ∷ col 1 5 ∷ []

is : command_of (understood third_schema text) ≡ Select (record { lets = []; body = ordered_query 11 terms shown (col 0 1) })
    (codes "rowid" ∷ codes "count" ∷ codes "place" ∷ codes "sum" ∷ [])
unfolding understood everything
is = refl

plain : IsPlain (understood third_schema text)
unfolding understood everything
plain = (refl, refl)

pub selects : IsSelectText (first text)
unfolding first everything
selects = (_, refl)

unlisted : reads_listing third_schema text ≡ false
unfolding understood everything
unlisted = refl

abbrev params : ℕ → ℕ → Row
params slot limit = Int (pos slot) ∷ Int (pos limit) ∷ []

tests : (slot limit : ℕ) (p : Piece) → list_all (holds (params slot limit ∷ piece_row p ∷ [])) terms ≡ is_listed_above slot p
unfolding binary
tests slot limit p =
    ap (λ o. is_true (from_truth (Some (is_gt o))) && (is_true (from_truth (Some (is_gt (value_cmp (Int (pos p.place)) (Int (pos 0)))))) && true))
    (row_cmp_nat p.slot slot)
    ∙ ap (λ o. is_true (from_truth (Some (is_gt (nat_cmp p.slot slot)))) && (is_true (from_truth (Some (is_gt o))) && true)) (row_cmp_nat p.place 0)
    ∙ both_true (is_gt (nat_cmp p.slot slot)) (is_gt (nat_cmp p.place 0))

finds : (slot limit : ℕ) (c : Content) (old new : State) (rows : List Row) → RestsAs (HoldsIn Third c) old → Shown text (params slot limit) old new rows
    → rows ≡ take limit (map shown_extent (filter (is_listed_above slot) c.pieces))
finds slot limit c old new rows at h =
    let was = (held_in Third c old.now at.holds).rows.1.1.1.1.1.1.1.0 in
    let answer = (read_held (HoldsIn Third) third_schema (schema_known Third) text (params slot limit) _ is plain unlisted c old new rows at.holds h).answer Null in
    answered_in_order (λ (p : Piece). p.slot)
    (λ p. Int (pos p.node) ∷ Int (pos p.first) ∷ Int (pos p.count) ∷ Int (pos p.place) ∷ Int (cast_signed w64 p.sum) ∷ []) (is_listed_above slot) Null
    (overlay old.now.trees []) terms (params slot limit) (tests slot limit) shown (col 0 1) 11 c.pieces rows was.0
    (rises_from (λ (p : Piece). p.slot) piece_row (λ _. refl) c.pieces (subst IsTable was.0 was.1)) answer

pub peek_serves : {X : Type 0} (items : X → List Row) (slot limit : ℕ) (old new : State) (r : Result X Error)
    → (HasCleanDisk new → IfOk r (λ x. Shown text (params slot limit) old new (items x)))
    → (HasCleanDisk new → IfErr r (FailsToQuery text (params slot limit) old new))
    → Survives old new (CommitsShowing text (params slot limit) old) → ServesAs (HoldsIn Third) (HoldsIn Third) old new r
peek_serves items slot limit = peeks (HoldsIn Third) (λ _. third_schema) (schema_known Third) text (params slot limit) (λ _. plain) items

pub peek_finds : {X : Type 0} (items : X → List Row) (slot limit : ℕ) (old new : State) (r : Result X Error)
    → (HasCleanDisk new → IfOk r (λ x. Shown text (params slot limit) old new (items x)))
    → HasCleanDisk new
    → IfOk r (λ x. (c : Content) → RestsAs (HoldsIn Third c) old → items x ≡ take limit (map shown_extent (filter (is_listed_above slot) c.pieces)))
peek_finds items slot limit old new (Ok x) ok clean = λ c at. finds slot limit c old new (items x) at (ok clean)
peek_finds items slot limit old new (Err e) ok clean = tt
