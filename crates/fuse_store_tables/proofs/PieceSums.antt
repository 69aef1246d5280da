-- The sum of the blocks of a node's pieces that begin in a range.
use Rattle.std.proofs.Common.{◌≡◌, ◌+◌, ℕ, ℤ, pos, negsuc, ◌+ℤ◌, List, [], ◌∷◌, map, filter, codes, Bool, true, false, ◌&&◌, Some, Option, Ok, Err, Result, IfOk, IfErr}
use Rattle.std.proofs.Common.{refl, sym, ap, arith, ◌∙◌}
use Rattle.std.specs.List.{sum_by, flat_map}
use Rattle.std.proofs.lemmas.Int.{ints}
use Rattle.std.proofs.lemmas.List.Sums.{sum_by-cons}
use Rattle.sqlite.specs.declared.types.Value.TheVariants.{Null, Int}
use Rattle.sqlite.specs.Order.{Row}
use Rattle.sqlite.specs.Tree.{Trees}
use Rattle.sqlite_value.specs.declared.keys.Collation.TheVariants.{Binary}
use Rattle.sqlite.specs.Term.{Term, lit, col, op2, Env}
use Rattle.sqlite.specs.Query.{Query, inner, end, matches, matches_as, IsAnswerAs}
use Rattle.sqlite_sql.specs.declared.ops.BinaryOp.TheVariants.{Coalesce, Compare}
use Rattle.sqlite_sql.specs.declared.ops.CompareOp.TheVariants.{Eq, Ge, Lt}
use Rattle.sqlite_sql.specs.declared.aggregate.AggregateOp.TheVariants.{Sum}
use Rattle.sqlite_sql.proofs.AggregateLemmas.{int_sum, present, sum_answer}
use Rattle.sqlite.specs.Program.{overlay}
use Rattle.sqlite.specs.Command.TheVariants.{Select}
use Rattle.sqlite_tied.specs.Compute.{everything}
use Rattle.sqlite.specs.declared.error.Error.{Error}
use Rattle.sqlite.specs.Listing.{understood, reads_listing}
use Rattle.sqlite.specs.State.{State, HasCleanDisk, Survives, Shown, FailsToQuery, CommitsShowing}
use Rattle.sqlite.proofs.Callers.{IsPlain, command_of}
use Rattle.sqlite_resolve.specs.Compile.{first}
use Rattle.fuse_store_tables.specs.declared.version.Layout.TheVariants.{Third}
use Rattle.fuse_store_tables.specs.Layout.{third_schema}
use Rattle.fuse_store_tables.specs.Pieces.{Piece, begins_between, piece_row}
use Rattle.fuse_store_tables.specs.Content.{Content, HoldsIn}
use Rattle.fuse_store_tables.specs.Moves.{InsideAs, Takes}
use Rattle.fuse_store_tables.specs.inner.Columns.{shown_number}
use Rattle.fuse_store_tables.proofs.Laid.{held_in, schema_known}
use Rattle.fuse_store_tables.proofs.PieceRows.{between_terms, bounds, tests_between}
use Rattle.fuse_store_tables.proofs.Queries.{IsSelectText}
use Rattle.fuse_store_tables.proofs.Reading.{looks, matched, read}

abbrev pub text : List ℕ
text = codes "SELECT coalesce(sum(count), 0) FROM pieces WHERE node = ?1 AND first >= ?2 AND first < ?3"

abbrev count : Term
count = col 1 3

abbrev sum_query : Query
sum_query = record {
  from = inner 11 end;
  filter = between_terms;
  group = Some (record { keys = []; collations = []; aggregates = record { op = Sum; distinct = false; collation = Binary; argument = count } ∷ []; having = [] });
  project = op2 Coalesce (col 1 0) (lit (Int (pos 0))) ∷ [];
  distinct = false;
  collations = [];
  order = [];
  limit = lit (Int (negsuc 0));
  offset = lit (Int (pos 0));
}

is : command_of (understood third_schema text) ≡ Select (record { lets = []; body = sum_query }) (codes "coalesce(sum(count), 0)" ∷ [])
unfolding understood everything
is = refl

plain : IsPlain (understood third_schema text)
unfolding understood everything
plain = (refl, refl)

pub selects : IsSelectText (first text)
unfolding first everything
selects = (_, refl)

unlisted : reads_listing third_schema text ≡ false
unfolding understood everything
unlisted = refl

-- ---- the sum

abbrev pub blocks_of : List Piece → ℕ
blocks_of = sum_by (λ p. p.count)

abbrev shown_count : Piece → Option ℤ
shown_count p = Some (pos p.count)

whole_sum : (ps : List Piece) → int_sum (present (map shown_count ps)) ≡ pos (blocks_of ps)
whole_sum [] = refl
whole_sum (p ∷ ps) =
    let added : pos p.count +ℤ pos (blocks_of ps) ≡ pos (p.count + blocks_of ps) = omega (arith, ints) in
    ap (λ z. pos p.count +ℤ z) (whole_sum ps) ∙ added ∙ ap pos (sym (sum_by-cons (λ (q : Piece). q.count) p ps))

module _ (node from to : ℕ) (db : Trees) (ps : List Piece) (has : db 11 ≡ map piece_row ps) where
  abbrev params : Row
  params = bounds node from to []

  abbrev slots : Piece → Env
  slots p = params ∷ piece_row p ∷ []

  all_match : matches db between_terms (inner 11 end) (params ∷ []) ≡ map slots (filter (begins_between node from to) ps)
  all_match = ap (λ rs. flat_map (λ r. matches_as Null db between_terms end (params ∷ r ∷ [])) rs) has
      ∙ matched piece_row (begins_between node from to) Null db between_terms params (tests_between node from to []) ps

  pub summed : (rows : List Row) → IsAnswerAs Null sum_query db params rows → rows ≡ shown_number (blocks_of (filter (begins_between node from to) ps)) ∷ []
  summed rows answer =
      sum_answer sum_query db params count (filter (begins_between node from to) ps) slots shown_count refl all_match (λ p. refl) rows refl refl answer
      ∙ ap (λ z. (Int z ∷ []) ∷ []) (whole_sum (filter (begins_between node from to) ps))

-- ---- what the text finds

finds : (node from to : ℕ) (c : Content) (old new : State) (rows : List Row) → InsideAs (HoldsIn Third c) old → Shown text (bounds node from to []) old new rows
    → rows ≡ shown_number (blocks_of (filter (begins_between node from to) c.pieces)) ∷ []
finds node from to c old new rows at h =
    let was = (held_in Third c old.now at.holds).rows.1.1.1.1.1.1.1.0 in
    let answer = (read (HoldsIn Third) third_schema (schema_known Third) text (bounds node from to []) _ is plain unlisted c old new rows at h).answer Null in
    summed node from to (overlay old.now.trees []) c.pieces was.0 rows answer

pub look_makes : {X : Type 0} (items : X → List Row) (node from to : ℕ) (old new : State) (r : Result X Error)
    → (HasCleanDisk new → IfOk r (λ x. Shown text (bounds node from to []) old new (items x)))
    → (HasCleanDisk new → IfErr r (FailsToQuery text (bounds node from to []) old new))
    → Survives old new (CommitsShowing text (bounds node from to []) old) → Takes (HoldsIn Third) (HoldsIn Third) old new r
look_makes items node from to = looks (HoldsIn Third) third_schema (schema_known Third) text (bounds node from to []) _ is plain selects items

pub look_finds : {X : Type 0} (items : X → List Row) (node from to : ℕ) (old new : State) (r : Result X Error)
    → (HasCleanDisk new → IfOk r (λ x. Shown text (bounds node from to []) old new (items x)))
    → HasCleanDisk new
    → IfOk r (λ x. (c : Content) → InsideAs (HoldsIn Third c) old → items x ≡ shown_number (blocks_of (filter (begins_between node from to) c.pieces)) ∷ [])
look_finds items node from to old new (Ok x) ok clean = λ c at. finds node from to c old new (items x) at (ok clean)
look_finds items node from to old new (Err e) ok clean = tt

-- ---- in version 2
pub none_summed : (ps : List Piece) → ps ≡ [] → 0 ≡ blocks_of ps
none_summed ps none = ap blocks_of (sym none)
