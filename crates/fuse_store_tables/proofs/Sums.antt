-- The sum of the sizes of all nodes, asked outside a transaction.
use Rattle.std.proofs.Common.{◌≡◌, ◌+◌, ℕ, ℤ, pos, negsuc, ◌+ℤ◌, List, [], ◌∷◌, map, codes, true, false, Some, Option, Ok, Err, Result, IfOk, IfErr}
use Rattle.std.proofs.Common.{refl, sym, ap, arith, ◌∙◌}
use Rattle.std.specs.List.{sum_by, flat_map}
use Rattle.std.proofs.lemmas.Int.{ints}
use Rattle.std.proofs.lemmas.List.Sums.{sum_by-cons}
use Rattle.sqlite.specs.declared.types.Value.TheVariants.{Null, Int}
use Rattle.sqlite.specs.Order.{Row}
use Rattle.sqlite.specs.Tree.{Trees}
use Rattle.sqlite_value.specs.declared.keys.Collation.TheVariants.{Binary}
use Rattle.sqlite.specs.Term.{Term, lit, col, op2, Env}
use Rattle.sqlite.specs.Query.{Query, inner, end, matches}
use Rattle.sqlite_sql.specs.declared.ops.BinaryOp.TheVariants.{Coalesce}
use Rattle.sqlite_sql.specs.declared.aggregate.AggregateOp.TheVariants.{Sum}
use Rattle.sqlite_sql.proofs.AggregateLemmas.{int_sum, present, sum_answer}
use Rattle.sqlite.specs.Program.{overlay}
use Rattle.sqlite.specs.Command.TheVariants.{Select}
use Rattle.sqlite_tied.specs.Compute.{everything}
use Rattle.sqlite.specs.declared.error.Error.{Error}
use Rattle.sqlite.specs.Listing.{understood, reads_listing}
use Rattle.sqlite.specs.State.{State, HasCleanDisk, Survives, Shown, FailsToQuery, CommitsShowing}
use Rattle.sqlite.proofs.Callers.{IsPlain, command_of}
use Rattle.sqlite_resolve.specs.Compile.{first}
use Rattle.fuse_rows.specs.declared.rows.NodeRow.{NodeRow}
use Rattle.fuse_keeper.specs.declared.fault.StoreFault.{StoreFault}
use Rattle.fuse_store_tables.specs.Faults.{IsOutside}
use Rattle.fuse_store_tables.specs.Layout.{schema_for}
use Rattle.fuse_store_tables.specs.Content.{Content, Holds, node_row}
use Rattle.fuse_store_tables.specs.inner.Columns.{shown_number}
use Rattle.fuse_store_tables.specs.Moves.{Rests, Serves}
use Rattle.fuse_store_tables.proofs.Reading.{matched}
use Rattle.fuse_store_tables.proofs.CounterRows.{all_of}
use Rattle.fuse_store_tables.proofs.Selects.{IsSelectText}
use Rattle.fuse_store_tables.specs.declared.version.Layout.{Layout}
use Rattle.fuse_store_tables.specs.declared.version.Layout.TheVariants.{Second, Third}
use Rattle.fuse_store_tables.proofs.Laid.{peeks_laid, read_held_laid}
use Rattle.fuse_store_tables.proofs.Tables.{laid}

abbrev pub sizes_text : List ℕ
sizes_text = codes "SELECT coalesce(sum(size), 0) FROM nodes"

abbrev size : Term
size = col 1 6

abbrev sum_query : Query
sum_query = record {
  from = inner 1 end;
  filter = [];
  group = Some (record { keys = []; collations = []; aggregates = record { op = Sum; distinct = false; collation = Binary; argument = size } ∷ []; having = [] });
  project = op2 Coalesce (col 1 0) (lit (Int (pos 0))) ∷ [];
  distinct = false;
  collations = [];
  order = [];
  limit = lit (Int (negsuc 0));
  offset = lit (Int (pos 0));
}

sizes_is : (l : Layout) → command_of (understood (schema_for l) sizes_text) ≡ Select (record { lets = []; body = sum_query }) (codes "coalesce(sum(size), 0)" ∷ [])
unfolding understood everything
sizes_is Second = refl
sizes_is Third = refl

sizes_plain : (l : Layout) → IsPlain (understood (schema_for l) sizes_text)
unfolding understood everything
sizes_plain Second = (refl, refl)
sizes_plain Third = (refl, refl)

sizes_unlisted : (l : Layout) → reads_listing (schema_for l) sizes_text ≡ false
unfolding understood everything
sizes_unlisted Second = refl
sizes_unlisted Third = refl

pub sizes_select : IsSelectText (first sizes_text)
unfolding first everything
sizes_select = (_, refl)

-- ---- the sum

abbrev pub sizes_of : List NodeRow → ℕ
sizes_of = sum_by (λ n. n.size)

abbrev shown_size : NodeRow → Option ℤ
shown_size n = Some (pos n.size)

abbrev slots : Layout → NodeRow → Env
slots l n = [] ∷ node_row l n ∷ []

whole_sum : (ns : List NodeRow) → int_sum (present (map shown_size ns)) ≡ pos (sizes_of ns)
whole_sum [] = refl
whole_sum (n ∷ ns) =
    let added : pos n.size +ℤ pos (sizes_of ns) ≡ pos (n.size + sizes_of ns) = omega (arith, ints) in
    ap (λ z. pos n.size +ℤ z) (whole_sum ns) ∙ added ∙ ap pos (sym (sum_by-cons (λ (m : NodeRow). m.size) n ns))

module _ (l : Layout) (db : Trees) (ns : List NodeRow) (has : db 1 ≡ map (node_row l) ns) where
  all_match : matches db [] (inner 1 end) ([] ∷ []) ≡ map (slots l) ns
  all_match = ap (λ rs. flat_map (λ r. Rattle.sqlite.specs.Query.matches_as Null db [] end ([] ∷ r ∷ [])) rs) has
      ∙ matched (node_row l) (λ _. true) Null db [] [] (λ _. refl) ns ∙ ap (map (slots l)) (all_of ns)

  pub summed : (rows : List Row) → Rattle.sqlite.specs.Query.IsAnswerAs Null sum_query db [] rows → rows ≡ shown_number (sizes_of ns) ∷ []
  summed rows answer =
      sum_answer sum_query db [] size ns (slots l) shown_size refl all_match (λ n. refl) rows refl refl answer
      ∙ ap (λ z. (Int z ∷ []) ∷ []) (whole_sum ns)

-- ---- what the text finds

finds : (c : Content) (old new : State) (rows : List Row) → Holds c old.now → Shown sizes_text [] old new rows → rows ≡ shown_number (sizes_of c.nodes) ∷ []
finds c old new rows at h =
    let answer = (read_held_laid sizes_text [] _ sizes_is sizes_plain sizes_unlisted c old new rows at h).answer Null in
    summed c.layout (overlay old.now.trees []) c.nodes (laid c old.now at).nodes.0 rows answer

pub sizes_serve : {Y : Type 0} (items : Y → List Row) (old new : State) (r : Result Y Error)
    → (HasCleanDisk new → IfOk r (λ x. Shown sizes_text [] old new (items x)))
    → (HasCleanDisk new → IfErr r (FailsToQuery sizes_text [] old new)) → Survives old new (CommitsShowing sizes_text [] old) → Serves (λ c. c) old new r
sizes_serve items = peeks_laid sizes_text [] sizes_plain items

pub sizes_found : {Y : Type 0} (items : Y → List Row) (old new : State) (r : Result Y Error)
    → (HasCleanDisk new → IfOk r (λ x. Shown sizes_text [] old new (items x)))
    → HasCleanDisk new → IfOk r (λ x. (c : Content) → Rests c old → items x ≡ shown_number (sizes_of c.nodes) ∷ [])
sizes_found items old new (Ok x) ok clean = λ c at. finds c old new (items x) at.holds (ok clean)
sizes_found items old new (Err e) ok clean = tt

-- ---- the number in that row

module _ (r : Result ℕ StoreFault) (rows : List Row) (IsThere : Content → Type 0) (is : (c : Content) → IsThere c → rows ≡ shown_number (sizes_of c.nodes) ∷ []) where
  pub told_sum : IfOk r (λ n. (m : ℕ) → rows ≡ shown_number m ∷ [] → n ≡ m) → IfOk r (λ n. (c : Content) → IsThere c → n ≡ sizes_of c.nodes)
  told_sum told = by_case r told
    where
      by_case : (r : Result ℕ StoreFault) → IfOk r (λ n. (m : ℕ) → rows ≡ shown_number m ∷ [] → n ≡ m)
          → IfOk r (λ n. (c : Content) → IsThere c → n ≡ sizes_of c.nodes)
      by_case (Ok n) told = λ c at. told (sizes_of c.nodes) (is c at)
      by_case (Err f) told = tt

  pub told_outside : IfErr r (λ f. (m : ℕ) → rows ≡ shown_number m ∷ [] → IsOutside f) → IfErr r (λ f. (c : Content) → IsThere c → IsOutside f)
  told_outside told = by_case r told
    where
      by_case : (r : Result ℕ StoreFault) → IfErr r (λ f. (m : ℕ) → rows ≡ shown_number m ∷ [] → IsOutside f)
          → IfErr r (λ f. (c : Content) → IsThere c → IsOutside f)
      by_case (Ok n) told = tt
      by_case (Err f) told = λ c at. told (sizes_of c.nodes) (is c at)
