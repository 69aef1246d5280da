-- A pair whose value is changed, and a pair that is put.
use Rattle.std.proofs.Common.{◌≡◌, inl, inr, ℕ, pos, List, [], ◌∷◌, map, length, find, codes, Bool, true, false, nat_lt, Some, None, Option, Result, IfOk, Less, refl, sym, ap, subst, arith, ◌∙◌}
use Rattle.std.specs.List.{AllByRecursion}
use Rattle.std.specs.List.Sorted.{IsPermutation}
use Rattle.std.specs.Option.{option_to_list, is_some}
use Rattle.std.specs.Ordering.{is_eq, nat_cmp}
use Rattle.std.proofs.lemmas.Bool.{cases_Bool}
use Rattle.std.proofs.lemmas.Bool.Decides.{nat_tests}
use Rattle.sqlite.specs.declared.types.Value.TheVariants.{Null, Int, Blob}
use Rattle.sqlite.specs.Order.{Row}
use Rattle.sqlite.specs.Tree.{Trees}
use Rattle.sqlite_trees.specs.Tree.{IsTable, rowid, put_row, without_rowid}
use Rattle.sqlite_trees.proofs.TreeLemmas.{IsTable-put_row}
use Rattle.sqlite_catalog.proofs.LayoutLemmas.{ascending_filter}
use Rattle.sqlite_value.specs.Order.{value_cmp}
use Rattle.sqlite.specs.Term.{Term, lit, col, eval_all}
use Rattle.sqlite.specs.Program.{overlay}
use Rattle.sqlite.specs.Effect.{Answers}
use Rattle.sqlite.specs.Command.TheVariants.{Update}
use Rattle.sqlite.specs.Edit.{edit_of, edited}
use Rattle.sqlite.specs.Rowids.TheVariants.{Given}
use Rattle.sqlite_rules.specs.Cast.{cast_row}
use Rattle.sqlite_rules.specs.Calls.{ids_of}
use Rattle.sqlite_schema.specs.declared.schema.Keys.TheVariants.{Enforced}
use Rattle.sqlite_tied.specs.Compute.{everything}
use Rattle.sqlite.specs.declared.error.Error.{Error}
use Rattle.sqlite.specs.Listing.{understood}
use Rattle.sqlite.specs.State.{State, HasCleanDisk, Survives, CommitsBy, Writes}
use Rattle.sqlite.proofs.Callers.{IsPlain, command_of, statement_of}
use Rattle.sqlite_resolve.specs.Compile.{first}
use Rattle.fuse_store_tables.specs.Content.{at_by, set_by}
use Rattle.fuse_store_tables.specs.inner.Performing.{RanAny}
use Rattle.fuse_store_tables.specs.inner.Rows.{Edits}
use Rattle.guest_tables.proofs.any_schema.Edits.{IsEditText}
use Rattle.guest_tables.proofs.any_schema.Keyed.{row_cmp_nat, none_there, set_rows}
use Rattle.guest_tables.proofs.any_schema.Reading.{answered, only}
use Rattle.guest_tables.proofs.any_schema.RowLemmas.{cast_int, updated, counted}
use Rattle.guest_tables.proofs.any_schema.Tables.{wrote}
use Rattle.guest_tables.proofs.any_schema.Updating.{changing, some_changed}
use Rattle.guest_tables.proofs.any_schema.Writing.{makes_any, says_any}
use Rattle.guest_tables.specs.Layout.{guest_schema, pair_table}
use Rattle.guest_tables.specs.Rows.{PairRow, pair_row, AreApart, has_key, pair_at, revalued, set_at}
use Rattle.guest_tables.specs.Content.{GuestContent, Holds, stored, with_pair, set_pair, put_value}
use Rattle.guest_tables.specs.Moves.{Inside, Makes}
use Rattle.guest_tables.proofs.PairTables.{only_pairs, has_pairs, quiet_guest, pairs_apart, slot_of}
use Rattle.guest_tables.proofs.PairsOfRows.{found_one, none_set, others_lack}
use Rattle.guest_tables.proofs.PairRows.{guest_known, given_pair, key_terms, tests_key}

-- ---- by the key or by the slot

same_some : (x y : PairRow) → ◌≡◌ {A = Option PairRow} (Some x) (Some y) → x ≡ y
same_some x y e = cc

higher : (a : PairRow) (ps : List PairRow) → AllByRecursion (λ r. value_cmp (rowid (pair_row a)) (rowid r) ≡ Less) (map pair_row ps)
    → AllByRecursion (λ b. nat_cmp a.slot b.slot ≡ Less) ps
higher a [] rise = tt
higher a (b ∷ ps) rise = (sym (row_cmp_nat a.slot b.slot) ∙ rise.0, higher a ps rise.1)

found_in : (P : PairRow → Type 0) (p : PairRow → Bool) (ps : List PairRow) (b : PairRow) → AllByRecursion P ps → find p ps ≡ Some b → P b
found_in P p [] b all found = absurd cc
found_in P p (x ∷ ps) b all found = elim (cases_Bool (p x)) [
  | inl here ↦ subst P (same_some x b (rw here at found)) all.0
  | inr not_here ↦ found_in P p ps b all.1 (rw not_here at found)
]

below : (a b : ℕ) → nat_cmp a b ≡ Less → is_eq (nat_cmp a b) ≡ false
below a b less = ap is_eq less

above : (a b : ℕ) → nat_cmp a b ≡ Less → is_eq (nat_cmp b a) ≡ false
above a b less = grind (arith, nat_tests)

itself : (a : ℕ) → is_eq (nat_cmp a a) ≡ true
itself a = grind (arith, nat_tests)

kept_by_slot : (s : ℕ) (value : List ℕ) (ps : List PairRow) → AllByRecursion (λ b. nat_cmp s b.slot ≡ Less) ps → set_by slot_of s (revalued value) ps ≡ ps
kept_by_slot s value [] higher = refl
kept_by_slot s value (b ∷ ps) higher = rw (above s b.slot higher.0) (ap (λ rest. b ∷ rest) (kept_by_slot s value ps higher.1))

pub missing : (key value : List ℕ) (ps : List PairRow) → pair_at key ps ≡ None → set_at key value ps ≡ ps
missing key value [] none = refl
missing key value (b ∷ ps) none = elim (cases_Bool (has_key key b)) [
  | inl here ↦ absurd (let e = rw here at none in cc)
  | inr not_here ↦ rw not_here (ap (λ rest. b ∷ rest) (missing key value ps (rw not_here at none)))
]

by_slot : (key value : List ℕ) (ps : List PairRow) (b : PairRow) → IsTable (map pair_row ps) → AreApart ps → pair_at key ps ≡ Some b
    → (at_by slot_of b.slot ps ≡ Some b) × (set_by slot_of b.slot (revalued value) ps ≡ set_at key value ps)
by_slot key value [] b rise apart found = absurd cc
by_slot key value (x ∷ ps) b rise apart found = elim (cases_Bool (has_key key x)) [
  | inl here ↦
      let is : x ≡ b = same_some x b (rw here at found) in
      let slots : is_eq (nat_cmp x.slot b.slot) ≡ true = subst (λ y. is_eq (nat_cmp x.slot y.slot) ≡ true) is (itself x.slot) in
      let rest : set_by slot_of b.slot (revalued value) ps ≡ ps =
      kept_by_slot b.slot value ps (subst (λ y. AllByRecursion (λ z. nat_cmp y.slot z.slot ≡ Less) ps) is (higher x ps rise.0)) in
      (rw slots (ap Some is), rw (slots, here) (ap (λ l. revalued value x ∷ l) (rest ∙ sym (none_set key value ps (others_lack key x ps here apart.0)))))
  | inr not_here ↦
      let later : pair_at key ps ≡ Some b = rw not_here at found in
      let slots : is_eq (nat_cmp x.slot b.slot) ≡ false =
      below x.slot b.slot (found_in (λ y. nat_cmp x.slot y.slot ≡ Less) (has_key key) ps b (higher x ps rise.0) later) in
      let more = by_slot key value ps b rise.1 apart.1 later in
      (rw slots more.0, rw (slots, not_here) (ap (λ l. x ∷ l) more.1))
]

-- ---- the statement

abbrev pub update_text : List ℕ
update_text = codes "UPDATE pairs SET value = ?2, place = 0, len = 0, sum = 0 WHERE key = ?1"

abbrev update_terms : List Term
update_terms = col 1 0 ∷ col 1 1 ∷ col 0 1 ∷ lit (Int (pos 0)) ∷ lit (Int (pos 0)) ∷ lit (Int (pos 0)) ∷ []

update_is : command_of (understood guest_schema update_text) ≡ Update 1 (changing 1 key_terms update_terms)
unfolding understood everything
update_is = refl

update_plain : IsPlain (understood guest_schema update_text)
unfolding understood everything
update_plain = (refl, refl)

pub update_edit : IsEditText (first update_text)
unfolding first everything
update_edit = tt

module _ (key value : List ℕ) where
  abbrev cells : PairRow → Row
  cells p = Int (pos p.slot) ∷ Blob p.key ∷ Blob value ∷ Int (pos 0) ∷ Int (pos 0) ∷ Int (pos 0) ∷ []

  abbrev source : PairRow → Row
  source p = Int (pos p.slot) ∷ cells p

  cast_cells : (p : PairRow) → cast_row pair_table (cells p) ≡ pair_row (revalued value p)
  cast_cells p = rw (cast_int (pos p.slot), cast_int (pos 0)) refl

  edited_by : (all : List PairRow) (x : PairRow) (db : Trees) → db 1 ≡ map pair_row all → IsTable (db 1) → at_by slot_of x.slot all ≡ Some x
      → (edited db (edit_of db pair_table (ids_of (map source (x ∷ []))) Given 1 (map source (x ∷ []))) ≡ map pair_row (set_by slot_of x.slot (revalued value) all))
      × IsTable (edited db (edit_of db pair_table (ids_of (map source (x ∷ []))) Given 1 (map source (x ∷ []))))
  edited_by all x db has rise is =
      let now : edited db (edit_of db pair_table (ids_of (source x ∷ [])) Given 1 (source x ∷ [])) ≡ put_row (pair_row (revalued value x)) (without_rowid (pos x.slot)
      (db 1)) =
      ap (λ r. put_row r (without_rowid (pos x.slot) (db 1))) (cast_cells x) in (
        now ∙ ap (λ rows. put_row (pair_row (revalued value x)) (without_rowid (pos x.slot) rows)) has
            ∙ set_rows slot_of pair_row (λ _. refl) x.slot (revalued value) (λ _. refl) all x (subst IsTable has rise) is,
        subst IsTable (sym now) (IsTable-put_row (pair_row (revalued value x)) _ (ascending_filter _ _ (db 1) rise)),
      )

  edited_at : (ps : List PairRow) (o : Option PairRow) (db : Trees) → db 1 ≡ map pair_row ps → IsTable (db 1) → AreApart ps → pair_at key ps ≡ o
      → (edited db (edit_of db pair_table (ids_of (map source (option_to_list o))) Given 1 (map source (option_to_list o))) ≡ map pair_row (set_at key value ps))
      × IsTable (edited db (edit_of db pair_table (ids_of (map source (option_to_list o))) Given 1 (map source (option_to_list o))))
  edited_at ps None db has rise apart none = (has ∙ ap (map pair_row) (sym (missing key value ps none)), rise)
  edited_at ps (Some b) db has rise apart found =
      let by = by_slot key value ps b (subst IsTable has rise) apart found in
      let made = edited_by ps b db has rise by.0 in
      (made.0 ∙ ap (map pair_row) by.1, made.1)

  shows_all : (xs : List PairRow) → map (λ x. eval_all (col 1 0 ∷ update_terms) (given_pair key value ∷ pair_row x ∷ [])) xs ≡ map source xs
  shows_all [] = refl
  shows_all (x ∷ xs) = ap (λ more. source x ∷ more) (shows_all xs)

  asked_for : (c : GuestContent) (old new : State) (n : ℕ) → Holds c old.now → Writes old new None (Update 1 (changing 1 key_terms update_terms))
      (statement_of update_text (understood guest_schema update_text)) (given_pair key value) n
      → Edits pair_table 1 (map source (option_to_list (pair_at key c.pairs))) (map source (option_to_list (pair_at key c.pairs))) old.now new.now
      × (n ≡ length (map source (option_to_list (pair_at key c.pairs))))
  asked_for c old new n at w =
      let q = changing 1 key_terms update_terms in
      let params = given_pair key value in
      let found = pair_at key c.pairs in
      let reads = λ (rows : List Row) (h : Answers (record old.now { schema = guest_schema }) q params rows).
      let all = answered pair_row (has_key key) Null (overlay old.now.trees []) key_terms params (tests_key key (Blob value ∷ [])) 1 (col 1 0 ∷ update_terms)
      c.pairs rows (has_pairs c old.now at).0 (h.answer Null) in
      let mine = subst (λ l. IsPermutation l rows) (shows_all _) all in
      only found source rows (subst (λ l. IsPermutation (map source l) rows) (found_one key c.pairs (pairs_apart c old.now at)) mine) in (
        updated guest_schema 1 pair_table refl q old new _ params n (map source (option_to_list found)) at.schema reads
            (λ olds news. quiet_guest Enforced olds news) w,
        counted guest_schema 1 pair_table refl q old new _ params n (map source (option_to_list found)) at.schema reads
            (λ olds news. quiet_guest Enforced olds news) w,
      )

  changed : (c : GuestContent) (old new : State) (n : ℕ) → Holds c old.now → Writes old new None (Update 1 (changing 1 key_terms update_terms))
      (statement_of update_text (understood guest_schema update_text)) (given_pair key value) n → Holds (set_pair key value c) new.now
  changed c old new n at w =
      let was = has_pairs c old.now at in
      let edit = (asked_for c old new n at w).0 in
      let made = edited_at c.pairs (pair_at key c.pairs) old.now.trees was.0 was.1 (pairs_apart c old.now at) refl in
      wrote guest_schema (stored c) (stored (set_pair key value c)) pair_table old.now new.now at edit.spares w.sound (only_pairs c (set_at key value c.pairs))
      (edit.rows ∙ made.0) (subst IsTable (sym edit.rows) made.1)

  changed_some : (c : GuestContent) (old new : State) (n : ℕ) → Holds c old.now → Writes old new None (Update 1 (changing 1 key_terms update_terms))
      (statement_of update_text (understood guest_schema update_text)) (given_pair key value) n → nat_lt 0 n ≡ is_some (pair_at key c.pairs)
  changed_some c old new n at w = some_changed (pair_at key c.pairs) source n (asked_for c old new n at w).1

  pub sets : (old new : State) (r : Result Bool Error) → (HasCleanDisk new → RanAny update_text (given_pair key value) old new r)
      → Survives old new (CommitsBy update_text (given_pair key value) old) → Makes (set_pair key value) old new r
  sets = makes_any Holds guest_schema guest_known update_text (given_pair key value) (Update 1 (changing 1 key_terms update_terms)) update_is update_plain refl
      update_edit (λ c. Holds (set_pair key value c)) changed

  pub sets_some : (old new : State) (r : Result Bool Error) → (HasCleanDisk new → RanAny update_text (given_pair key value) old new r)
      → HasCleanDisk new → IfOk r (λ any. (c : GuestContent) → Inside c old → any ≡ is_some (pair_at key c.pairs))
  sets_some = says_any Holds guest_schema guest_known update_text (given_pair key value) (Update 1 (changing 1 key_terms update_terms)) update_is update_plain refl
      (λ c. is_some (pair_at key c.pairs)) changed_some

  -- ---- in place of the value before, or as a new pair

  pub put_over : (c : GuestContent) → is_some (pair_at key c.pairs) ≡ true → set_pair key value c ≡ put_value key value c
  put_over c is = rw is refl

  pub put_new : (c : GuestContent) → is_some (pair_at key c.pairs) ≡ false → with_pair key value (set_pair key value c) ≡ put_value key value c
  put_new c is =
      rw is (ap (λ ps. with_pair key value (record c { pairs = ps })) (missing key value c.pairs (none_there (pair_at key c.pairs) is)))
