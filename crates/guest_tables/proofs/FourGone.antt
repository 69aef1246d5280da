-- Four records that go by one statement.
use Rattle.std.proofs.Common.{◌≡◌, ◌≤◌, ℕ, pos, List, [], ◌∷◌, map, filter, codes, Bool, true, false, not, cond, ◌&&◌, ◌||◌, Some, None}
use Rattle.std.proofs.Common.{Result, refl, ap, arith, ◌∙◌}
use Rattle.std.specs.List.{list_all}
use Rattle.std.specs.Ordering.{is_eq, is_ge, is_le, nat_cmp}
use Rattle.std.specs.declared.cmp.Ordering.{Ordering}
use Rattle.std.proofs.lemmas.Bool.Decides.{nat_tests}
use Rattle.sqlite.specs.declared.types.Value.TheVariants.{Int}
use Rattle.sqlite.specs.Order.{Row}
use Rattle.sqlite_value.specs.Order.{value_cmp}
use Rattle.sqlite_value.specs.declared.keys.Collation.TheVariants.{Binary}
use Rattle.sqlite_sql.specs.declared.ops.BinaryOp.TheVariants.{Compare, Or}
use Rattle.sqlite_sql.specs.declared.ops.CompareOp.TheVariants.{Eq, Ge, Le}
use Rattle.sqlite_sql.specs.Ops.{binary, is_true, from_truth, truth, or3}
use Rattle.sqlite.specs.Term.{Term, col, op2, holds}
use Rattle.sqlite.specs.Command.TheVariants.{Delete}
use Rattle.sqlite_tied.specs.Compute.{everything}
use Rattle.sqlite.specs.declared.error.Error.{Error}
use Rattle.sqlite.specs.Listing.{understood}
use Rattle.sqlite.specs.State.{State, HasCleanDisk, Survives, CommitsBy, Writes}
use Rattle.sqlite.proofs.Callers.{IsPlain, command_of, statement_of}
use Rattle.fuse_store_tables.specs.Content.{Kept, has_by, without_by, kept_key, kept_row}
use Rattle.fuse_store_tables.specs.inner.Performing.{Ran}
use Rattle.guest_tables.proofs.any_schema.Tables.{wrote}
use Rattle.guest_tables.proofs.any_schema.Keyed.{row_cmp_nat}
use Rattle.sqlite_resolve.specs.Compile.{first}
use Rattle.guest_tables.proofs.any_schema.Edits.{IsEditText}
use Rattle.guest_tables.proofs.any_schema.Writing.{makes}
use Rattle.guest_tables.specs.Layout.{guest_schema, kept_table}
use Rattle.guest_tables.specs.Content.{GuestContent, Holds, stored, without_four}
use Rattle.guest_tables.specs.Moves.{Makes}
use Rattle.guest_tables.proofs.Deletes.{picking, picks}
use Rattle.guest_tables.proofs.Tables.{kept_listed, laid, only_kept}

-- ---- the statement

abbrev pub four_text : List ℕ
four_text = codes "DELETE FROM kept WHERE id >= ?1 AND id <= ?4 AND id IN (?1, ?2, ?3, ?4)"

abbrev same : ℕ → Term
same at = op2 (Compare Eq Binary) (col 1 0) (col 0 at)

abbrev four_terms : List Term
four_terms =
    op2 (Compare Ge Binary) (col 1 0) (col 0 0) ∷ op2 (Compare Le Binary) (col 1 0) (col 0 3)
    ∷ op2 Or (op2 Or (same 0) (same 1)) (op2 Or (same 2) (same 3)) ∷ []

four_is : command_of (understood guest_schema four_text) ≡ Delete 3 (picking 4 four_terms)
unfolding understood everything
four_is = refl

four_plain : IsPlain (understood guest_schema four_text)
unfolding understood everything
four_plain = (refl, refl)

pub four_edit : IsEditText (first four_text)
unfolding first everything
four_edit = tt

-- ---- its test

or_is : (a b : Bool) → from_truth (or3 (truth (from_truth (Some a))) (truth (from_truth (Some b)))) ≡ from_truth (Some (a || b))
or_is true true = refl
or_is true false = refl
or_is false true = refl
or_is false false = refl

all_is : (a b d : Bool) → (is_true (from_truth (Some a)) && (is_true (from_truth (Some b)) && (is_true (from_truth (Some d)) && true))) ≡ (a && (b && d))
all_is true true true = refl
all_is true true false = refl
all_is true false d = refl
all_is false b d = refl

abbrev full : Ordering → Ordering → Ordering → Ordering → Bool
full a b c d =
    is_true (from_truth (Some (is_ge a))) && (is_true (from_truth (Some (is_le d)))
    && (is_true (from_truth (or3 (truth (from_truth (or3 (truth (from_truth (Some (is_eq a)))) (truth (from_truth (Some (is_eq b)))))))
    (truth (from_truth (or3 (truth (from_truth (Some (is_eq c)))) (truth (from_truth (Some (is_eq d)))))))))
    && true))

full_is : (a b c d : Ordering) → full a b c d ≡ (is_ge a && (is_le d && ((is_eq a || is_eq b) || (is_eq c || is_eq d))))
full_is a b c d =
    ap (λ v. is_true (from_truth (Some (is_ge a))) && (is_true (from_truth (Some (is_le d))) && (is_true (from_truth (or3 (truth v)
    (truth (from_truth (or3 (truth (from_truth (Some (is_eq c)))) (truth (from_truth (Some (is_eq d))))))))) && true))) (or_is (is_eq a) (is_eq b))
    ∙ ap (λ v. is_true (from_truth (Some (is_ge a))) && (is_true (from_truth (Some (is_le d))) && (is_true (from_truth (or3
    (truth (from_truth (Some (is_eq a || is_eq b)))) (truth v))) && true))) (or_is (is_eq c) (is_eq d))
    ∙ ap (λ v. is_true (from_truth (Some (is_ge a))) && (is_true (from_truth (Some (is_le d))) && (is_true v && true)))
    (or_is (is_eq a || is_eq b) (is_eq c || is_eq d))
    ∙ all_is (is_ge a) (is_le d) ((is_eq a || is_eq b) || (is_eq c || is_eq d))

module _ (first second third last : ℕ) where
  abbrev params : Row
  params = Int (pos first) ∷ Int (pos second) ∷ Int (pos third) ∷ Int (pos last) ∷ []

  abbrev is_one : Kept → Bool
  is_one x = (has_by kept_key first x || has_by kept_key second x) || (has_by kept_key third x || has_by kept_key last x)

  abbrev passes : Kept → Bool
  passes x = is_ge (nat_cmp x.id first) && (is_le (nat_cmp x.id last) && is_one x)

  tests : (x : Kept) → list_all (holds (params ∷ kept_row x ∷ [])) four_terms ≡ passes x
  unfolding binary
  tests x =
      ap (λ o. full o (value_cmp (Int (pos x.id)) (Int (pos second))) (value_cmp (Int (pos x.id)) (Int (pos third))) (value_cmp (Int (pos x.id)) (Int (pos last))))
      (row_cmp_nat x.id first)
      ∙ ap (λ o. full (nat_cmp x.id first) o (value_cmp (Int (pos x.id)) (Int (pos third))) (value_cmp (Int (pos x.id)) (Int (pos last)))) (row_cmp_nat x.id second)
      ∙ ap (λ o. full (nat_cmp x.id first) (nat_cmp x.id second) o (value_cmp (Int (pos x.id)) (Int (pos last)))) (row_cmp_nat x.id third)
      ∙ ap (full (nat_cmp x.id first) (nat_cmp x.id second) (nat_cmp x.id third)) (row_cmp_nat x.id last)
      ∙ full_is (nat_cmp x.id first) (nat_cmp x.id second) (nat_cmp x.id third) (nat_cmp x.id last)

  -- ---- what it leaves

  module _ (low : first ≤ second) (mid : second ≤ third) (high : third ≤ last) where
    near : (n : ℕ) → (is_ge (nat_cmp n first) && (is_le (nat_cmp n last) && ((is_eq (nat_cmp n first) || is_eq (nat_cmp n second))
        || (is_eq (nat_cmp n third) || is_eq (nat_cmp n last)))))
        ≡ ((is_eq (nat_cmp n first) || is_eq (nat_cmp n second)) || (is_eq (nat_cmp n third) || is_eq (nat_cmp n last)))
    near n = grind (arith, nat_tests, low, mid, high)

    left : (xs : List Kept) → filter (λ x. not (passes x)) xs
        ≡ without_by kept_key last (without_by kept_key third (without_by kept_key second (without_by kept_key first xs)))
    left [] = refl
    left (x ∷ xs) = rw (near x.id) (by (has_by kept_key first x) (has_by kept_key second x) (has_by kept_key third x) (has_by kept_key last x) refl refl refl refl (left xs))
      where
        by : (a b c d : Bool) → has_by kept_key first x ≡ a → has_by kept_key second x ≡ b → has_by kept_key third x ≡ c → has_by kept_key last x ≡ d
            → filter (λ y. not (passes y)) xs
            ≡ without_by kept_key last (without_by kept_key third (without_by kept_key second (without_by kept_key first xs)))
            → cond (not ((a || b) || (c || d))) (x ∷ filter (λ y. not (passes y)) xs) (filter (λ y. not (passes y)) xs)
            ≡ without_by kept_key last (without_by kept_key third (without_by kept_key second (without_by kept_key first (x ∷ xs))))
        by true b c d is is_b is_c is_d more = rw is more
        by false true c d is is_b is_c is_d more = rw is (rw is_b more)
        by false false true d is is_b is_c is_d more = rw is (rw is_b (rw is_c more))
        by false false false true is is_b is_c is_d more = rw is (rw is_b (rw is_c (rw is_d more)))
        by false false false false is is_b is_c is_d more = rw is (rw is_b (rw is_c (rw is_d (ap (λ l. x ∷ l) more))))

    gone : (c : GuestContent) (old new : State) (n : ℕ) → Holds c old.now → Writes old new None (Delete 3 (picking 4 four_terms)) (statement_of four_text
        (understood guest_schema four_text)) params n → Holds (without_four first second third last c) new.now
    gone c old new n at w =
        let was = (laid c old.now at).kept in
        let now = picks kept_key kept_row (λ _. refl) passes 3 kept_table kept_listed four_terms params tests (λ _. refl) c.kept old new _ n at.schema was.0 was.1 w in
        wrote guest_schema (stored c) (stored (without_four first second third last c)) kept_table old.now new.now at now.2 w.sound (only_kept c _)
        (now.0 ∙ ap (map kept_row) (left c.kept)) now.1

    pub removes_four : (old new : State) (r : Result (Unit {0}) Error) → (HasCleanDisk new → Ran four_text params old new r)
        → Survives old new (CommitsBy four_text params old) → Makes (without_four first second third last) old new r
    removes_four = makes Holds guest_schema (λ c d h. h.schema) four_text params (Delete 3 (picking 4 four_terms)) four_is four_plain refl four_edit
        (λ c. Holds (without_four first second third last c)) gone
