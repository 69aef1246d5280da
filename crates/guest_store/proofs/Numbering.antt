-- How many records there are.
use Rattle.std.proofs.Common.{◌≡◌, ◌<◌, ◌==◌, ℕ, pos, Bool, true, false, List, [], ◌∷◌, map, length, Option, Some, option_map, is_some, Less, ◌||◌}
use Rattle.std.proofs.Common.{if◌then◌else◌, suc}
use Rattle.std.proofs.Common.{refl, sym, ap, subst, arith, ◌∙◌, int_cmp}
use Rattle.std.specs.Prelude.{nat_eq}
use Rattle.std.specs.List.{AllByRecursion, IsDistinct}
use Rattle.std.specs.Ordering.{nat_cmp, is_eq}
use Rattle.std.proofs.lemmas.Bool.Decides.{nat_tests}
use Rattle.sqlite.specs.Effect.{Database}
use Rattle.sqlite_trees.specs.Tree.{IsTable, rowid}
use Rattle.sqlite.specs.declared.types.Value.TheVariants.{Int}
use Rattle.sqlite_value.specs.Order.{value_cmp}
use Rattle.sqlite_value.proofs.OrderLemmas.{value_cmp-Int}
use Rattle.fuse_keeper.specs.History.{is_in}
use Rattle.fuse_keeper.specs.Stands.{Records, CountsRecords}
use Rattle.fuse_store_tables.specs.Content.{Kept, kept_key, kept_row, at_by, has_by}
use Rattle.fuse_guest.specs.Talk.{Guest}
use Rattle.fuse_guest.specs.GuestModel.{GuestState}
use Rattle.guest_tables.specs.Content.{GuestContent, Holds}
use Rattle.guest_tables.specs.Holding.{GuestHolding}
use Rattle.guest_store.specs.Holding.{records_of}
use Rattle.guest_store.specs.StoreState.{HeldOf, StoredFor}
use Rattle.guest_store.specs.TableState.{IsOf}

-- ---- the ids of the table rise, so none stands twice

int_cmp_nat : (m n : ℕ) → int_cmp (pos m) (pos n) ≡ nat_cmp m n
int_cmp_nat m n = grind (arith, nat_tests)

less_below : (a b : ℕ) → nat_cmp a b ≡ Less → a < b
less_below a b is = grind (arith, nat_tests)

-- keys are compared as numbers
below_key : (a b : ℕ) → value_cmp (Int (pos a)) (Int (pos b)) ≡ Less → a < b
below_key a b is = less_below a b (sym (int_cmp_nat a b) ∙ sym (value_cmp-Int (pos a) (pos b)) ∙ is)

apart : (a b : ℕ) → a < b → nat_eq a b ≡ false
apart a b low = grind (arith, nat_tests)

others : (x : Kept) (ks : List Kept) → AllByRecursion (λ r. value_cmp (rowid (kept_row x)) (rowid r) ≡ Less) (map kept_row ks)
    → AllByRecursion (λ i. nat_eq x.id i ≡ false) (map kept_key ks)
others x [] above = tt
others x (k ∷ ks) above = (apart x.id k.id (below_key x.id k.id above.0), others x ks above.1)

distinct : (ks : List Kept) → IsTable (map kept_row ks) → IsDistinct nat_eq (map kept_key ks)
unfolding IsDistinct
distinct [] rise = tt
distinct (k ∷ ks) rise = (others k ks rise.0, distinct ks rise.1)

-- ---- each is the id of a record

same_number : (a b : ℕ) → is_eq (nat_cmp a b) ≡ (a == b)
same_number a b = grind (arith, nat_tests)

found : (b c : Bool) (k : Kept) (o : Option Kept) (r : Bool) → c ≡ b → r ≡ is_some (option_map (λ x. x.said) o)
    → (b || r) ≡ is_some (option_map (λ x. x.said) (if c then Some k else o))
found true true k o r same rest = refl
found true false k o r same rest = absurd cc
found false true k o r same rest = absurd cc
found false false k o r same rest = rest

all_there : (ks : List Kept) (i : ℕ) → is_in (map kept_key ks) i ≡ is_some (records_of ks i)
all_there [] i = refl
all_there (k ∷ ks) i = found (k.id == i) (has_by kept_key i k) k (at_by kept_key i ks) (is_in (map kept_key ks) i) (same_number k.id i) (all_there ks i)

-- ---- of what a keeper holds

counted : (ks : List Kept) → length (map kept_key ks) ≡ length ks
counted [] = refl
counted (k ∷ ks) = ap suc (counted ks)

kept_table : (c : GuestContent) (d : Database) → Holds c d → (d.trees 4 ≡ map kept_row c.kept) × IsTable (d.trees 4)
kept_table c d at = at.rows.1.1.1.0

pub counts_records : (G : Guest) (number : ℕ) (y : HeldOf G) (rows : GuestState) (records : Records) (d : Database) → StoredFor G number y d → IsOf G y rows records
    → (n : ℕ) → n ≡ length y.kept → CountsRecords records n
counts_records G number y rows records d at is n same =
    let (c, held, fit, so) = at.held in
    let has = kept_table c d held in
    let rows_are : d.trees 4 ≡ map kept_row y.kept = has.0 ∙ ap (λ (h : GuestHolding). map kept_row h.kept) so in
    record {
      ids = map kept_key y.kept;
      number = counted y.kept ∙ sym same;
      once = distinct y.kept (subst IsTable rows_are has.1);
      all = λ i. all_there y.kept i ∙ ap is_some (sym (is.records_are i));
    }
