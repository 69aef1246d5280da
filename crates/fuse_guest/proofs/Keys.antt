-- The order of keys, and whether two are the same.
use Rattle.std.proofs.Common.{◌≡◌, ◌≢◌, ℕ, true, false, List, refl, ap, ◌∙◌}
use Rattle.std.specs.Cmp.Lexicographic.{bytes_decides, texts_ties, nat_list_cmp_total}
use Rattle.std.proofs.Common.{Ordering, Less, Equal}
use Rattle.std.specs.Ordering.{is_eq, ordering_reverse}
use Rattle.std.proofs.lemmas.Bool.{false_from_ne_true}
use Rattle.fuse_guest.specs.Pairs.{key_order, is_same_key}

pub same_itself : (k : List ℕ) → is_same_key k k ≡ true
same_itself k = (bytes_decides k k).1 refl

pub same_is : (j k : List ℕ) → is_same_key j k ≡ true → j ≡ k
same_is j k same = (bytes_decides j k).0 same

pub not_same : (j k : List ℕ) → j ≢ k → is_same_key j k ≡ false
not_same j k other = false_from_ne_true (is_same_key j k) (λ same. other (same_is j k same))

-- what an order says of the test
pub same_by : (j k : List ℕ) (o : Ordering) → key_order j k ≡ o → is_same_key j k ≡ is_eq o
same_by j k o order = texts_ties j k ∙ ap is_eq order

pub equal_is : (j k : List ℕ) → key_order j k ≡ Equal → j ≡ k
equal_is j k order = same_is j k (same_by j k Equal order)

-- the other way round
pub turned : (j k : List ℕ) (o : Ordering) → key_order j k ≡ o → key_order k j ≡ ordering_reverse o
turned j k o order = nat_list_cmp_total.antisymm k j ∙ ap ordering_reverse order

pub less_less : (i j k : List ℕ) → key_order i j ≡ Less → key_order j k ≡ Less → key_order i k ≡ Less
less_less i j k first second = nat_list_cmp_total.trans i j k first second
