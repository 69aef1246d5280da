-- How many records a map has.
use Rattle.std.proofs.Common.{◌≡◌, ℕ, ◌||◌, true, false, cond, nat_eq, ◌==◌, List, [], ◌∷◌, length, is_some, Some, refl, sym, ap, ◌∙◌, arith}
use Rattle.std.proofs.Common.{suc}
use Rattle.std.specs.HashMap.{HashMap, IsUnique, keys}
use Rattle.std.specs.Map.{lookup, keys_of}
use Rattle.fuse_answer.specs.Said.{Said}
use Rattle.fuse_keeper.specs.History.{is_in}
use Rattle.fuse_keeper.specs.Stands.{Records, CountsRecords}
use Rattle.fuse_keeper.specs.Plain.{mapped}

turned_test : (x i : ℕ) → (x == i) ≡ nat_eq i x
turned_test x i = grind arith

is_key : (es : List (ℕ × Said)) (i : ℕ) → is_in (keys_of es) i ≡ is_some (lookup (nat_eq i) es)
is_key [] i = refl
is_key (e ∷ es) i =
    ap (λ b. b || is_in (keys_of es) i) (turned_test e.0 i)
    ∙ elim (nat_eq i e.0) as (λ b. (b || is_in (keys_of es) i) ≡ is_some (cond b (Some e.1) (lookup (nat_eq i) es)))
    [ true ↦ refl | false ↦ is_key es i ]

keys_number : (es : List (ℕ × Said)) → length (keys_of es) ≡ length es
keys_number [] = refl
keys_number (e ∷ es) = ap (λ n. suc n) (keys_number es)

-- the records of a map, counted
pub counts_mapped : {S : Type 0} (m : HashMap ℕ Said S) (n : ℕ) (records : Records) → n ≡ length m.entries → IsUnique nat_eq m
    → ((i : ℕ) → records i ≡ mapped m i) → CountsRecords records n
counts_mapped m n records is once are = record {
  ids = keys m;
  number = keys_number m.entries ∙ sym is;
  once = once;
  all = λ i. is_key m.entries i ∙ ap is_some (sym (are i));
}
