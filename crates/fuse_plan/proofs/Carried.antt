-- What a node may have for content.
use Rattle.std.proofs.Common.{◌≡◌, ◌≤◌, ◌||◌, ◌==◌, ℕ, Bool, true, false, List, [], refl, sym, ap, ◌∙◌, arith}
use Rattle.std.proofs.lemmas.Bool.{eqb-true}
use Rattle.fuse_init.specs.declared.profile.Profile.{Profile}
use Rattle.fuse_init.specs.declared.profile.Profile.TheVariants.{Plain, Everyday}
use Rattle.fuse_init.specs.Profile.{Terms, terms}
use Rattle.fuse_rows.specs.Bounds.{target_limit}
use Rattle.fuse_tree.specs.State.{IsTarget, Carries, is_file, is_link, type_of}

-- nothing, where it isn't a link
pub nothing_carried : (t : Terms) (mode : ℕ) → is_link mode ≡ false → Carries t mode []
nothing_carried t mode isnt = record { others = λ _. refl; target = λ is. absurd cc; links = λ is. absurd cc }

pub file_no_link : (mode : ℕ) → is_file mode ≡ true → is_link mode ≡ false
file_no_link mode is = ap (λ (k : ℕ). k == 10) (eqb-true (type_of mode) 8 is)

first_is : (b c : Bool) → b ≡ true → (b || c) ≡ false → ⊥
first_is true c is isnt = absurd cc
first_is false c is isnt = absurd cc

second_is : (b c : Bool) → c ≡ true → (b || c) ≡ false → ⊥
second_is true c is isnt = absurd cc
second_is false c is isnt = absurd cc

-- anything, where it is a file
pub bytes_carried : (t : Terms) (mode : ℕ) (content : List ℕ) → is_file mode ≡ true → Carries t mode content
bytes_carried t mode content is =
    let isnt_link = file_no_link mode is in
    record { others = λ isnt. absurd (first_is (is_file mode) (is_link mode) is isnt); target = λ link. absurd cc; links = λ link. absurd cc }

-- a target, where it is a link
pub target_carried : (t : Terms) (mode : ℕ) (target : List ℕ) → is_link mode ≡ true → t.links ≡ true → IsTarget target → Carries t mode target
target_carried t mode target is links target_is =
    record { others = λ isnt. absurd (second_is (is_file mode) (is_link mode) is isnt); target = λ _. target_is; links = λ _. links }

-- by the kind alone
pub carried_by_kind : (t : Terms) (old new : ℕ) (content : List ℕ) → type_of new ≡ type_of old → Carries t old content → Carries t new content
carried_by_kind t old new content same p =
    let either : (is_file new || is_link new) ≡ (is_file old || is_link old) = ap (λ (k : ℕ). (k == 8) || (k == 10)) same in
    let link : is_link new ≡ is_link old = ap (λ (k : ℕ). k == 10) same in
    record {
      others = λ isnt. p.others (sym either ∙ isnt);
      target = λ is. p.target (sym link ∙ is);
      links = λ is. p.links (sym link ∙ is);
    }

-- a target fits every profile
pub target_fits : (p : Profile) (n : ℕ) → n ≤ target_limit → n ≤ (terms p).file_limit
target_fits Plain n few = omega (arith, few)
target_fits Everyday n few = omega (arith, few)

-- a profile with an opcode beside those of the protocol's has links
pub further_links : (p : Profile) (opcode : ℕ) → (terms p).further opcode ≡ true → (terms p).links ≡ true
further_links Plain opcode is = absurd cc
further_links Everyday opcode is = refl
