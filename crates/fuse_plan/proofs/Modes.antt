-- The modes of new nodes, and of nodes whose permissions are set.
use Rattle.std.proofs.Common.{◌≡◌, ◌<◌, ◌+◌, ◌*◌, ◌/◌, ◌%◌, ◌==◌, ◌&&◌, ◌||◌, ℕ, Bool, true, false, cond, eqb, refl, sym, ap, subst, ◌∙◌, arith}
use Rattle.std.proofs.lemmas.Bool.{eqb-true}
use Rattle.std.proofs.lemmas.Nat.{div-mul-add}
use Rattle.fuse_plan.proofs.Lists.{and_true}
use Rattle.fuse_tree.specs.State.{HasMode, is_dir, is_file, is_link, type_of, type_bits, is_type, is_device}
use Rattle.fuse_tree.specs.Making.{mode_in, dir_mode, may_make, node_mode, node_rdev}
use Rattle.fuse_tree.specs.Creating.{file_mode}
use Rattle.fuse_tree.specs.Symlinking.{link_mode}

-- ---- new nodes

-- the type is read off a mode that is made of it
abbrev is_one : ℕ → Bool
is_one k = is_type (k * 4096) || (k == 10)

typed : (k r : ℕ) → k < 16 → r < 4096 → type_of (k * 4096 + r) ≡ k
typed k r lt low =
    let small : k % 16 ≡ k = omega arith in
    ap (λ (n : ℕ). n % 16) (div-mul-add k 4096 r low) ∙ small

pub made_dir : (mode : ℕ) → HasMode (dir_mode mode) 0
made_dir mode =
    let low : mode % 4096 < 4096 = omega arith in
    let is : type_of (16384 + mode % 4096) ≡ 4 = typed 4 (mode % 4096) (omega arith) low in
    record { typed = ap is_one is; no_more = omega arith; no_device = λ _. refl }

-- it isn't that of a link
pub dir_no_link : (mode : ℕ) → is_link (dir_mode mode) ≡ false
dir_no_link mode = let low : mode % 4096 < 4096 = omega arith in ap (λ (k : ℕ). k == 10) (typed 4 (mode % 4096) (omega arith) low)

-- what may be made and isn't 0 is a type
of_type : (zero dir reg chr blk fifo sock : Bool) → zero ≡ false → (zero || reg || chr || blk || fifo || sock) ≡ true
    → (dir || reg || chr || blk || fifo || sock) ≡ true
of_type true dir reg chr blk fifo sock none may = absurd cc
of_type false true reg chr blk fifo sock none may = refl
of_type false false reg chr blk fifo sock none may = may

mode_made : (k r rdev : ℕ) (b : Bool) → eqb (k * 4096) 0 ≡ b → k < 16 → r < 4096 → may_make (k * 4096) ≡ true
    → HasMode (cond b 32768 (k * 4096) + r) (cond (is_device (k * 4096)) rdev 0)
mode_made k r rdev true none lt low may =
    let zero : k * 4096 ≡ 0 = eqb-true (k * 4096) 0 none in
    let is : type_of (32768 + r) ≡ 8 = typed 8 r (omega arith) low in
    record { typed = ap is_one is; no_more = omega arith; no_device = λ _. rw zero refl }
mode_made k r rdev false some lt low may =
    let is : type_of (k * 4096 + r) ≡ k = typed k r lt low in
    let bits : type_bits (k * 4096 + r) ≡ k * 4096 = ap (λ (t : ℕ). t * 4096) is in
    record {
      typed = ap (λ (b : Bool). b || is_link (k * 4096 + r)) (ap is_type bits ∙ of_type (eqb (k * 4096) 0) _ _ _ _ _ _ some may);
      no_more = omega arith;
      no_device = λ no. rw (sym (ap is_device bits) ∙ no) refl;
    }

pub made_node : (mode rdev : ℕ) → may_make (type_bits mode) ≡ true → HasMode (node_mode mode) (node_rdev mode rdev)
made_node mode rdev may =
    let lt : type_of mode < 16 = omega arith in
    let low : mode % 4096 < 4096 = omega arith in
    mode_made (type_of mode) (mode % 4096) rdev (eqb (type_of mode * 4096) 0) refl lt low may

no_link : (k : ℕ) (b : Bool) → eqb k 10 ≡ b → may_make (k * 4096) ≡ true → b ≡ false
no_link k false is may = refl
no_link k true is may = let made : false ≡ true = subst (λ (n : ℕ). may_make (n * 4096) ≡ true) (eqb-true k 10 is) may in absurd cc

made_no_link : (k r : ℕ) (b : Bool) → k < 16 → r < 4096 → may_make (k * 4096) ≡ true → is_link (cond b 32768 (k * 4096) + r) ≡ false
made_no_link k r true lt low may = ap (λ (t : ℕ). t == 10) (typed 8 r (omega arith) low)
made_no_link k r false lt low may = ap (λ (t : ℕ). t == 10) (typed k r lt low) ∙ no_link k (eqb k 10) refl may

pub node_no_link : (mode : ℕ) → may_make (type_bits mode) ≡ true → is_link (node_mode mode) ≡ false
node_no_link mode may =
    let lt : type_of mode < 16 = omega arith in
    let low : mode % 4096 < 4096 = omega arith in
    made_no_link (type_of mode) (mode % 4096) (eqb (type_of mode * 4096) 0) lt low may

file_typed : (mode : ℕ) → type_of (file_mode mode) ≡ 8
file_typed mode = let low : mode % 4096 < 4096 = omega arith in typed 8 (mode % 4096) (omega arith) low

pub made_file : (mode : ℕ) → HasMode (file_mode mode) 0
made_file mode = record { typed = ap is_one (file_typed mode); no_more = omega arith; no_device = λ _. refl }

pub made_link : HasMode link_mode 0
made_link = record { typed = refl; no_more = omega arith; no_device = λ _. refl }

-- ---- what is made in a directory that gives its group

kind_in : (mode : ℕ) (b : Bool) → (is_dir mode && (mode / 1024 % 2 == 0)) ≡ b → type_of (cond b (mode + 1024) mode) ≡ type_of mode
kind_in mode true is =
    let none : mode / 1024 % 2 ≡ 0 = eqb-true _ 0 (and_true (is_dir mode) _ is).1 in
    ap (λ (k : ℕ). k % 16) (let e : (mode + 1024) / 4096 ≡ mode / 4096 = omega (arith, none) in e)
kind_in mode false is = refl

kind_stays_in : (gives : Bool) (mode : ℕ) → type_of (mode_in gives mode) ≡ type_of mode
kind_stays_in true mode = kind_in mode (is_dir mode && (mode / 1024 % 2 == 0)) refl
kind_stays_in false mode = refl

pub link_stays_in : (gives : Bool) (mode : ℕ) → is_link (mode_in gives mode) ≡ is_link mode
link_stays_in gives mode = ap (λ (k : ℕ). k == 10) (kind_stays_in gives mode)

pub file_stays_in : (gives : Bool) (mode : ℕ) → is_file (mode_in gives (file_mode mode)) ≡ true
file_stays_in gives mode = ap (λ (k : ℕ). k == 8) (kind_stays_in gives (file_mode mode) ∙ file_typed mode)

group_added : (mode rdev : ℕ) (b : Bool) → (is_dir mode && (mode / 1024 % 2 == 0)) ≡ b → HasMode mode rdev → HasMode (cond b (mode + 1024) mode) rdev
group_added mode rdev true is p =
    let none : mode / 1024 % 2 ≡ 0 = eqb-true _ 0 (and_true (is_dir mode) _ is).1 in
    let small : mode < 65536 = p.no_more in
    let same : type_of (mode + 1024) ≡ type_of mode = kind_in mode true is in
    record {
      typed = ap is_one same ∙ p.typed;
      no_more = omega (arith, none, small);
      no_device = λ no. p.no_device (ap (λ (k : ℕ). is_device (k * 4096)) (sym same) ∙ no);
    }
group_added mode rdev false is p = p

pub mode_stays_in : (gives : Bool) (mode rdev : ℕ) → HasMode mode rdev → HasMode (mode_in gives mode) rdev
mode_stays_in true mode rdev p = group_added mode rdev (is_dir mode && (mode / 1024 % 2 == 0)) refl p
mode_stays_in false mode rdev p = p

-- ---- permissions that are set

pub kind_stays : (mode new : ℕ) (b : Bool) → type_of (cond b (mode / 4096 * 4096 + new % 4096) mode) ≡ type_of mode
kind_stays mode new true =
    let low : new % 4096 < 4096 = omega arith in
    ap (λ (k : ℕ). k % 16) (div-mul-add (mode / 4096) 4096 (new % 4096) low)
kind_stays mode new false = refl

pub mode_stays : (mode rdev new : ℕ) (b : Bool) → HasMode mode rdev → HasMode (cond b (mode / 4096 * 4096 + new % 4096) mode) rdev
mode_stays mode rdev new true p =
    let same = kind_stays mode new true in
    let small : mode < 65536 = p.no_more in
    record {
      typed = ap is_one same ∙ p.typed;
      no_more = omega arith;
      no_device = λ no. p.no_device (ap (λ (k : ℕ). is_device (k * 4096)) (sym same) ∙ no);
    }
mode_stays mode rdev new false p = p
