-- A group as it is read and answered (defined by this project).
use Rattle.std.specs.Prelude.{◌≡◌, ◌⊎◌, ◌<◌, ℕ, Bool, true, false, ◌==◌, if◌then◌else◌, List, [], ◌∷◌, length, map, Option, Some, None}
use Rattle.fuse_wire.specs.declared.moment.Moment.{Moment}
use Rattle.fuse_answer.specs.Said.{Said}
use Rattle.fuse_answer.specs.Wire.{wire}
use Rattle.fuse_request.specs.declared.class.Class.{Class}
use Rattle.fuse_request.specs.declared.class.Class.TheVariants.{Silent, Bare, Kept, Seen}
use Rattle.fuse_request.specs.declared.request.Request.{Request}
use Rattle.fuse_request.specs.Classes.{class_for, is_zero}
use Rattle.fuse_request.specs.Opcodes.{Service}
use Rattle.fuse_keeper.specs.declared.keeper.Done.{Done}
use Rattle.fuse_keeper.specs.Group.{entries_of}
use Rattle.fuse_session.specs.declared.counts.SessionCounts.{SessionCounts}
use Rattle.fuse_session.specs.declared.group.Next.{Next}
use Rattle.fuse_session.specs.declared.group.Next.TheVariants.{GoesOn as GoesOnHere, Destroyed, ZeroUnique}
use Rattle.fuse_session.specs.Processed.{Timed, bytes_of, performed_of, unique_of, destroys, LastDestroys, moments_in}
use Rattle.fuse_session.specs.Grouping.{is_performed_class}
use Rattle.fuse_session.specs.Counting.{counted_one, none_counted, plus, is_interrupt}

-- no message is zero, and none is a kept DESTROY, but for the last
abbrev pub NoZero : List Timed → Type 0
NoZero [] = Unit {0}
NoZero (t ∷ ts) = (is_zero t.bytes ≡ false) × NoZero ts

abbrev pub NoDestroy : Service → List Timed → Type 0
NoDestroy V [] = Unit {0}
NoDestroy V (t ∷ ts) = (destroys V t.bytes ≡ false) × NoDestroy V ts

abbrev pub DestroyLast : Service → List Timed → Type 0
DestroyLast V [] = Unit {0}
DestroyLast V (t ∷ ts) = ((ts ≡ []) ⊎ (destroys V t.bytes ≡ false)) × DestroyLast V ts

-- requests were read off messages, under moments; a DESTROY may only be the last
pub record Gathers (V : Service) (gave : List Moment → Type 0) (prefix : List (List ℕ)) (taken : List (Request × Moment)) (ends : Bool) : Type 0 where
  pub timed : List Timed
  pub bytes : prefix ≡ bytes_of timed
  pub entries : entries_of taken ≡ performed_of V timed
  pub moments : gave (moments_in V timed)
  pub no_zero : NoZero timed
  pub none : ends ≡ false → NoDestroy V timed
  pub only : DestroyLast V timed
  pub ended : ends ≡ true → LastDestroys V timed

-- the class of each message
abbrev pub classes_in : Service → List (List ℕ) → List Class
classes_in V ms = map (class_for V) ms

abbrev pub as_list : Option (Request × Moment) → List (Request × Moment)
as_list None = []
as_list (Some one) = one ∷ []

-- nothing can be processed: there is no message, or the first is zero
abbrev pub IsStuck : List (List ℕ) → Type 0
IsStuck [] = Unit {0}
IsStuck (m ∷ ms) = is_zero m ≡ true

abbrev pub rest_by : Bool → Bool → Next
rest_by ended stuck = if ended then Destroyed else (if stuck then ZeroUnique else GoesOnHere)

abbrev pub answers_in : List Done → List Said
answers_in dones = map (λ d. d.answer) dones

abbrev pub repeats_in : List Done → List Bool
repeats_in dones = map (λ d. d.repeated) dones

-- whether the last answer has errno 0
abbrev pub last_zero : List Said → Bool
last_zero [] = false
last_zero (a ∷ []) = a.errno == 0
last_zero (a ∷ b ∷ rest) = last_zero (b ∷ rest)

-- the bytes that are sent for a message, where these answers are left
abbrev pub head_wire : Class → ℕ → List Said → List ℕ
head_wire Silent unique answers = []
head_wire (Bare errno) unique answers = wire errno.0 [] unique
head_wire Kept unique [] = []
head_wire Kept unique (a ∷ answers) = wire a.errno a.body unique
head_wire Seen unique [] = []
head_wire Seen unique (a ∷ answers) = wire a.errno a.body unique

-- a kept or seen message uses one of a list
abbrev pub left_by : {A : Type 0} → Class → List A → List A
left_by Silent xs = xs
left_by (Bare errno) xs = xs
left_by Kept [] = []
left_by Kept (x ∷ xs) = xs
left_by Seen [] = []
left_by Seen (x ∷ xs) = xs

-- the bytes that a list of answers sends for each message
abbrev pub wires : Service → List (List ℕ) → List Said → List (List ℕ)
wires V [] answers = []
wires V (m ∷ ms) answers = head_wire (class_for V m) (unique_of m) answers ∷ wires V ms (left_by (class_for V m) answers)

-- there is an answer for each kept and each seen message
abbrev pub AreEnough : Service → List (List ℕ) → List Said → Type 0
AreEnough V [] answers = Unit {0}
AreEnough V (m ∷ ms) answers = (is_performed_class (class_for V m) ≡ true → 0 < length answers) × AreEnough V ms (left_by (class_for V m) answers)

-- whether the next kept message is a repeat
abbrev pub head_repeat : List Bool → Bool
head_repeat [] = false
head_repeat (b ∷ repeated) = b

-- how messages count, by whether each kept one is a repeat
abbrev pub tallied : Service → List (List ℕ) → List Bool → SessionCounts
tallied V [] repeated = none_counted
tallied V (m ∷ ms) repeated = plus (counted_one (class_for V m) (head_repeat repeated) (is_interrupt m)) (tallied V ms (left_by (class_for V m) repeated))
