-- The groups of messages of which none is to be alone, or one is and it is.
use Rattle.std.proofs.Common.{◌≡◌, ℕ, Bool, true, false, cond, not, List, [], ◌∷◌, ◌++◌, length, Option, Some, None, Result, inl, inr}
use Rattle.std.proofs.Common.{refl, sym, subst, ◌∙◌}
use Rattle.std.specs.List.{AllByRecursion, flat_map}
use Rattle.std.specs.declared.io.Error.{Error}
use Rattle.fuse_wire.specs.declared.id.Id.{Id}
use Rattle.fuse_request.specs.Act.{Asked}
use Rattle.fuse_request.specs.Classes.{class_for, is_zero}
use Rattle.fuse_request.specs.Opcodes.{Service}
use Rattle.fuse_request.specs.Places.{asked_at}
use Rattle.fuse_session.specs.Grouping.{is_performed_class, one_group, ends_group, groups_after, groups_of, turns_of, groups_asked}
use Rattle.fuse_session.specs.Deeds.{Deeds}
use Rattle.fuse_session.specs.StreamSteps.{Sides}
use Rattle.alone_source.specs.Groups.{has_id, IsAloneIn, GroupsAlone, AlwaysAlone, AlwaysAloneStream}
use Rattle.alone_source.specs.Holding.{HeldState, nothing_held}
use Rattle.alone_source.specs.Turns.{is_alone, IsApart}
use Rattle.alone_source.proofs.Steps.{Laws, Follows}
use Rattle.alone_source.proofs.Chains.{turns_apart, stream_apart}

same_id : (id : Option Id) (m : List ℕ) → has_id id (asked_at m) ≡ is_alone id m
same_id None m = refl
same_id (Some id) m = refl

abbrev NoneHas : Option Id → List Asked → Type 0
NoneHas id group = AllByRecursion (λ a. has_id id a ≡ false) group

abbrev AllAloneIn : Option Id → List (List Asked) → Type 0
AllAloneIn id groups = AllByRecursion (IsAloneIn id) groups

all_more : {A : Type 0} (P : A → Type 0) (xs : List A) (y : A) → AllByRecursion P xs → P y → AllByRecursion P (xs ++ y ∷ [])
all_more P [] y h p = (p, tt)
all_more P (x ∷ xs) y h p = (h.0, all_more P xs y h.1 p)

all_joined : {A : Type 0} (P : A → Type 0) (xs ys : List A) → AllByRecursion P xs → AllByRecursion P ys → AllByRecursion P (xs ++ ys)
all_joined P [] ys h k = k
all_joined P (x ∷ xs) ys h k = (h.0, all_joined P xs ys h.1 k)

all_left : {A : Type 0} (P : A → Type 0) (xs ys : List A) → AllByRecursion P (xs ++ ys) → AllByRecursion P xs
all_left P [] ys h = tt
all_left P (x ∷ xs) ys h = (h.0, all_left P xs ys h.1)

one_none : (id : Option Id) (group : List Asked) → NoneHas id group → AllAloneIn id (one_group group)
one_none id [] h = tt
one_none id (a ∷ group) h = (inl h, tt)

-- the tests of `groups_after`
after_by : (id : Option Id) (zero performed ends : Bool) (so_far more : List Asked) (skipped next joined : List (List Asked)) → NoneHas id so_far
    → NoneHas id more → AllAloneIn id skipped → AllAloneIn id next → AllAloneIn id joined
    → AllAloneIn id (cond {A = List (List Asked)} zero (one_group so_far) (cond {A = List (List Asked)} (not performed) skipped
    (cond {A = List (List Asked)} ends (more ∷ next) joined)))
after_by id true performed ends so_far more skipped next joined h k s n j = one_none id so_far h
after_by id false false ends so_far more skipped next joined h k s n j = s
after_by id false true true so_far more skipped next joined h k s n j = (inl k, n)
after_by id false true false so_far more skipped next joined h k s n j = j

after_none : (V : Service) (id : Option Id) (so_far : List Asked) (ms : List (List ℕ)) → NoneHas id so_far
    → AllByRecursion (λ m. is_alone id m ≡ false) ms → AllAloneIn id (groups_after V so_far ms)
after_none V id so_far [] h all = one_none id so_far h
after_none V id so_far (m ∷ ms) h all =
    let more = all_more (λ a. has_id id a ≡ false) so_far (asked_at m) h (same_id id m ∙ all.0) in
    after_by id (is_zero m) (is_performed_class (class_for V m)) (ends_group V (length so_far) m) so_far (so_far ++ asked_at m ∷ [])
    (groups_after V so_far ms) (groups_after V [] ms) (groups_after V (so_far ++ asked_at m ∷ []) ms) h more
    (after_none V id so_far ms h all.1) (after_none V id [] ms tt all.1) (after_none V id (so_far ++ asked_at m ∷ []) ms more all.1)

one_by : (V : Service) (id : Option Id) (zero performed ends : Bool) (a : Asked) → has_id id a ≡ true
    → AllAloneIn id (cond {A = List (List Asked)} zero [] (cond {A = List (List Asked)} (not performed) []
    (cond {A = List (List Asked)} ends ((a ∷ []) ∷ []) ((a ∷ []) ∷ []))))
one_by V id true performed ends a h = tt
one_by V id false false ends a h = tt
one_by V id false true true a h = (inr (a, refl, h), tt)
one_by V id false true false a h = (inr (a, refl, h), tt)

one_alone : (V : Service) (id : Option Id) (m : List ℕ) → is_alone id m ≡ true → AllAloneIn id (groups_of V (m ∷ []))
one_alone V id m h = one_by V id (is_zero m) (is_performed_class (class_for V m)) (ends_group V 0 m) (asked_at m) (same_id id m ∙ h)

turn_groups : (V : Service) (id : Option Id) (ms : List (List ℕ)) → IsApart id ms → AllAloneIn id (groups_of V ms)
turn_groups V id ms (inl none) = after_none V id [] ms tt none
turn_groups V id ms (inr (m, e, h)) = subst (λ (xs : List (List ℕ)). AllAloneIn id (groups_of V xs)) (sym e) (one_alone V id m h)

all_groups : (V : Service) (id : Option Id) (turns : List (List (List ℕ))) → AllByRecursion (IsApart id) turns
    → AllAloneIn id (flat_map (groups_of V) turns)
all_groups V id [] h = tt
all_groups V id (ms ∷ more) h = all_joined (IsAloneIn id) (groups_of V ms) (flat_map (groups_of V) more) (turn_groups V id ms h.0) (all_groups V id more h.1)

follows_none : (id : Option Id) (s : HeldState) → s ≡ nothing_held id → Follows id s []
follows_none id s e = subst (λ (t : HeldState). Follows id t []) (sym e) (record { alone = refl; stuck = refl; begun = refl })

groups_apart : (id : Option Id) (deeds : Deeds) → AllByRecursion (IsApart id) (turns_of [] deeds.events) → GroupsAlone id deeds
groups_apart id deeds turns = record {
  turns = turns;
  groups = λ V asks.
      all_left (IsAloneIn id) (groups_asked deeds.asked) asks.0
      (subst (AllByRecursion (IsAloneIn id)) asks.1 (all_groups V id (turns_of [] deeds.events) turns));
}

pub always_alone : Laws → {S W : Type 0} (was_read : S → S → Result ℕ Error → List ℕ → Type 0) (was_written : W → W → Result ℕ Error → List ℕ → Type 0)
    → AlwaysAlone was_read was_written
always_alone laws was_read was_written id p q deeds fresh steps =
    groups_apart id deeds (turns_apart laws was_read was_written id p q [] deeds.events (follows_none id p.reader.hold fresh) steps)

pub always_alone_stream : Laws → {S W : Type 0} (s : Sides S W) → AlwaysAloneStream s
always_alone_stream laws s id p q deeds fresh steps =
    groups_apart id deeds (stream_apart laws s id p q [] deeds.events (follows_none id p.reader.hold fresh) steps)
