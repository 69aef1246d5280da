-- A stream port reports no answer as gone, and so settles no id.
use Rattle.std.proofs.Common.{◌≡◌, ℕ, Bool, true, false, List, [], ◌∷◌, ◌++◌, Option, refl, sym, ap, subst, ◌∙◌, append-nil}
use Rattle.std.specs.List.{AllByRecursion, flat_map}
use Rattle.std.proofs.lemmas.List.Concat.{flat_map-append}
use Rattle.std.specs.Io.KnownBytes.{append_known}
use Rattle.fuse_request.specs.Classes.{class_for}
use Rattle.fuse_request.specs.Opcodes.{Service}
use Rattle.fuse_keeper.specs.Group.{handed_to, left_pending}
use Rattle.fuse_keeper.specs.History.{Entry}
use Rattle.fuse_keeper.specs.Performance.{Performance, performances_of}
use Rattle.fuse_session.specs.Batches.{Batch, timed_in, marks_in, handed_over, pending_after}
use Rattle.fuse_session.specs.Processed.{Timed, bytes_of, timed_entry, performed_if, kept_in, performed_of}
use Rattle.fuse_session.specs.Settling.{Mark, settles_by_mark, settled_in, NoneComesAgain, MayCome, Places, PlaceFirst}
use Rattle.fuse_commands.specs.Replaying.{AsksForGroups}

abbrev pub IsTaken : Mark → Type 0
IsTaken mark = mark.gone ≡ false

first_taken : (gone : Bool) (sent : Option (List ℕ)) (Later : List ℕ → Type 0) (places : List ℕ) → places ≡ [] → PlaceFirst gone sent Later places
    → (gone ≡ false) × Later places
first_taken true sent Later places none p = absurd (cc (none, p.2))
first_taken false sent Later places none p = (refl, p)

pub all_taken : (sent : Option (List ℕ)) (marks : List Mark) (places : List ℕ) → places ≡ [] → Places sent marks places → AllByRecursion IsTaken marks
all_taken sent [] places none p = tt
all_taken sent (m ∷ marks) places none p =
    let one = first_taken m.gone (append_known sent m.reply) (Places (append_known sent m.reply) marks) places none p in
    (one.0, all_taken _ marks places none one.1)

settles_nothing : (V : Service) (m : List ℕ) (mark : Mark) → mark.gone ≡ false → settles_by_mark V false m mark ≡ []
settles_nothing V m mark is = rw is refl

settled_nothing : (V : Service) (ms : List (List ℕ)) (marks : List Mark) → AllByRecursion IsTaken marks → settled_in V false ms marks ≡ []
settled_nothing V [] marks each = refl
settled_nothing V (m ∷ ms) [] each = refl
settled_nothing V (m ∷ ms) (mark ∷ marks) each = rw (settles_nothing V m mark each.0, settled_nothing V ms marks each.1) refl

pub nothing_settled : (V : Service) (t : List ℕ) (ms : List (List ℕ)) (marks : List Mark) → AllByRecursion IsTaken marks → t ++ settled_in V false ms marks ≡ t
nothing_settled V t ms marks each = ap (λ (x : List ℕ). t ++ x) (settled_nothing V ms marks each) ∙ append-nil t

pub none_again : (V : Service) (t : List ℕ) (ms : List (List ℕ)) (marks : List Mark) → AllByRecursion IsTaken marks → AllByRecursion (MayCome V t) ms
    → NoneComesAgain V false t ms marks
none_again V t [] marks each may = tt
none_again V t (m ∷ ms) [] each may = (may.0, none_again V t ms [] tt may.1)
none_again V t (m ∷ ms) (mark ∷ marks) each may =
    let same : t ++ settles_by_mark V false m mark ≡ t = ap (λ (x : List ℕ). t ++ x) (settles_nothing V m mark each.0) ∙ append-nil t in
    (may.0, subst (λ (u : List ℕ). NoneComesAgain V false u ms marks) (sym same) (none_again V t ms marks each.1 may.1))

-- ---- what the keeper was asked to perform

performed_both : (V : Service) (xs ys : List Timed) → performed_of V (xs ++ ys) ≡ performed_of V xs ++ performed_of V ys
performed_both V xs ys = flat_map-append (λ t. performed_if (class_for V t.bytes) (timed_entry t)) xs ys

groups_of : (es : List Entry) (more : List Performance) → flat_map (λ p. p.group) (performances_of es [] ++ more) ≡ es ++ flat_map (λ p. p.group) more
groups_of [] more = refl
groups_of (e ∷ es) more = refl

unsettled_of : (es : List Entry) (more : List Performance) → AllByRecursion (λ p. p.settled ≡ []) more
    → AllByRecursion (λ p. p.settled ≡ []) (performances_of es [] ++ more)
unsettled_of [] more each = each
unsettled_of (e ∷ es) more each = (refl, each)

none_handed : (es : List Entry) → handed_to es [] ≡ []
none_handed [] = refl
none_handed (e ∷ es) = refl

none_pending : (es : List Entry) → left_pending es [] ≡ []
none_pending [] = refl
none_pending (e ∷ es) = refl

taken_both : (xs ys : List Mark) → AllByRecursion IsTaken (xs ++ ys) → AllByRecursion IsTaken xs × AllByRecursion IsTaken ys
taken_both [] ys each = (tt, each)
taken_both (x ∷ xs) ys each = let both = taken_both xs ys each.1 in ((each.0, both.0), both.1)

-- what was asked for, batch by batch, where nothing is settled
pub asks_for : (V : Service) (batches : List Batch) → AllByRecursion IsTaken (marks_in batches)
    → AsksForGroups V (timed_in batches) (handed_over V false [] batches)
asks_for V [] taken = record { groups = refl; unsettled = tt }
asks_for V (b ∷ bs) taken =
    let both = taken_both b.marks (marks_in bs) taken in
    let none : pending_after V false [] b ≡ [] =
    ap (λ (x : List ℕ). x ++ settled_in V false (bytes_of b.timed) b.marks) (none_pending (kept_in V b.timed))
    ∙ settled_nothing V (bytes_of b.timed) b.marks both.0 in
    let rest = handed_over V false (pending_after V false [] b) bs in
    let later : AsksForGroups V (timed_in bs) rest =
    subst (λ (p : List ℕ). AsksForGroups V (timed_in bs) (handed_over V false p bs)) (sym none) (asks_for V bs both.1) in
    let group = performed_of V b.timed in
    let asks : AsksForGroups V (timed_in (b ∷ bs)) (performances_of group [] ++ rest) =
    record {
      groups = groups_of group rest ∙ ap (λ (x : List Entry). group ++ x) later.groups ∙ sym (performed_both V b.timed (timed_in bs));
      unsettled = unsettled_of group rest later.unsettled;
    } in
    subst (λ (ids : List ℕ). AsksForGroups V (timed_in (b ∷ bs)) (performances_of group ids ++ rest)) (sym (none_handed (kept_in V b.timed))) asks
