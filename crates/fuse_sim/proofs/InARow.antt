-- What two lists of events, one after the other, lead to: the answers and the records.
use Rattle.std.proofs.Common.{◌≡◌, inl, inr, ℕ, true, false, List, [], ◌∷◌, ◌++◌, map, Option, sym, ap, subst, ◌∙◌}
use Rattle.std.proofs.lemmas.List.{map-append}
use Rattle.fuse_request.specs.Opcodes.{Service}
use Rattle.fuse_request.specs.declared.class.Class.{Class}
use Rattle.fuse_request.specs.declared.class.Class.TheVariants.{Silent, Bare, Kept, Seen}
use Rattle.fuse_request.specs.Classes.{class_for}
use Rattle.fuse_keeper.specs.History.{entry_id, History, HistoriesGrow, Includes, said, is_in, ids_in}
use Rattle.fuse_keeper.specs.Model.{Model}
use Rattle.fuse_keeper.specs.Stands.{Records}
use Rattle.fuse_keeper.specs.KeeperState.{KeeperState}
use Rattle.fuse_session.specs.Processed.{message_id}
use Rattle.fuse_session.specs.Settling.{comes_again}
use Rattle.fuse_sim.specs.declared.event.Event.{Event}
use Rattle.fuse_sim.specs.declared.event.Outcome.{Outcome}
use Rattle.fuse_sim.specs.Driving.{told_in, StandsIn, commits_in, committed, bytes_given, settles, settled_by, NoneReused, OutcomesBegin}
use Rattle.fuse_sim.specs.AfterEvents.{StandsAfter, AnswersAre, FirstAnswersAre, DeletesHanded, KeepsUnhanded}
use Rattle.fuse_sim.specs.HandedOn.{performances, handed_on_in}
use Rattle.fuse_sim.specs.LeftRecords.{RecordsLeft}
use Rattle.fuse_sim.proofs.Settled.{is_in-append, in_either, includes_left, includes_right, includes_both, unsettled_too}
use Rattle.fuse_sim.proofs.Gathered.{commits-append}
use Rattle.fuse_sim.proofs.Ledgers.{includes_none, handed_on_in-append, handed_settled}
use Rattle.fuse_sim.proofs.Driven.{committed-append, reused-parts, none_reused, settled_all}
use Rattle.fuse_sim.proofs.Moves.{begin_with, begin_later, split_in, or_false, not_among}
use Rattle.fuse_sim.proofs.Endings.{not_in_both}

-- ---- answers

pub answers_in_a_row : (M : Model) → HistoriesGrow M → {K : Type 0} (told : K → KeeperState M) (old mid new : Option K) (xs ys : List Event)
    (one two : List (Option Outcome)) → ((told_in told new).is_honest → (told_in told mid).is_honest) → StandsAfter told old mid xs
    → AnswersAre told old mid xs one → FirstAnswersAre told old mid xs one → FirstAnswersAre told mid new ys two → FirstAnswersAre told old new (xs ++ ys) (one ++ two)
answers_in_a_row M grows told old mid new xs ys one two was stands all begin more = λ is earlier later parts s h t so none.
    let first = map bytes_given one in
    let second = map bytes_given two in
    subst (OutcomesBegin M s h earlier) (sym (map-append bytes_given one two)) (elim (split_in xs ys earlier later parts) [
      | inl here ↦ begin_with M s h earlier first second (begin (was is) earlier here.more here.parts s h t so none)
      | inr after ↦
          let reused = reused-parts M.service t xs after.prefix (subst (NoneReused M.service t) after.begin none) in
          let mids = stands (was is) s h t so reused.0 in
          subst (λ (x : List Event). OutcomesBegin M s h x (first ++ second)) (sym after.begin)
          (begin_later M grows s h xs after.prefix first second (all (was is) s h t so reused.0)
          (more is after.prefix later after.parts s (committed M.service h xs) (settled_by M.service t xs) mids reused.1))
    ])

-- ---- fewer ids were settled

comes_too : (u t : List ℕ) (class : Class) (i : ℕ) → Includes u t → comes_again u class i ≡ false → comes_again t class i ≡ false
comes_too u t Silent i within may = may
comes_too u t (Bare errno) i within may = may
comes_too u t Kept i within may = unsettled_too u t i within may
comes_too u t Seen i within may = may

none_of_fewer : (V : Service) (u t : List ℕ) (es : List Event) → Includes u t → NoneReused V u es → NoneReused V t es
none_of_fewer V u t [] within none = tt
none_of_fewer V u t (e ∷ es) within none = (
  comes_too u t (class_for V e.bytes) (message_id e.bytes) within none.0,
  none_of_fewer V (u ++ settles V e) (t ++ settles V e) es
      (includes_both (u ++ settles V e) t (settles V e) (λ i there. includes_left u (settles V e) i (within i there)) (includes_right u (settles V e))) none.1,
)

-- ---- records

-- what the first list handed on comes in the second no more
handed_no_more : (V : Service) (xs ys : List Event) (i : ℕ) → NoneReused V (settled_by V [] xs) ys → is_in (handed_on_in (performances V xs)) i ≡ true
    → is_in (ids_in (commits_in V ys)) i ≡ false
handed_no_more V xs ys i none there =
    let u = settled_by V [] xs in
    not_among u (commits_in V ys) i (none_reused V u ys none)
    (handed_settled V [] [] xs (includes_none []) i there)

left_in_a_row : (V : Service) (xs ys : List Event) (r r' r'' : Records) → RecordsLeft V (performances V xs) xs r r'
    → RecordsLeft V (performances V ys) ys r' r'' → RecordsLeft V (performances V xs ++ performances V ys) (xs ++ ys) r r''
left_in_a_row V xs ys r r' r'' one two =
    let ids : ids_in (commits_in V (xs ++ ys)) ≡ ids_in (commits_in V xs) ++ ids_in (commits_in V ys) = ap ids_in (commits-append V xs ys)
    ∙ map-append entry_id (commits_in V xs) (commits_in V ys) in
    let handed = handed_on_in-append (performances V xs) (performances V ys) in
    record {
      gone = λ none i there.
          let u = settled_by V [] xs in
          let parts = reused-parts V [] xs ys none in
          elim (in_either (handed_on_in (performances V xs)) (handed_on_in (performances V ys)) i (sym (ap (λ x. is_in x i) handed) ∙ there)) [
            | inl before ↦ two.others i (handed_no_more V xs ys i parts.1 before) ∙ one.gone parts.0 i before
            | inr later ↦ two.gone (none_of_fewer V u [] ys (includes_none u) parts.1) i later
          ];
      others = λ i isnt.
          let both = or_false (is_in (ids_in (commits_in V xs)) i) (is_in (ids_in (commits_in V ys)) i)
          (sym (ap (λ x. is_in x i) ids ∙ is_in-append (ids_in (commits_in V xs)) (ids_in (commits_in V ys)) i) ∙ isnt) in
          two.others i both.1 ∙ one.others i both.0;
    }

pub records_in_a_row : (M : Model) → {K : Type 0} (told : K → KeeperState M) (old mid new : Option K) (xs ys : List Event)
    → ((told_in told new).is_honest → (told_in told mid).is_honest)
    → DeletesHanded told old mid (performances M.service xs) xs → DeletesHanded told mid new (performances M.service ys) ys
    → DeletesHanded told old new (performances M.service xs ++ performances M.service ys) (xs ++ ys)
records_in_a_row M told old mid new xs ys was one two = λ is rows records held rowed.
    let first = one (was is) rows records held rowed in
    let second = two is first.rows first.records first.held first.rowed in
    record {
      rows = second.rows;
      records = second.records;
      held = second.held;
      rowed = second.rowed;
      left = left_in_a_row M.service xs ys records first.records second.records first.left second.left;
    }

-- ---- the records that stay

-- after the first list none but the ids that were settled before it and those that it handed on lack a record
stands_unhanded : (M : Model) → {K : Type 0} (told : K → KeeperState M) (old mid : Option K) (xs : List Event) → StandsAfter told old mid xs
    → KeepsUnhanded told old mid (performances M.service xs) xs → (told_in told mid).is_honest → (s : M.State) (h : History) (t : List ℕ)
    → StandsIn told old s h t → NoneReused M.service t xs
    → StandsIn told mid s (committed M.service h xs) (t ++ handed_on_in (performances M.service xs))
stands_unhanded M told old mid xs stands kept is s h t so none =
    let left = stands is s h t so none in
    let handed = handed_on_in (performances M.service xs) in
    record {
      rows = left.rows;
      records = left.records;
      held = left.held;
      stands = record {
        tree = left.stands.tree;
        distinct = left.stands.distinct;
        rows_are = left.stands.rows_are;
        right = left.stands.right;
        kept = λ i isnt. kept is s h t so none left.rows left.records left.held i (unsettled_too (t ++ handed) t i (includes_left t handed) isnt)
            (unsettled_too (t ++ handed) handed i (includes_right t handed) isnt);
      };
    }

pub kept_in_a_row : (M : Model) → {K : Type 0} (told : K → KeeperState M) (old mid new : Option K) (xs ys : List Event)
    → ((told_in told new).is_honest → (told_in told mid).is_honest) → StandsAfter told old mid xs
    → KeepsUnhanded told old mid (performances M.service xs) xs → KeepsUnhanded told mid new (performances M.service ys) ys
    → KeepsUnhanded told old new (performances M.service xs ++ performances M.service ys) (xs ++ ys)
kept_in_a_row M told old mid new xs ys was stands one two = λ is s h t so none rows records held i unsettled unhanded.
    let V = M.service in
    let handed = handed_on_in (performances V xs) in
    let parts = reused-parts V t xs ys none in
    let within : Includes (settled_by V t xs) (t ++ handed) = settled_all V t t [] xs (λ j there. there) (includes_none t) in
    let apart = or_false (is_in handed i) (is_in (handed_on_in (performances V ys)) i)
    (sym (ap (λ x. is_in x i) (handed_on_in-append (performances V xs) (performances V ys)) ∙ is_in-append handed (handed_on_in (performances V ys)) i) ∙ unhanded) in
    two is s (committed V h xs) (t ++ handed) (stands_unhanded M told old mid xs stands one (was is) s h t so parts.0)
    (none_of_fewer V (settled_by V t xs) (t ++ handed) ys within parts.1) rows records held i (not_in_both t handed i unsettled apart.0) apart.1
    ∙ ap (λ g. said M s g i) (sym (committed-append V h xs ys))
