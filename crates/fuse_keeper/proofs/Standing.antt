-- What stands for a history, and how one entry more is taken.
use Rattle.std.proofs.Common.{◌≡◌, ℕ, zero, Bool, true, false, ◌==◌, ◌&&◌, not, All, inl, inr, if◌then◌else◌, List, [], ◌∷◌, ◌++◌, Option, Some, None, refl, sym, ap, subst, ◌∙◌}
use Rattle.std.proofs.Common.{arith}
use Rattle.std.proofs.lemmas.Bool.{false_from_ne_true, both_ways}
use Rattle.fuse_answer.specs.Said.{Said}
use Rattle.fuse_keeper.specs.Model.{Model, IsOfGoodState}
use Rattle.fuse_keeper.specs.declared.keeper.Done.{Done}
use Rattle.fuse_keeper.specs.History.{Entry, entry_id, History, is_seen, answer_to, has, after, said, grown, unless_seen, kept_one, answer_if, is_in, Includes, IsUnsettled}
use Rattle.fuse_keeper.specs.History as history
use Rattle.fuse_keeper.specs.Stands.{Records, KeeperContent, Standing, Stands, StandsAt, AreThese}
use Rattle.fuse_keeper.specs.Taking.{ActedOn, TookBy, TookIf, Took}
use Rattle.fuse_keeper.proofs.Histories.{tested, after-append, said_none, said-append_old, said-append_new, Distinct-append, add_old, add_new, same_id, found}
use Rattle.fuse_keeper.proofs.Histories.{isnt_there, no_history, nothing_said, Distinct-none}

pub same_number : (k i : ℕ) → (k == i) ≡ true → k ≡ i
same_number k i same = grind arith

-- the rows and records once more
pub Stands-same : (M : Model) → (rows : M.Rows) (records : Records) (x : M.Rows) (r : Records) (s : M.State) (h : History) (t : List ℕ)
    → AreThese M rows records x r → Stands M rows records s h t → Stands M x r s h t
Stands-same M rows records x r s h t same so = record {
  tree = so.tree;
  distinct = so.distinct;
  rows_are = same.0 ∙ so.rows_are;
  right = λ i a is. so.right i a (sym (same.1 i) ∙ is);
  kept = λ i fresh. same.1 i ∙ so.kept i fresh;
}

-- the rows are those of a tree
pub Stands-rowed : (M : Model) → (rows : M.Rows) (records : Records) (s : M.State) (h : History) (t : List ℕ) → Stands M rows records s h t → IsOfGoodState M rows
unfolding IsOfGoodState
Stands-rowed M rows records s h t so = (after M s h, so.tree, so.rows_are)

-- a start stands for the empty history
pub Stands-start : (M : Model) → (rows : M.Rows) (records : Records) (s : M.State) → M.IsGood s → rows ≡ M.held_for s → ((i : ℕ) → records i ≡ None)
    → Stands M rows records s [] []
Stands-start M rows records s tree is none = record {
  tree = subst M.IsGood (sym (no_history M s)) tree;
  distinct = Distinct-none;
  rows_are = is ∙ ap M.held_for (sym (no_history M s));
  right = λ i a there. absurd (let e = none i in cc);
  kept = λ i fresh. none i ∙ sym (nothing_said M s i);
}

-- ---- one entry more

apart : (h : History) (k i : ℕ) → has h i ≡ true → has h k ≡ false → (k == i) ≡ false
apart h k i there none = elim (tested (k == i)) [
  | inl same ↦ absurd (let e = ap (has h) (same_number k i same) in cc)
  | inr isnt ↦ isnt
]

-- the record of each id, with one more
more_record : (M : Model) → (s : M.State) (h : History) (e : Entry) (i : ℕ) (o : Option Said) (a : Said) → has h (entry_id e) ≡ false
    → a ≡ answer_to M (after M s h) e
    → o ≡ said M s h i → (if entry_id e == i then Some a else o) ≡ said M s (h ++ e ∷ []) i
more_record M s h e i o a none is so = elim (tested (has h i)) [
  | inl there ↦ ap (λ (b : Bool). if b then Some a else o) (apart h (entry_id e) i there none) ∙ so ∙ sym (said-append_old M s h e i there)
  | inr isnt ↦ ap (λ p. if entry_id e == i then Some a else p) (so ∙ said_none M s h i isnt)
      ∙ ap (λ b. if entry_id e == i then Some b else None) is
      ∙ sym (said-append_new M s h e i isnt)
]

more_right_by : (M : Model) → (b : Bool) (s : M.State) (h : History) (e : Entry) (i : ℕ) (o : Option Said) (a new : Said) → (entry_id e == i) ≡ b
    → has h (entry_id e) ≡ false → new ≡ answer_to M (after M s h) e
    → (o ≡ Some a → said M s h i ≡ Some a)
    → (if b then Some new else o) ≡ Some a → said M s (h ++ e ∷ []) i ≡ Some a
more_right_by M true s h e i o a new same none new_is so is =
    let absent : has h i ≡ false = ap (has h) (sym (same_number (entry_id e) i same)) ∙ none in
    said-append_new M s h e i absent ∙ ap (λ (b : Bool). if b then Some (answer_to M (after M s h) e) else None) same ∙ ap Some (sym new_is) ∙ is
more_right_by M false s h e i o a new same none new_is so is =
    said-append_old M s h e i (found M s h i a (so is)) ∙ so is

-- each record is still what was said
more_right : (M : Model) → (s : M.State) (h : History) (e : Entry) (i : ℕ) (o : Option Said) (a new : Said) → has h (entry_id e) ≡ false
    → new ≡ answer_to M (after M s h) e
    → (o ≡ Some a → said M s h i ≡ Some a)
    → (if entry_id e == i then Some new else o) ≡ Some a → said M s (h ++ e ∷ []) i ≡ Some a
more_right M s h e i o a new none new_is so is = more_right_by M (entry_id e == i) s h e i o a new refl none new_is so is

-- an entry acts
pub Stands-more : (M : Model) → (rows : M.Rows) (records : Records) (s : M.State) (h : History) (t : List ℕ) (e : Entry) (rows' : M.Rows) (records' : Records)
    (answer : Said)
    → has h (entry_id e) ≡ false → Stands M rows records s h t → ActedOn M (after M s h) e rows' answer
    → ((i : ℕ) → records' i ≡ (if entry_id e == i then Some answer else records i))
    → Stands M rows' records' s (h ++ e ∷ []) t
Stands-more M rows records s h t e rows' records' answer none so acted are = record {
  tree = subst M.IsGood (sym (after-append M s h e)) acted.tree;
  distinct = Distinct-append h e so.distinct none;
  rows_are = acted.rows_are ∙ ap M.held_for (sym (after-append M s h e));
  right = λ i a is. more_right M s h e i (records i) a answer none acted.answer_is (so.right i a) (sym (are i) ∙ is);
  kept = λ i fresh. are i ∙ more_record M s h e i (records i) answer none acted.answer_is (so.kept i fresh);
}

-- ---- settled ids

gone_right : (b : Bool) (o said_of : Option Said) (a : Said) → (o ≡ Some a → said_of ≡ Some a) → (if b then None else o) ≡ Some a → said_of ≡ Some a
gone_right true o said_of a so is = absurd (cc is)
gone_right false o said_of a so is = so is

pub unsettled_too : (all some : List ℕ) (i : ℕ) → Includes all some → is_in all i ≡ false → is_in some i ≡ false
unsettled_too all some i within isnt = false_from_ne_true (is_in some i) (λ there. both_ways (is_in all i) isnt (within i there))

-- the records of settled ids may go
pub Stands-without : (M : Model) → (rows : M.Rows) (records : Records) (s : M.State) (h : History) (t settled : List ℕ) (records' : Records)
    → Includes t settled
    → ((i : ℕ) → records' i ≡ (if is_in settled i then None else records i)) → Stands M rows records s h t → Stands M rows records' s h t
Stands-without M rows records s h t settled records' within are so = record {
  tree = so.tree;
  distinct = so.distinct;
  rows_are = so.rows_are;
  right = λ i a is. gone_right (is_in settled i) (records i) (said M s h i) a (so.right i a) (sym (are i) ∙ is);
  kept = λ i fresh. are i ∙ ap (λ (b : Bool). if b then None else records i) (unsettled_too t settled i within fresh) ∙ so.kept i fresh;
}

-- more may be settled
pub Stands-settled : (M : Model) → (rows : M.Rows) (records : Records) (s : M.State) (h : History) (t more : List ℕ) → Includes more t
    → Stands M rows records s h t → Stands M rows records s h more
Stands-settled M rows records s h t more within so = record {
  tree = so.tree;
  distinct = so.distinct;
  rows_are = so.rows_are;
  right = so.right;
  kept = λ i fresh. so.kept i (unsettled_too more t i within fresh);
}

-- ---- one entry taken

-- what one entry leads to, if it is seen and if it is kept
pub record AdvancedIf (M : Model) (seen : Bool) (after : KeeperContent M) (at : Standing M) (e : Entry) (done : Done) : Type 0 where
  pub stands : Stands M after.rows after.records at.state (grown at.history (unless_seen seen e)) at.settled
  pub answer : answer_if M seen at.state at.history e ≡ Some done.answer
  pub repeated : done.repeated ≡ (not seen && has at.history (entry_id e))

advanced_by : (M : Model) → (o : Option Said) (before : KeeperContent M) (e : Entry) (after : KeeperContent M) (done : Done) (at : Standing M)
    → IsUnsettled at.settled e → before.records (entry_id e) ≡ o → TookBy M o before e after done → StandsAt M before at → AdvancedIf M false after at e done
advanced_by M (Some known) before e after done at fresh is took so =
    let says = sym (so.kept (entry_id e) fresh) ∙ is in
    let there = found M at.state at.history (entry_id e) known says in
    let same = Stands-same M before.rows before.records after.rows after.records at.state at.history at.settled (took.0, took.1) so in
    record {
      stands = rw (add_old at.history e there) same;
      answer = rw (add_old at.history e there, took.2) says;
      repeated = took.3 ∙ sym there;
    }
advanced_by M None before e after done at fresh is took so =
    let s = at.state in
    let h = at.history in
    let says = sym (so.kept (entry_id e) fresh) ∙ is in
    let none = isnt_there M s h (entry_id e) says in
    let acted = took.0 (history.after M s h) so.tree so.rows_are in
    let stands = Stands-more M before.rows before.records s h at.settled e after.rows after.records done.answer none so acted took.1 in
    let new : said M s (h ++ e ∷ []) (entry_id e) ≡ Some done.answer =
    said-append_new M s h e (entry_id e) none ∙ ap (λ (b : Bool). if b then Some (answer_to M (history.after M s h) e) else None) (same_id (entry_id e))
    ∙ ap Some (sym acted.answer_is) in
    record {
      stands = rw (add_new h e none) stands;
      answer = rw (add_new h e none) new;
      repeated = took.2 ∙ sym none;
    }

advanced_if : (M : Model) → (seen : Bool) (before : KeeperContent M) (e : Entry) (after : KeeperContent M) (done : Done) (at : Standing M)
    → All (IsUnsettled at.settled) (unless_seen seen e) → TookIf M seen before e after done → StandsAt M before at → AdvancedIf M seen after at e done
advanced_if M true before e after done at fresh took so = record {
  stands = Stands-same M before.rows before.records after.rows after.records at.state at.history at.settled took.0 so;
  answer = ap Some (sym (took.1 (history.after M at.state at.history) so.tree so.rows_are));
  repeated = took.2;
}
advanced_if M false before e after done at fresh took so =
    advanced_by M (before.records (entry_id e)) before e after done at (fresh zero e (omega arith)) refl took so

pub advanced : (M : Model) → (before : KeeperContent M) (e : Entry) (after : KeeperContent M) (done : Done) (at : Standing M)
    → All (IsUnsettled at.settled) (kept_one M.service e) → Took M before e after done → StandsAt M before at
    → AdvancedIf M (is_seen M.service e) after at e done
advanced M before e after done at fresh took so = advanced_if M (is_seen M.service e) before e after done at fresh took so
