-- The state of two copies, from the state of each.
use Rattle.std.proofs.Common.{◌≡◌, ◌||◌, Bool, true, false, ℕ, List, Result, Ok, Err, refl, sym, ap, subst, ◌∙◌, inl, inr, ◌⊎◌}
use Rattle.std.proofs.Math.Bool.{or-true}
use Rattle.fuse_keeper.specs.declared.fault.StoreFault.{StoreFault}
use Rattle.fuse_keeper.specs.declared.keeper.Done.{Done}
use Rattle.fuse_keeper.specs.declared.plain.PlainKeeper.{PlainKeeper}
use Rattle.fuse_keeper.specs.Model.{Model}
use Rattle.fuse_keeper.specs.History.{Entry, History}
use Rattle.fuse_keeper.specs.Lots.{no_lots, SameLots}
use Rattle.fuse_keeper.specs.Stands.{Records, Stands, AreThese, StillStands}
use Rattle.fuse_keeper.specs.Plain.{mapped}
use Rattle.fuse_keeper.specs.PlainKeeper.{plain_told}
use Rattle.fuse_keeper.specs.KeeperState.{StandsFor, Performed, IsFirm, KeepsHeld, Leaves, Called, Looked, HoldsTaken, HoldsOthers, ActsOn, Reopened}
use Rattle.two_copies.specs.declared.copies.TwoCopies.{TwoCopies}
use Rattle.two_copies.specs.TwoCopies.{HoldsAlike, two_told, WorkingAsked}

lots_stay : SameLots no_lots no_lots
lots_stay = record { numbers = refl; current = refl; under = λ i. refl }

or-append : (a b c : Bool) → (a || (b || c)) ≡ ((a || b) || c)
or-append true b c = refl
or-append false b c = refl

module _ {F : Type 0} (M : Model) (held : F → M.Rows) where
  -- ---- one copy

  pub plain_firm : (p : PlainKeeper F) → IsFirm (plain_told M held p)
  plain_firm p = λ y q so. (tt, λ x r left. (left.0 ∙ sym so.0, λ i. left.1 i ∙ sym (so.1 i)))

  -- what it holds stands for the history
  pub held_stands : StillStands M → (p : PlainKeeper F) (s : M.State) (h : History) (t : List ℕ) (x : M.Rows) (r : Records) → StandsFor (plain_told M held p) s h t
      → (plain_told M held p).holds x r → Stands M x r s h t
  held_stands still p s h t x r so left =
      still.same so.rows so.records x r s h t (left.0 ∙ sym so.held.0, λ i. left.1 i ∙ sym (so.held.1 i)) so.stands

  -- ---- both

  pub copies_firm : (k : TwoCopies F) → IsFirm (two_told M held k)
  copies_firm k = λ y q so. (tt, λ x r left. (left.0 ∙ sym so.0.0, λ i. left.1 i ∙ sym (so.0.1 i)))

  pub working_stands : (k : TwoCopies F) (s : M.State) (h : History) (t : List ℕ) → StandsFor (two_told M held k) s h t
      → StandsFor (plain_told M held k.working) s h t
  working_stands k s h t so = record { rows = so.rows; records = so.records; held = so.held.1; stands = so.stands }

  pub committed_stands : (k : TwoCopies F) (s : M.State) (h : History) (t : List ℕ) → StandsFor (two_told M held k) s h t
      → StandsFor (plain_told M held k.committed) s h t
  committed_stands k s h t so = record { rows = so.rows; records = so.records; held = so.held.0; stands = so.stands }

  -- the committed copy is that of before, so a crash leaves what was held then
  pub leaves_old : StillStands M → (old new : TwoCopies F) (s : M.State) (h : History) (t : List ℕ) (x : M.Rows) (r : Records) → new.committed ≡ old.committed
      → StandsFor (two_told M held old) s h t → (two_told M held new).may_leave x r → Stands M x r s h t
  leaves_old still old new s h t x r is so left =
      held_stands still old.committed s h t x r (committed_stands old s h t so) (subst (λ p. (plain_told M held p).holds x r) is left)

  -- and where the commit held, what the working copy then leaves
  pub leaves_either : StillStands M → (old new : TwoCopies F) (w : PlainKeeper F) (s : M.State) (h : History) (t : List ℕ) (P : M.Rows → Records → Type 0)
      → (new.committed ≡ old.committed) ⊎ HoldsAlike (plain_told M held w) (plain_told M held new.committed)
      → StandsFor (two_told M held old) s h t → ((x : M.Rows) (r : Records) → Stands M x r s h t → P x r)
      → Leaves (plain_told M held w) P → Leaves (two_told M held new) P
  leaves_either still old new w s h t P (inl same) so first leaves = (tt, λ x r left. first x r (leaves_old still old new s h t x r same so left))
  leaves_either still old new w s h t P (inr alike) so first leaves = (tt, λ x r left. leaves.1 x r (alike.1 x r left))

  -- the same of what was held
  pub left_held : (old new : TwoCopies F) (rows : M.Rows) (records : Records) (x : M.Rows) (r : Records) → new.committed ≡ old.committed
      → (two_told M held old).holds rows records → (two_told M held new).may_leave x r → AreThese M rows records x r
  left_held old new rows records x r is so left =
      let there = subst (λ p. (plain_told M held p).holds x r) is left in
      (there.0 ∙ sym so.0.0, λ i. there.1 i ∙ sym (so.0.1 i))

  pub leaves_held : (old new : TwoCopies F) (w : PlainKeeper F) (rows : M.Rows) (records : Records) (P : M.Rows → Records → Type 0)
      → (new.committed ≡ old.committed) ⊎ HoldsAlike (plain_told M held w) (plain_told M held new.committed)
      → (two_told M held old).holds rows records → ((x : M.Rows) (r : Records) → AreThese M rows records x r → P x r)
      → Leaves (plain_told M held w) P → Leaves (two_told M held new) P
  leaves_held old new w rows records P (inl same) so first leaves = (tt, λ x r left. first x r (left_held old new rows records x r same so left))
  leaves_held old new w rows records P (inr alike) so first leaves = (tt, λ x r left. leaves.1 x r (alike.1 x r left))

  -- ---- a commit

  -- the committed copy was made anew from this one, which is the working one
  pub record Commits (w : PlainKeeper F) (k : TwoCopies F) : Type 0 where
    pub working : k.working ≡ w
    pub closed : k.in_doubt ≡ false
    pub alike : HoldsAlike (plain_told M held w) (plain_told M held k.committed)

  pub both_hold : (w : PlainKeeper F) (k : TwoCopies F) (x : M.Rows) (r : Records) → Commits w k → (plain_told M held w).holds x r
      → (two_told M held k).holds x r
  both_hold w k x r made so = (made.alike.0 x r so, subst (λ p. (plain_told M held p).holds x r) (sym made.working) so, made.closed)

  pub both_stand : (w : PlainKeeper F) (k : TwoCopies F) (s : M.State) (h : History) (t : List ℕ) → Commits w k
      → StandsFor (plain_told M held w) s h t → StandsFor (two_told M held k) s h t
  both_stand w k s h t made so = record { rows = so.rows; records = so.records; held = both_hold w k so.rows so.records made so.held; stands = so.stands }

  pub both_performed : (w : PlainKeeper F) (k : TwoCopies F) (s : M.State) (h : History) (t : List ℕ) (es : List Entry) (dones : List Done) → Commits w k
      → Performed (plain_told M held w) s h t es dones → Performed (two_told M held k) s h t es dones
  both_performed w k s h t es dones made does = record { stands = both_stand w k s _ t made does.stands; answers = does.answers; repeated = does.repeated }

  pub both_taken : (w : PlainKeeper F) (k : TwoCopies F) (rows : M.Rows) (others : Records) (es : List Entry) (dones : List Done) → Commits w k
      → HoldsTaken (plain_told M held w) rows others es dones → HoldsTaken (two_told M held k) rows others es dones
  both_taken w k rows others es dones made so = record {
    rows = so.rows;
    records = so.records;
    held = both_hold w k so.rows so.records made so.held;
    taken = so.taken;
  }

  pub both_others : (w : PlainKeeper F) (k : TwoCopies F) (before : Records) (settled : List ℕ) (es : List Entry) → Commits w k
      → HoldsOthers (plain_told M held w) before settled es → HoldsOthers (two_told M held k) before settled es
  both_others w k before settled es made so = record {
    rows = so.rows;
    records = so.records;
    held = both_hold w k so.rows so.records made so.held;
    rowed = so.rowed;
    others = so.others;
  }

  -- its working copy performed the group
  pub working_acted : (old new : TwoCopies F) (w : PlainKeeper F) (settled : List ℕ) (es : List Entry) (dones : List Done) → new.working ≡ w
      → ActsOn (plain_told M held old.working) (plain_told M held w) settled es dones → WorkingAsked M held old new settled es
  working_acted old new w settled es dones is acts =
      inr (dones, subst (λ p. ActsOn (plain_told M held old.working) (plain_told M held p) settled es dones) (sym is) acts)

  -- ---- faults

  -- a write is left open
  pub called_open : {A : Type 0} (old new : TwoCopies F) (fault : StoreFault) → new.in_doubt ≡ true
      → Called {A = A} (two_told M held old) (two_told M held new) (Err fault)
  called_open old new fault is = record {
    failed = ap (λ b. b || (plain_told M held new.working).has_failed) is ∙ sym (or-true (old.in_doubt || (plain_told M held old.working).has_failed));
    honest = λ honest. honest;
    medium = λ memory. memory;
    service = refl;
    clean = tt;
    err = λ clean. absurd (let e = clean in cc);
    err_lots = λ clean. absurd (let e = clean in cc);
    fault = λ clean. absurd (let e = clean in cc);
  }

  done_failed : (o o' f f' : Bool) → o ≡ false → o' ≡ false → f' ≡ (f || false) → (o' || f') ≡ ((o || f) || false)
  done_failed o o' f f' is is' so = rw (is, is', so) refl

  -- a call went well
  pub called_done : {A : Type 0} (old new : TwoCopies F) (a : A) (w : PlainKeeper F) → old.in_doubt ≡ false → Commits w new
      → (plain_told M held w).has_failed ≡ ((plain_told M held old.working).has_failed || false) → Called (two_told M held old) (two_told M held new) (Ok a)
  called_done old new a w closed made failed = record {
    failed = done_failed old.in_doubt new.in_doubt (plain_told M held old.working).has_failed (plain_told M held new.working).has_failed
        closed made.closed (ap (λ p. (plain_told M held p).has_failed) made.working ∙ failed);
    honest = λ honest. honest;
    medium = λ memory. memory;
    service = refl;
    clean = λ clean honest. made.closed;
    err = tt;
    err_lots = tt;
    fault = λ clean s h t so. tt;
  }

  -- ---- a call of the working copy alone

  pub called_working : {A : Type 0} (result : Result A StoreFault) (old new : TwoCopies F) → new.committed ≡ old.committed → new.in_doubt ≡ old.in_doubt
      → Called (plain_told M held old.working) (plain_told M held new.working) result → Called (two_told M held old) (two_told M held new) result
  called_working {A} (Ok a) old new committed alike called = record {
    failed = ap (λ b. b || (plain_told M held new.working).has_failed) alike ∙ ap (λ b. old.in_doubt || b) called.failed
        ∙ or-append old.in_doubt (plain_told M held old.working).has_failed false;
    honest = λ honest. honest;
    medium = λ memory. memory;
    service = refl;
    clean = λ clean honest. alike ∙ clean;
    err = tt;
    err_lots = tt;
    fault = λ clean s h t so. tt;
  }
  called_working {A} (Err fault) old new committed alike called = record {
    failed = ap (λ b. b || (plain_told M held new.working).has_failed) alike ∙ ap (λ b. old.in_doubt || b) called.failed
        ∙ or-append old.in_doubt (plain_told M held old.working).has_failed true;
    honest = λ honest. honest;
    medium = λ memory. memory;
    service = refl;
    clean = tt;
    err = λ clean x r so. (subst (λ p. (plain_told M held p).holds x r) (sym committed) so.0, called.err tt x r so.1, alike ∙ so.2);
    err_lots = λ clean x r so. lots_stay;
    fault = λ clean s h t so. called.fault tt s h t (working_stands old s h t so);
  }

  pub looked_working : {A : Type 0} (result : Result A StoreFault) (old new : TwoCopies F) → new.committed ≡ old.committed → new.in_doubt ≡ old.in_doubt
      → Looked (plain_told M held old.working) (plain_told M held new.working) result → Looked (two_told M held old) (two_told M held new) result
  looked_working {A} (Ok a) old new committed alike looked = record {
    called = called_working (Ok a) old new committed alike looked.called;
    may = looked.may;
    same = λ honest x r so. (subst (λ p. (plain_told M held p).holds x r) (sym committed) so.0, looked.same tt x r so.1, alike ∙ so.2);
    lots = λ honest x r so. lots_stay;
    whole = λ rows records so whole. whole;
    crash = λ x r rows records so left. subst (λ p. (plain_told M held p).holds x r) committed left;
  }
  looked_working {A} (Err fault) old new committed alike looked = record {
    called = called_working (Err fault) old new committed alike looked.called;
    may = looked.may;
    same = tt;
    lots = tt;
    whole = λ rows records so whole. whole;
    crash = λ x r rows records so left. subst (λ p. (plain_told M held p).holds x r) committed left;
  }

  -- ---- opened again

  pub reopens : (old new : TwoCopies F) → new.committed ≡ old.committed → new.in_doubt ≡ false → (plain_told M held new.working).has_failed ≡ false
      → KeepsHeld (plain_told M held new.committed) (plain_told M held new.working) → Reopened (two_told M held old) (two_told M held new)
  reopens old new committed closed going copied = record {
    same = λ honest x r so. (
      subst (λ p. (plain_told M held p).holds x r) (sym committed) so.0,
      copied x r (subst (λ p. (plain_told M held p).holds x r) (sym committed) so.0),
      closed,
    );
    held = λ honest whole. (
      held new.committed.rows,
      mapped new.committed.records,
      (
        (refl, λ i. refl),
        copied (held new.committed.rows) (mapped new.committed.records) (refl, λ i. refl),
        closed,
      ),
    );
    left = λ honest whole x r so. subst (λ p. (plain_told M held p).holds x r) committed so.0;
    firm = λ honest. copies_firm new;
    lots = λ honest x r so. record { numbers = refl; current = refl; under = λ i. refl };
    honest = λ honest. honest;
    medium = λ memory. memory;
    service = refl;
    going = rw (closed, going) refl;
  }

  -- ---- a group of seen requests alone, after which its working copy holds what it held

  module _ (old new : TwoCopies F) (committed : new.committed ≡ old.committed) (alike : new.in_doubt ≡ old.in_doubt)
      (keeps : KeepsHeld (plain_told M held old.working) (plain_told M held new.working)) where
    pub still_both : (x y : M.Rows) (r q : Records) → (two_told M held old).holds x r → (plain_told M held new.working).holds y q
        → (two_told M held new).holds y q
    still_both x y r q so there =
        let here = keeps x r so.1 in (
          subst (λ p. (plain_told M held p).holds y q) (sym committed)
              (there.0 ∙ sym here.0 ∙ so.0.0, λ i. there.1 i ∙ sym (here.1 i) ∙ so.0.1 i),
          there,
          alike ∙ so.2,
        )

    pub seen_performed : (s : M.State) (h : History) (t : List ℕ) (es : List Entry) (dones : List Done) → StandsFor (two_told M held old) s h t
        → Performed (plain_told M held new.working) s h t es dones → Performed (two_told M held new) s h t es dones
    seen_performed s h t es dones so does = record {
      stands = record {
        rows = does.stands.rows;
        records = does.stands.records;
        held = still_both so.rows does.stands.rows so.records does.stands.records so.held does.stands.held;
        stands = does.stands.stands;
      };
      answers = does.answers;
      repeated = does.repeated;
    }

    pub seen_taken : (rows : M.Rows) (records others : Records) (es : List Entry) (dones : List Done) → (two_told M held old).holds rows records
        → HoldsTaken (plain_told M held new.working) rows others es dones → HoldsTaken (two_told M held new) rows others es dones
    seen_taken rows records others es dones so does = record {
      rows = does.rows;
      records = does.records;
      held = still_both rows does.rows records does.records so does.held;
      taken = does.taken;
    }

    pub seen_others : (rows : M.Rows) (records : Records) (settled : List ℕ) (es : List Entry) → (two_told M held old).holds rows records
        → HoldsOthers (plain_told M held new.working) records settled es → HoldsOthers (two_told M held new) records settled es
    seen_others rows records settled es so does = record {
      rows = does.rows;
      records = does.records;
      held = still_both rows does.rows records does.records so does.held;
      rowed = does.rowed;
      others = does.others;
    }
