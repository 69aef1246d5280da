-- The lots of records, start after start.
use Rattle.std.proofs.Common.{◌≡◌, inl, inr, ◌≤◌, ℕ, Bool, true, false, ◌||◌, ◌==◌, List, [], ◌∷◌, length, Some, None, refl, sym, ap, subst, ◌∙◌}
use Rattle.std.proofs.Common.{arith, is_some}
use Rattle.std.proofs.lemmas.Bool.{eqb-true, eqb-false}
use Rattle.fuse_keeper.specs.History.{is_in}
use Rattle.fuse_keeper.specs.Lots.{TakesLot}
use Rattle.fuse_session.specs.Starts.{KeptRecords, UnderAtMostMore, Starts, HasFewEach, LotsOverStarts}
use Rattle.fuse_session.proofs.Settled.{includes_left, includes_right}

is_in_one : (lot : ℕ) → is_in (lot ∷ []) lot ≡ true
is_in_one lot = elim (lot == lot) as (λ b. (lot == lot) ≡ b → (b || false) ≡ true)
    [ true ↦ λ _. refl | false ↦ λ isnt. absurd (eqb-false lot lot isnt refl) ] refl

-- after a start no lot is taken yet
record Ready (kept : KeptRecords) : Type 0 where
  each : HasFewEach kept
  none : kept.lots.current ≡ None

started : (old new : KeptRecords) → HasFewEach old → Starts old new → Ready new
started old new so (inl again) = record {
  each = record {
    there = λ i lot some under. ap (λ ns. is_in ns lot) again.lots.numbers ∙ so.there i lot (again.some i some) (sym (again.lots.under i) ∙ under);
    few = λ lot isnt.
        let f = so.few lot isnt in (f.0, f.1, λ i some under. f.2 i (again.some i some) (sym (again.lots.under i) ∙ under));
  };
  none = again.lots.current;
}
started old new so (inr began) = record {
  each = record {
    there = λ i lot some under. absurd (let no = began.none i in cc (some, no));
    few = λ lot isnt. ([], omega arith, λ i some under. absurd (let no = began.none i in cc (some, no)));
  };
  none = began.lots.current;
}

few_of : (begun left : KeptRecords) → HasFewEach begun → (u : UnderAtMostMore begun left) → (took : TakesLot begun.lots left.lots) → (lot : ℕ) → (b : Bool)
    → (took.lot == lot) ≡ b → (lot ≡ 0 → ⊥) → (ids : List ℕ) × (length ids ≤ 16)
    × ((i : ℕ) → is_some (left.records i) ≡ true → left.lots.under i ≡ Some lot → is_in ids i ≡ true)
few_of begun left so u took lot true is isnt = (
  u.more,
  u.few,
  λ i some under. elim (u.each i some) [
    | inl was ↦ absurd (
        let here = so.there i lot was.0 (sym was.1 ∙ under) in
        let same = eqb-true took.lot lot is in
        let new = took.is_new in
        let absent : is_in begun.lots.numbers lot ≡ false = subst (λ n. is_in begun.lots.numbers n ≡ false) same new in
        cc (here, absent))
    | inr one ↦ one.0
  ],
)
few_of begun left so u took lot false is isnt =
    let f = so.few lot isnt in (
      f.0,
      f.1,
      λ i some under. elim (u.each i some) [
        | inl was ↦ f.2 i was.0 (sym was.1 ∙ under)
        | inr one ↦ absurd (
            let same : Some lot ≡ Some took.lot = sym under ∙ one.1 ∙ took.current in
            let here : lot ≡ took.lot = cc same in
            eqb-false took.lot lot is (sym here))
      ],
    )

after_session : (begun left : KeptRecords) → Ready begun → UnderAtMostMore begun left → HasFewEach left
after_session begun left ready u = elim (u.takes.taken ready.none) [
  | inl took ↦ record {
    there = λ i lot some under. ap (λ ns. is_in ns lot) took.numbers
        ∙ (elim (u.each i some) [
          | inl was ↦ includes_left begun.lots.numbers (took.lot ∷ []) lot (ready.each.there i lot was.0 (sym was.1 ∙ under))
          | inr one ↦
              let same : Some lot ≡ Some took.lot = sym under ∙ one.1 ∙ took.current in
              let here : lot ≡ took.lot = cc same in
              includes_right begun.lots.numbers (took.lot ∷ []) lot (subst (λ n. is_in (took.lot ∷ []) n ≡ true) (sym here) (is_in_one took.lot))
        ]);
    few = λ lot isnt. few_of begun left ready.each u took lot (took.lot == lot) refl isnt;
  }
  | inr not ↦ record {
    there = λ i lot some under. ap (λ ns. is_in ns lot) not.1
        ∙ (elim (u.each i some) [
          | inl was ↦ ready.each.there i lot was.0 (sym was.1 ∙ under)
          | inr one ↦ absurd (let same : Some lot ≡ None = sym under ∙ one.1 ∙ not.0 in cc same)
        ]);
    few = λ lot isnt.
        let f = ready.each.few lot isnt in (
          f.0,
          f.1,
          λ i some under. elim (u.each i some) [
            | inl was ↦ f.2 i was.0 (sym was.1 ∙ under)
            | inr one ↦ absurd (let same : Some lot ≡ None = sym under ∙ one.1 ∙ not.0 in cc same)
          ],
        );
  }
]

pub over_starts : LotsOverStarts
over_starts kept [] so are = tt
over_starts kept (x ∷ starts) so are =
    let here = after_session x.begun x.left (started kept x.begun so are.0) are.1 in
    (here, over_starts x.left starts here are.2)
