-- Entries that go, move or change places: who stands above whom then.
use Rattle.std.proofs.Common.{◌≡◌, ◌≢◌, ◌<◌, ◌==◌, ℕ, zero, suc, Bool, true, false, not, eqb, List, [], ◌∷◌, ◌++◌, Some, refl, sym, ap, subst, ◌∙◌, ◌⊎◌, inl, inr, arith}
use Rattle.std.specs.Prelude.{find, filter, nat_eq}
use Rattle.std.specs.List.{AllByRecursion}
use Rattle.std.specs.Cmp.Lexicographic.{pointwise, same_text}
use Rattle.std.proofs.lemmas.Bool.{eqb-true, ne_eqb, eq-eqb}
use Rattle.fuse_rows.specs.declared.rows.EntryRow.{EntryRow}
use Rattle.fuse_rows.specs.Rows.{is_entry}
use Rattle.fuse_tree.specs.State.{Apart, AreApart, Reaches, above, up_of}
use Rattle.fuse_plan.proofs.Lists.{all_more, all_filtered, and_true, cond_found, found}
use Rattle.fuse_plan.proofs.EntryGone.{up_less}

-- ---- one entry among the others

-- an entry other than e has another cookie, another child and another place
pub record Differs (e z : EntryRow) : Type 0 where
  pub cookie : z.cookie ≢ e.cookie
  pub child : z.child ≢ e.child
  pub place : is_entry e.dir e.name z ≡ false

later_differs : (e z : EntryRow) → AreApart e z → Differs e z
later_differs e z apart =
    let lt : e.cookie < z.cookie = apart.cookie in
    record { cookie = omega arith; child = λ same. apart.child (sym same); place = step (is_entry e.dir e.name z) refl }
  where
    step : (b : Bool) → is_entry e.dir e.name z ≡ b → b ≡ false
    step false is = refl
    step true is =
        let h = and_true (eqb z.dir e.dir) (pointwise nat_eq z.name e.name) is in
        let there : is_entry z.dir z.name e ≡ is_entry e.dir e.name e = rw (eqb-true z.dir e.dir h.0, same_text z.name e.name (sym h.1)) refl in
        let self : pointwise nat_eq e.name e.name ≡ true = subst (λ (n : List ℕ). pointwise nat_eq n e.name ≡ true) (same_text z.name e.name (sym h.1)) h.1 in
        let here : is_entry e.dir e.name e ≡ true = rw (eq-eqb e.dir e.dir refl, self) refl in
        absurd (let no = apart.place in cc)

earlier_differs : (e z : EntryRow) → AreApart z e → Differs e z
earlier_differs e z apart =
    let lt : z.cookie < e.cookie = apart.cookie in
    record { cookie = omega arith; child = apart.child; place = apart.place }

-- each entry is the one that is found, or differs from it
pub others_differ : (test : EntryRow → Bool) (es : List EntryRow) (e : EntryRow) → Apart AreApart es → find test es ≡ Some e
    → AllByRecursion (λ z. (z ≡ e) ⊎ Differs e z) es
others_differ test [] e apart is = absurd cc
others_differ test (x ∷ es) e apart is =
    elim (cond_found (test x) x e (find test es) is) [
      | inl h ↦ (
        inl h.1,
        all_more (AreApart x) (λ z. (z ≡ e) ⊎ Differs e z) es (λ z p. inr (later_differs e z (subst (λ (y : EntryRow). AreApart y z) h.1 p))) apart.0,
      )
      | inr h ↦ (inr (earlier_differs e x (found (AreApart x) test es e apart.0 h.1).0), others_differ test es e apart.1 h.1)
    ]

-- ---- the directory above

-- the entry that is found says which directory is above its child
pub up_found : (test : EntryRow → Bool) (es : List EntryRow) (e : EntryRow) → Apart AreApart es → find test es ≡ Some e → up_of es e.child ≡ e.dir
up_found test es e apart is = step es (others_differ test es e apart is) is
  where
    step : (xs : List EntryRow) → AllByRecursion (λ z. (z ≡ e) ⊎ Differs e z) xs → find test xs ≡ Some e → up_of xs e.child ≡ e.dir
    step [] all at = absurd cc
    step (x ∷ xs) all at =
        elim all.0 [
          | inl same ↦ rw (eq-eqb x.child e.child (ap (λ (y : EntryRow). y.child) same)) (ap (λ (y : EntryRow). y.dir) same)
          | inr other ↦ elim (cond_found (test x) x e (find test xs) at) [
            | inl h ↦ absurd (other.child (ap (λ (y : EntryRow). y.child) h.1))
            | inr h ↦ rw (ne_eqb x.child e.child other.child) (step xs all.1 h.1)
          ]
        ]

-- an entry after the others says which directory is above its child, where none of them does
pub up_last : (es : List EntryRow) (e : EntryRow) → AllByRecursion (λ z. z.child ≢ e.child) es → up_of (es ++ e ∷ []) e.child ≡ e.dir
up_last [] e others = rw (eq-eqb e.child e.child refl) refl
up_last (x ∷ es) e others = rw (ne_eqb x.child e.child others.0) (up_last es e others.1)

-- ---- ways up

-- where from each place of a kind one goes up as before to such a place, or to a place from where going up reaches
-- the root, going up reaches the root as before
pub reaches_on : (Q : ℕ → Type 0) (es fs : List EntryRow) → ((k : ℕ) → Q k → ((up_of fs k ≡ up_of es k) × Q (up_of es k)) ⊎ Reaches fs (up_of fs k)) → (n k : ℕ)
    → Q k → above es n k ≡ 1 → Reaches fs k
reaches_on Q es fs step zero k at is = (0, is)
reaches_on Q es fs step (suc n) k at is =
    elim (step k at) [
      | inl same ↦ (let rest = reaches_on Q es fs step n (up_of es k) same.1 is in (suc rest.0, ap (above fs rest.0) same.0 ∙ rest.1))
      | inr climb ↦ (suc climb.0, climb.1)
    ]

-- ---- the entries other than one that is found

abbrev pub keeps : ℕ → EntryRow → Bool
keeps cookie z = not (z.cookie == cookie)

module _ (es : List EntryRow) (e : EntryRow) (others : AllByRecursion (λ z. (z ≡ e) ⊎ Differs e z) es) where
  pub kept_differ : AllByRecursion (Differs e) (filter (keeps e.cookie) es)
  kept_differ =
      all_more (λ z. ((z ≡ e) ⊎ Differs e z) × (keeps e.cookie z ≡ true)) (Differs e) (filter (keeps e.cookie) es)
      (λ z p. elim p.0 [
        | inl same ↦ absurd
            (let is = eq-eqb z.cookie e.cookie (ap (λ (y : EntryRow). y.cookie) same) in let kept = p.1 in cc)
        | inr other ↦ other
      ])
      (all_filtered (λ z. (z ≡ e) ⊎ Differs e z) (keeps e.cookie) es others)

  pub gone_child : AllByRecursion (λ z. keeps e.cookie z ≡ false → z.child ≡ e.child) es
  gone_child =
      all_more (λ z. (z ≡ e) ⊎ Differs e z) (λ z. keeps e.cookie z ≡ false → z.child ≡ e.child) es
      (λ z p gone. elim p [ inl same ↦ ap (λ (y : EntryRow). y.child) same | inr other ↦ absurd (let is = ne_eqb z.cookie e.cookie other.cookie in cc) ]) others

  pub up_kept : (j : ℕ) → j ≢ e.child → up_of (filter (keeps e.cookie) es) j ≡ up_of es j
  up_kept j other = up_less (keeps e.cookie) es e.child j gone_child other
