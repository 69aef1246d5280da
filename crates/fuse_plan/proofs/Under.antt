-- What lies under a directory, by steps up.
use Rattle.std.proofs.Common.{◌≡◌, ◌≢◌, ◌&&◌, ◌||◌, ℕ, zero, suc, Bool, true, false, cond, eqb, List, [], ◌∷◌, length, refl, sym, ap, ◌∙◌}
use Rattle.std.proofs.lemmas.Bool.{eqb-true, eq-eqb}
use Rattle.fuse_rows.specs.declared.rows.EntryRow.{EntryRow}
use Rattle.fuse_tree.specs.State.{State, Shape, Apart, AreApart, up_of, above}
use Rattle.fuse_tree.specs.Renaming.{leads_to, lies_in, is_child, StepsUp, LiesInIsUnder}
use Rattle.fuse_plan.proofs.Lists.{any_gives, and_true, or_true}
use Rattle.fuse_plan.proofs.Heights.{rooted, stays_none}
use Rattle.fuse_plan.proofs.Walking.{never_leads}

-- ---- one step

has_entry : (es : List EntryRow) (k : ℕ) → up_of es k ≢ 0 → is_child es (up_of es k) k ≡ true
has_entry [] k given = absurd (given refl)
has_entry (e ∷ es) k given = step (has_entry es k) (eqb e.child k) refl given
  where
    step : (up_of es k ≢ 0 → is_child es (up_of es k) k ≡ true) → (b : Bool) → eqb e.child k ≡ b → cond b e.dir (up_of es k) ≢ 0
        → is_child (e ∷ es) (cond b e.dir (up_of es k)) k ≡ true
    step later true is named = rw (eq-eqb e.dir e.dir refl, is) refl
    step later false is named = rw (later named) (or_true (eqb e.dir (up_of es k) && eqb e.child k))

one_dir : (es : List EntryRow) (dir k : ℕ) → Apart AreApart es → is_child es dir k ≡ true → up_of es k ≡ dir
one_dir [] dir k apart is = absurd cc
one_dir (e ∷ es) dir k apart is = step (one_dir es dir k apart.1) (eqb e.child k) refl (eqb e.dir dir) refl is
  where
    step : (is_child es dir k ≡ true → up_of es k ≡ dir) → (b : Bool) → eqb e.child k ≡ b → (c : Bool) → eqb e.dir dir ≡ c
        → ((c && b) || is_child es dir k) ≡ true → cond b e.dir (up_of es k) ≡ dir
    step later true at true there any = eqb-true e.dir dir there
    step later true at false there any =
        absurd (any_gives (AreApart e) (λ x. eqb x.dir dir && eqb x.child k) ⊥ es apart.0 any
        (λ x p both. p.child (eqb-true e.child k at ∙ sym (eqb-true x.child k (and_true _ _ both).1))))
    step later false at true there any = later any
    step later false at false there any = later any

-- ---- the way up

climbs : (s : State) (n dir node : ℕ) → Shape s → node ≢ 0 → above s.entries n dir ≡ node → StepsUp s.entries n dir node
climbs s zero dir node tree given at = at
climbs s (suc n) dir node tree given at =
    let named : up_of s.entries dir ≢ 0 = λ none. given (sym at ∙ ap (above s.entries n) none ∙ stays_none s.entries (rooted s tree).none n) in
    (up_of s.entries dir, has_entry s.entries dir named, climbs s n (up_of s.entries dir) node tree given at)

is_above : (s : State) (n dir node : ℕ) → Shape s → StepsUp s.entries n dir node → above s.entries n dir ≡ node
is_above s zero dir node tree way = way
is_above s (suc n) dir node tree way = ap (above s.entries n) (one_dir s.entries way.0 dir tree.entries_apart way.1) ∙ is_above s n way.0 node tree way.2

place : (es : List EntryRow) (n node dir : ℕ) → leads_to es n node dir ≡ true → (i : ℕ) × (above es i dir ≡ node)
place es zero node dir is = absurd cc
place es (suc n) node dir is = step (place es n node dir) (leads_to es n node dir) refl is
  where
    step : (leads_to es n node dir ≡ true → (i : ℕ) × (above es i dir ≡ node)) → (b : Bool) → leads_to es n node dir ≡ b
        → (b || eqb (above es n dir) node) ≡ true → (i : ℕ) × (above es i dir ≡ node)
    step sooner true is any = sooner is
    step sooner false is any = (n, eqb-true (above es n dir) node any)

pub lies_in_is_under : LiesInIsUnder
lies_in_is_under s node dir tree given = record {
  found = λ is. let at = place s.entries (length s.nodes) node dir is in (at.0, climbs s at.0 dir node tree.shape given at.1);
  all = λ n way. step n (is_above s n dir node tree.shape way) (lies_in s node dir) refl;
}
  where
    step : (n : ℕ) → above s.entries n dir ≡ node → (b : Bool) → lies_in s node dir ≡ b → lies_in s node dir ≡ true
    step n at true is = is
    step n at false is = absurd (never_leads s node dir tree.shape given is n at)
