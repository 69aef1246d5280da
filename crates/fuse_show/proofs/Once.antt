-- The names of a path lead to one node, or fail for one reason.
use Rattle.std.proofs.Common.{◌≡◌, ◌⊎◌, ℕ, Bool, true, false, List, [], ◌∷◌, ◌++◌, Option, Some, None, inl, inr, refl, sym, ap, subst, ◌∙◌}
use Rattle.std.specs.Prelude.{Result, Ok, Err}
use Rattle.fuse_rows.specs.declared.rows.NodeRow.{NodeRow}
use Rattle.fuse_rows.specs.declared.rows.EntryRow.{EntryRow}
use Rattle.fuse_tree.specs.State.{is_dir}
use Rattle.fuse_rows.specs.Bounds.{fuse_root_id}
use Rattle.fuse_rows.specs.Rows.{Rows, row_at, entry_at}
use Rattle.fuse_tree.specs.Rowed.{IsRowed}
use Rattle.fuse_tree.specs.RowsOfTrees.{RowsOfTrees}
use Rattle.fuse_show.specs.declared.fault.ShowFault.{ShowFault}
use Rattle.fuse_show.specs.declared.fault.ShowFault.TheVariants.{Look, NotATree, NoSuchPath, NotDirectory, NotFile, Output}
use Rattle.fuse_show.specs.Lookup.{LeadsBy, Lead, LeadTo, Stops, HasNoEntry, IsNoDirectory, Finds, NoLookFault, FindsSomething, FoundOnce}
use Rattle.fuse_show.proofs.Trees.{root_there, child_row}

some_once : {A : Type 0} (x y : A) (o : Option A) → o ≡ Some x → o ≡ Some y → x ≡ y
some_once x y o p q = cc

leads_once : (rows : Rows) (from : NodeRow) (name : List ℕ) (a b : NodeRow) → LeadsBy rows from name a → LeadsBy rows from name b → a ≡ b
leads_once rows from name a b p q =
    let entry : p.entry ≡ q.entry = some_once p.entry q.entry (entry_at rows.entries from.node name) p.found q.found in
    let child : row_at rows q.entry.child ≡ Some a = subst (λ (e : EntryRow). row_at rows e.child ≡ Some a) entry p.child in
    some_once a b (row_at rows q.entry.child) child q.child

lead_once : (rows : Rows) (from : NodeRow) (names : List (List ℕ)) (a b : NodeRow) → Lead rows from names a → Lead rows from names b → a ≡ b
lead_once rows from [] a b p q = p ∙ sym q
lead_once rows from (name ∷ names) a b p q =
    let same : p.0 ≡ q.0 = leads_once rows from name p.0 q.0 p.1 q.1 in
    lead_once rows q.0 names a b (subst (λ (x : NodeRow). Lead rows x names a) same p.2) q.2

-- no node follows by this name
abbrev EndsHere : Rows → NodeRow → List ℕ → Type 0
EndsHere rows last name = (next : NodeRow) → LeadsBy rows last name next → ⊥

none_ends : (rows : Rows) (last : NodeRow) (name : List ℕ) → HasNoEntry rows last name → EndsHere rows last name
none_ends rows last name why next one =
    let found : entry_at rows.entries last.node name ≡ Some one.entry = one.found in
    let none : entry_at rows.entries last.node name ≡ None = why.1 in
    absurd cc

no_directory_ends : (rows : Rows) (last : NodeRow) (name : List ℕ) → IsNoDirectory last name → EndsHere rows last name
no_directory_ends rows last name why next one =
    let dir : is_dir last.mode ≡ true = one.dir in
    let none : is_dir last.mode ≡ false = why in
    absurd cc

-- names that lead to a node do not stop on the way
on_and_stop : (rows : Rows) (from : NodeRow) (prefix : List (List ℕ)) (name : List ℕ) (after : List (List ℕ)) (to last : NodeRow)
    → Lead rows from (prefix ++ name ∷ after) to → Lead rows from prefix last → EndsHere rows last name → ⊥
on_and_stop rows from [] name after to last on stop ends = ends on.0 (subst (λ (x : NodeRow). LeadsBy rows x name on.0) (sym stop) on.1)
on_and_stop rows from (n ∷ prefix) name after to last on stop ends =
    let same : on.0 ≡ stop.0 = leads_once rows from n on.0 stop.0 on.1 stop.1 in
    on_and_stop rows stop.0 prefix name after to last (subst (λ (x : NodeRow). Lead rows x (prefix ++ name ∷ after) to) same on.2) stop.2 ends

-- where names stop twice, they stop at one node
both_stop : (rows : Rows) (from : NodeRow) (f g : List (List ℕ)) (m n : List ℕ) (p q : List (List ℕ)) (a b : NodeRow) → f ++ m ∷ p ≡ g ++ n ∷ q
    → Lead rows from f a → Lead rows from g b → EndsHere rows a m → EndsHere rows b n → a ≡ b
both_stop rows from [] [] m n p q a b same on stop ends ends' = on ∙ sym stop
both_stop rows from [] (y ∷ g) m n p q a b same on stop ends ends' =
    let first : m ≡ y = cc same in
    let one : LeadsBy rows a m stop.0 =
    subst (λ (x : NodeRow). LeadsBy rows x m stop.0) (sym on) (subst (λ (x : List ℕ). LeadsBy rows from x stop.0) (sym first) stop.1) in
    absurd (ends stop.0 one)
both_stop rows from (x ∷ f) [] m n p q a b same on stop ends ends' =
    let first : n ≡ x = cc same in
    let one : LeadsBy rows b n on.0 =
    subst (λ (y : NodeRow). LeadsBy rows y n on.0) (sym stop) (subst (λ (y : List ℕ). LeadsBy rows from y on.0) (sym first) on.1) in
    absurd (ends' on.0 one)
both_stop rows from (x ∷ f) (y ∷ g) m n p q a b same on stop ends ends' =
    let first : x ≡ y = cc same in
    let rest : f ++ m ∷ p ≡ g ++ n ∷ q = cc same in
    let here : LeadsBy rows from y on.0 = subst (λ (z : List ℕ). LeadsBy rows from z on.0) first on.1 in
    let place : on.0 ≡ stop.0 = leads_once rows from y on.0 stop.0 here stop.1 in
    both_stop rows stop.0 f g m n p q a b rest (subst (λ (z : NodeRow). Lead rows z f a) place on.2) stop.2 ends ends'

root_once : (rows : Rows) (f g : List (List ℕ)) (a b : NodeRow) (p : LeadTo rows f a) (q : LeadTo rows g b) → p.root ≡ q.root
root_once rows f g a b p q = some_once p.root q.root (row_at rows 1) p.is_root q.is_root

places_once : (rows : Rows) (names : List (List ℕ)) (a b : NodeRow) → LeadTo rows names a → LeadTo rows names b → a ≡ b
places_once rows names a b p q =
    lead_once rows q.root names a b (subst (λ (x : NodeRow). Lead rows x names a) (root_once rows names names a b p q) p.lead) q.lead

leads_or_stops : (rows : Rows) (names : List (List ℕ)) (a : NodeRow) (Why : NodeRow → List ℕ → Type 0)
    → ((last : NodeRow) (name : List ℕ) → Why last name → EndsHere rows last name) → LeadTo rows names a → Stops rows names Why → ⊥
leads_or_stops rows names a Why ends p s =
    let root = root_once rows s.prefix names s.last a s.leads p in
    on_and_stop rows p.root s.prefix s.name s.after a s.last (subst (λ (x : List (List ℕ)). Lead rows p.root x a) s.parts p.lead)
    (subst (λ (x : NodeRow). Lead rows x s.prefix s.last) root s.leads.lead) (ends s.last s.name s.why)

stops_or : (rows : Rows) (names : List (List ℕ)) → Stops rows names (HasNoEntry rows) → Stops rows names IsNoDirectory → ⊥
stops_or rows names p q =
    let root = root_once rows p.prefix q.prefix p.last q.last p.leads q.leads in
    let last : p.last ≡ q.last =
    both_stop rows q.leads.root p.prefix q.prefix p.name q.name p.after q.after p.last q.last (sym p.parts ∙ q.parts)
    (subst (λ (x : NodeRow). Lead rows x p.prefix p.last) root p.leads.lead) q.leads.lead
    (none_ends rows p.last p.name p.why) (no_directory_ends rows q.last q.name q.why) in
    let dir : is_dir q.last.mode ≡ true = subst (λ (x : NodeRow). is_dir x.mode ≡ true) last p.why.0 in
    let none : is_dir q.last.mode ≡ false = q.why in
    absurd cc

place_or : (rows : Rows) (names : List (List ℕ)) (a : NodeRow) (b : Result NodeRow ShowFault) → NoLookFault b → LeadTo rows names a → Finds rows names b → Ok a ≡ b
place_or rows names a (Ok b) known p q = ap Ok (places_once rows names a b p q)
place_or rows names a (Err (Look f)) known p q = absurd known
place_or rows names a (Err NotATree) known p q = absurd q
place_or rows names a (Err NoSuchPath) known p q = absurd (leads_or_stops rows names a (HasNoEntry rows) (none_ends rows) p q)
place_or rows names a (Err NotDirectory) known p q = absurd (leads_or_stops rows names a IsNoDirectory (no_directory_ends rows) p q)
place_or rows names a (Err NotFile) known p q = absurd q
place_or rows names a (Err Output) known p q = absurd q

none_or : (rows : Rows) (names : List (List ℕ)) (b : Result NodeRow ShowFault) → NoLookFault b → Stops rows names (HasNoEntry rows) → Finds rows names b
    → Err NoSuchPath ≡ b
none_or rows names (Ok b) known p q = absurd (leads_or_stops rows names b (HasNoEntry rows) (none_ends rows) q p)
none_or rows names (Err (Look f)) known p q = absurd known
none_or rows names (Err NotATree) known p q = absurd q
none_or rows names (Err NoSuchPath) known p q = refl
none_or rows names (Err NotDirectory) known p q = absurd (stops_or rows names p q)
none_or rows names (Err NotFile) known p q = absurd q
none_or rows names (Err Output) known p q = absurd q

no_directory_or : (rows : Rows) (names : List (List ℕ)) (b : Result NodeRow ShowFault) → NoLookFault b → Stops rows names IsNoDirectory → Finds rows names b
    → Err NotDirectory ≡ b
no_directory_or rows names (Ok b) known p q = absurd (leads_or_stops rows names b IsNoDirectory (no_directory_ends rows) q p)
no_directory_or rows names (Err (Look f)) known p q = absurd known
no_directory_or rows names (Err NotATree) known p q = absurd q
no_directory_or rows names (Err NoSuchPath) known p q = absurd (stops_or rows names q p)
no_directory_or rows names (Err NotDirectory) known p q = refl
no_directory_or rows names (Err NotFile) known p q = absurd q
no_directory_or rows names (Err Output) known p q = absurd q

pub found_once : FoundOnce
found_once rows names (Ok a) b known known' p q = place_or rows names a b known' p q
found_once rows names (Err (Look f)) b known known' p q = absurd known
found_once rows names (Err NotATree) b known known' p q = absurd p
found_once rows names (Err NoSuchPath) b known known' p q = none_or rows names b known' p q
found_once rows names (Err NotDirectory) b known known' p q = no_directory_or rows names b known' p q
found_once rows names (Err NotFile) b known known' p q = absurd p
found_once rows names (Err Output) b known known' p q = absurd p

-- ---- a node or a reason is found

-- names stop on their way from a node
record StopsFrom (rows : Rows) (from : NodeRow) (names : List (List ℕ)) : Type 0 where
  pub prefix : List (List ℕ)
  pub name : List ℕ
  pub after : List (List ℕ)
  pub parts : names ≡ prefix ++ name ∷ after
  pub last : NodeRow
  pub lead : Lead rows from prefix last
  pub why : HasNoEntry rows last name ⊎ IsNoDirectory last name

abbrev GoesFrom : Rows → NodeRow → List (List ℕ) → Type 0
GoesFrom rows from names = ((to : NodeRow) × Lead rows from names to) ⊎ StopsFrom rows from names

-- the walk goes on from the next node
goes_on : (rows : Rows) (from next : NodeRow) (name : List ℕ) (names : List (List ℕ)) → LeadsBy rows from name next → GoesFrom rows next names
    → GoesFrom rows from (name ∷ names)
goes_on rows from next name names one (inl p) = inl (p.0, (next, one, p.1))
goes_on rows from next name names one (inr s) = inr (record {
  prefix = name ∷ s.prefix;
  name = s.name;
  after = s.after;
  parts = ap (λ (x : List (List ℕ)). name ∷ x) s.parts;
  last = s.last;
  lead = (next, one, s.lead);
  why = s.why;
})

stops_here : (rows : Rows) (from : NodeRow) (name : List ℕ) (names : List (List ℕ)) → HasNoEntry rows from name ⊎ IsNoDirectory from name
    → GoesFrom rows from (name ∷ names)
stops_here rows from name names why =
    inr (record { prefix = []; name = name; after = names; parts = refl; last = from; lead = refl; why = why })

goes_from : RowsOfTrees → (rows : Rows) → IsRowed rows → (names : List (List ℕ)) (from : NodeRow) → GoesFrom rows from names
goes_from law rows is [] from = inl (from, refl)
goes_from law rows is (name ∷ names) from = of_dir (λ next. goes_from law rows is names next) (is_dir from.mode) refl
  where
    of_child : ((next : NodeRow) → GoesFrom rows next names) → (entry : EntryRow) → is_dir from.mode ≡ true
        → entry_at rows.entries from.node name ≡ Some entry → (o : Option NodeRow) → row_at rows entry.child ≡ o → GoesFrom rows from (name ∷ names)
    of_child more entry dir found None child = absurd (child_row law rows from.node name entry is found child)
    of_child more entry dir found (Some next) child =
        goes_on rows from next name names (record { entry = entry; dir = dir; found = found; child = child }) (more next)

    of_entry : ((next : NodeRow) → GoesFrom rows next names) → is_dir from.mode ≡ true → (o : Option EntryRow)
        → entry_at rows.entries from.node name ≡ o → GoesFrom rows from (name ∷ names)
    of_entry more dir None found = stops_here rows from name names (inl (dir, found))
    of_entry more dir (Some entry) found = of_child more entry dir found (row_at rows entry.child) refl

    of_dir : ((next : NodeRow) → GoesFrom rows next names) → (b : Bool) → is_dir from.mode ≡ b → GoesFrom rows from (name ∷ names)
    of_dir more true dir = of_entry more dir (entry_at rows.entries from.node name) refl
    of_dir more false dir = stops_here rows from name names (inr dir)

-- the result of that walk
found_so : (rows : Rows) (names : List (List ℕ)) (root : NodeRow) → row_at rows fuse_root_id ≡ Some root → GoesFrom rows root names
    → (found : Result NodeRow ShowFault) × NoLookFault found × Finds rows names found
found_so rows names root here (inl p) = (Ok p.0, tt, record { root = root; is_root = here; lead = p.1 })
found_so rows names root here (inr s) = of_why s.why
  where
    leads : LeadTo rows s.prefix s.last
    leads = record { root = root; is_root = here; lead = s.lead }

    of_why : HasNoEntry rows s.last s.name ⊎ IsNoDirectory s.last s.name → (found : Result NodeRow ShowFault) × NoLookFault found × Finds rows names found
    of_why (inl why) =
        (Err NoSuchPath, tt, record { prefix = s.prefix; name = s.name; after = s.after; parts = s.parts; last = s.last; leads = leads; why = why })
    of_why (inr why) =
        (Err NotDirectory, tt, record { prefix = s.prefix; name = s.name; after = s.after; parts = s.parts; last = s.last; leads = leads; why = why })

pub finds_something : RowsOfTrees → FindsSomething
finds_something law rows names is = of_root (row_at rows fuse_root_id) refl
  where
    of_root : (o : Option NodeRow) → row_at rows fuse_root_id ≡ o → (found : Result NodeRow ShowFault) × NoLookFault found × Finds rows names found
    of_root None root = absurd (root_there law rows is root)
    of_root (Some root) here = found_so rows names root here (goes_from law rows is names root)
