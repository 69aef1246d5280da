-- Names followed one after the other.
use Rattle.std.proofs.Common.{◌≡◌, ℕ, List, [], ◌∷◌, ◌++◌, Some, None, refl, sym, ap, subst, ◌∙◌, append_assoc, append-nil}
use Rattle.std.specs.Prelude.{Ok, Err}
use Rattle.fuse_rows.specs.Bounds.{fuse_root_id}
use Rattle.fuse_rows.specs.declared.rows.NodeRow.{NodeRow}
use Rattle.fuse_rows.specs.Rows.{Rows, row_at}
use Rattle.fuse_show.specs.declared.fault.ShowFault.{ShowFault}
use Rattle.fuse_show.specs.declared.fault.ShowFault.TheVariants.{Look, NotATree, NoSuchPath, NotDirectory, NotFile, Output}
use Rattle.fuse_show.specs.Looks.{ReadOff, look_fault_in}
use Rattle.fuse_show.specs.Paths.{names_of}
use Rattle.fuse_show.specs.Lookup.{LeadsBy, Lead, LeadTo, Finds}
use Rattle.fuse_show.specs.inner.Finding.{StepsTo, IsRoot}
use Rattle.fuse_show.proofs.Trees.{row_numbered}

lead_more : (rows : Rows) (from : NodeRow) (names : List (List ℕ)) (to : NodeRow) (name : List ℕ) (next : NodeRow) → Lead rows from names to
    → LeadsBy rows to name next → Lead rows from (names ++ name ∷ []) next
lead_more rows from [] to name next lead one = (next, subst (λ (x : NodeRow). LeadsBy rows x name next) lead one, refl)
lead_more rows from (n ∷ names) to name next lead one = (lead.0, lead.1, lead_more rows lead.0 names to name next lead.2 one)

leads_more : (rows : Rows) (names : List (List ℕ)) (to : NodeRow) (name : List ℕ) (next : NodeRow) → LeadTo rows names to → LeadsBy rows to name next
    → LeadTo rows (names ++ name ∷ []) next
leads_more rows names to name next leads one =
    record { root = leads.root; is_root = leads.is_root; lead = lead_more rows leads.root names to name next leads.lead one }

stop_at : (rows : Rows) (names prefix : List (List ℕ)) (name : List ℕ) (after : List (List ℕ)) (place : NodeRow) (f : ShowFault)
    → names ≡ prefix ++ name ∷ after → LeadTo rows prefix place → StepsTo rows place name (Err f) → Finds rows names (Err f)
stop_at rows names prefix name after place (Look f) parts leads why = tt
stop_at rows names prefix name after place NotATree parts leads why = why
stop_at rows names prefix name after place NoSuchPath parts leads why =
    record { prefix = prefix; name = name; after = after; parts = parts; last = place; leads = leads; why = why }
stop_at rows names prefix name after place NotDirectory parts leads why =
    record { prefix = prefix; name = name; after = after; parts = parts; last = place; leads = leads; why = why }
stop_at rows names prefix name after place NotFile parts leads why = why
stop_at rows names prefix name after place Output parts leads why = why

-- a prefix of the names of a path was followed to this place, and the rest is left
pub record Went (clean : Type 0) (sees : Rows → Type 0) (path rest : List ℕ) (place : NodeRow) : Type 0 where
  pub prefix : List (List ℕ)
  pub parts : names_of path ≡ prefix ++ names_of rest
  pub so : ReadOff clean sees (λ rows. LeadTo rows prefix place)

pub went_none : (clean : Type 0) (sees : Rows → Type 0) (path : List ℕ) (root : NodeRow)
    → ReadOff clean sees (λ rows. row_at rows fuse_root_id ≡ Some root) → Went clean sees path path root
went_none clean sees path root found =
    record { prefix = []; parts = refl; so = λ is_clean rows is at. record { root = root; is_root = found is_clean rows is at; lead = refl } }

-- one more name was followed
pub went_more : (clean clean' : Type 0) (sees sees' : Rows → Type 0) (path rest name after : List ℕ) (place next : NodeRow)
    → Went clean sees path rest place → names_of rest ≡ name ∷ names_of after → (clean' → clean) → (clean → (rows : Rows) → sees rows → sees' rows)
    → ReadOff clean' sees' (λ rows. LeadsBy rows place name next) → Went clean' sees path after next
went_more clean clean' sees sees' path rest name after place next went cut was kept one = record {
  prefix = went.prefix ++ name ∷ [];
  parts = went.parts ∙ ap (λ (x : List (List ℕ)). went.prefix ++ x) cut ∙ sym (append_assoc went.prefix (name ∷ []) (names_of after));
  so = λ is_clean rows is at.
      leads_more rows went.prefix place name next (went.so (was is_clean) rows is at) (one is_clean rows is (kept (was is_clean) rows at));
}

-- the next name leads nowhere, or a look failed
pub stop_if : (clean : Type 0) (sees : Rows → Type 0) (path rest name after : List ℕ) (place : NodeRow) (went : Went clean sees path rest place)
    → names_of rest ≡ name ∷ names_of after → (rows : Rows) (f : ShowFault)
    → (look_fault_in {X = NodeRow} (Err f) ≡ None → LeadTo rows went.prefix place × StepsTo rows place name (Err f)) → Finds rows (names_of path) (Err f)
stop_if clean sees path rest name after place went cut rows f so = stop f so
  where
    parts : names_of path ≡ went.prefix ++ name ∷ names_of after
    parts = went.parts ∙ ap (λ (x : List (List ℕ)). went.prefix ++ x) cut

    stop : (e : ShowFault) → (look_fault_in {X = NodeRow} (Err e) ≡ None → LeadTo rows went.prefix place × StepsTo rows place name (Err e))
        → Finds rows (names_of path) (Err e)
    stop (Look e) so = tt
    stop NotATree so = let p = so refl in stop_at rows (names_of path) went.prefix name (names_of after) place NotATree parts p.0 p.1
    stop NoSuchPath so = let p = so refl in stop_at rows (names_of path) went.prefix name (names_of after) place NoSuchPath parts p.0 p.1
    stop NotDirectory so = let p = so refl in stop_at rows (names_of path) went.prefix name (names_of after) place NotDirectory parts p.0 p.1
    stop NotFile so = let p = so refl in stop_at rows (names_of path) went.prefix name (names_of after) place NotFile parts p.0 p.1
    stop Output so = let p = so refl in stop_at rows (names_of path) went.prefix name (names_of after) place Output parts p.0 p.1

-- all names were followed
pub went_all : (clean : Type 0) (sees : Rows → Type 0) (path rest : List ℕ) (place : NodeRow) → Went clean sees path rest place → names_of rest ≡ []
    → ReadOff clean sees (λ rows. Finds rows (names_of path) (Ok place))
went_all clean sees path rest place went none is_clean rows is at =
    let all : names_of path ≡ went.prefix = went.parts ∙ ap (λ (x : List (List ℕ)). went.prefix ++ x) none ∙ append-nil went.prefix in
    subst (λ (x : List (List ℕ)). LeadTo rows x place) (sym all) (went.so is_clean rows is at)

-- no root is found
pub no_root : (rows : Rows) (names : List (List ℕ)) (f : ShowFault) → IsRoot rows (Err f) → Finds rows names (Err f)
no_root rows names (Look f) is = tt
no_root rows names NotATree is = is
no_root rows names NoSuchPath is = absurd is
no_root rows names NotDirectory is = absurd is
no_root rows names NotFile is = is
no_root rows names Output is = is

-- ---- the node at the end of a path

lead_there : (rows : Rows) (from : NodeRow) (names : List (List ℕ)) (to : NodeRow) → row_at rows from.node ≡ Some from → Lead rows from names to
    → row_at rows to.node ≡ Some to
lead_there rows from [] to here lead = subst (λ (x : NodeRow). row_at rows x.node ≡ Some x) (sym lead) here
lead_there rows from (name ∷ names) to here lead =
    lead_there rows lead.0 names to (row_numbered rows lead.1.entry.child lead.0 lead.1.child) lead.2

-- the row of a node to which names lead is that of its number
pub leads_there : (rows : Rows) (names : List (List ℕ)) (to : NodeRow) → LeadTo rows names to → row_at rows to.node ≡ Some to
leads_there rows names to leads = lead_there rows leads.root names to (row_numbered rows fuse_root_id leads.root leads.is_root) leads.lead
