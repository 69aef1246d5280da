-- A plan over the rows of a state agrees with what is done in that state.
use Rattle.std.proofs.Common.{◌≡◌, ℕ, Bool, true, cond, List, [], Option, Some, None, refl, sym, ap, subst, ◌∙◌}
use Rattle.std.specs.Prelude.{Result, Ok, Err, IfOk, IfErr, is_some}
use Rattle.std.specs.Option.{option_map}
use Rattle.fuse_wire.specs.Errnos.{enoent, enosys, eproto, estale}
use Rattle.fuse_wire.specs.declared.moment.Moment.{Moment}
use Rattle.fuse_request.specs.declared.request.InHeader.{InHeader}
use Rattle.fuse_request.specs.declared.request.InitIn.{InitIn}
use Rattle.fuse_request.specs.declared.request.Op.{Op}
use Rattle.fuse_request.specs.declared.request.Op.TheVariants as ops
use Rattle.fuse_request.specs.Act.{Act, Asked, act, opcode_of}
use Rattle.fuse_request.specs.Act as acts
use Rattle.fuse_request.specs.AskedSize.{size_asked}
use Rattle.fuse_answer.specs.Replies.{IsRead}
use Rattle.fuse_init.specs.declared.settings.Settings.{Settings}
use Rattle.fuse_init.specs.declared.profile.Profile.{Profile}
use Rattle.fuse_init.specs.Agree.{agree}
use Rattle.fuse_tree.specs.declared.agreement.Agreement.{Agreement}
use Rattle.fuse_plan.specs.declared.planning.fault.PlanFault.{PlanFault}
use Rattle.fuse_plan.specs.declared.planning.fault.PlanFault.TheVariants as faults
use Rattle.fuse_rows.specs.declared.rows.EntryRow.{EntryRow}
use Rattle.fuse_rows.specs.declared.rows.NodeRow.{NodeRow}
use Rattle.fuse_plan.specs.declared.planned.Planned.{Planned}
use Rattle.fuse_tree.specs.State.{State, Node, Shape, Tree, used_of, profile_of, node_at, NodesAreKept}
use Rattle.fuse_tree.specs.Done.{name_checks}
use Rattle.fuse_tree.specs.Making.{asker, asked_node}
use Rattle.fuse_tree.specs.Keeping.{agreement_of, keeps, agreement_at}
use Rattle.fuse_rows.specs.Rows.{Rows, row_at, entry_at}
use Rattle.fuse_tree.specs.Rowed.{row_of, rowed, rows_of_state}
use Rattle.fuse_tree.specs.Init.{init}
use Rattle.fuse_tree.specs.Do.{lookup_absent, lookup_child, lookup_entry, lookup, done, do_at, do_act, names_node, do_agreed, do_offered, offer_of}
use Rattle.fuse_plan.specs.Plan.{Meets, look_fault}
use Rattle.fuse_tree.specs.Laws.{TreeKept, AnswersAreRead}
use Rattle.fuse_tree.specs.Renaming.{asking}
use Rattle.fuse_plan.specs.inner.Reading.{IsReported, refused, told, child_of}
use Rattle.fuse_plan.specs.inner.PlanInit.{plan_init}
use Rattle.fuse_plan.specs.inner.Planning.{plan_absent, plan_lookup, plan_of, plan_offered, plan_agreed, plan_at, plan_act, plan_child}
use Rattle.fuse_plan.proofs.Agrees.{Agrees, refused_agrees, both, checked}
use Rattle.fuse_plan.proofs.MakingAgrees.{mkdir_agrees, mknod_agrees}
use Rattle.fuse_plan.proofs.SettingAgrees.{setattr_agrees}
use Rattle.fuse_plan.proofs.WritingAgrees.{write_agrees, read_agrees}
use Rattle.fuse_plan.proofs.InitAgrees.{init_agrees}
use Rattle.fuse_plan.proofs.FurtherAgrees.{further_agrees}
use Rattle.fuse_plan.proofs.ListingAgrees.{read_dir_agrees}
use Rattle.fuse_plan.proofs.OpeningAgrees.{open_agrees, open_dir_agrees, release_agrees, release_dir_agrees}
use Rattle.fuse_plan.proofs.RemovingAgrees.{unlink_agrees, rmdir_agrees}
use Rattle.fuse_plan.proofs.RenameAgrees.{renaming_agrees}
use Rattle.fuse_plan.proofs.Blocks.{room_with}
use Rattle.fuse_plan.proofs.Most.{profile_mapped}
use Rattle.fuse_plan.proofs.Puts.{row_found, node_found}
use Rattle.fuse_plan.proofs.GoneFirst.{plan_orders}
use Rattle.fuse_plan.proofs.Columns.{plan_fits}

absent_agrees : (s : State) → Shape s → Agrees s (plan_absent (agreement_of s)) (lookup_absent s)
absent_agrees s tree =
    both s (keeps (agreement_of s)) _ _ _ _ (λ _. record { answer = refl; rows = refl; tree = tree; same = refl; kept = λ all. all })
    (λ _. refused_agrees s tree enoent)

child_agrees : (s : State) → Shape s → (o : Option Node) → Agrees s (plan_child (agreement_of s) (option_map (row_of s) o)) (lookup_child s o)
child_agrees s tree None = absent_agrees s tree
child_agrees s tree (Some n) = record { answer = refl; rows = refl; tree = tree; same = refl; kept = λ all. all }

entry_agrees : (s : State) → Shape s → (o : Option EntryRow) → Agrees s (plan_child (agreement_of s) (child_of (rows_of_state s) o)) (lookup_entry s o)
entry_agrees s tree None = absent_agrees s tree
entry_agrees s tree (Some e) =
    subst (λ (r : Option NodeRow). Agrees s (plan_child (agreement_of s) r) (lookup_child s (node_at s e.child))) (sym (row_found s e.child))
    (child_agrees s tree (node_at s e.child))

lookup_agrees : (s : State) (name : List ℕ) (d : Node) → Shape s → Agrees s (plan_lookup (agreement_of s) name (row_of s d) (rows_of_state s)) (lookup s name d)
lookup_agrees s name d tree =
    checked s (name_checks s name d) _ _ tree (λ _ _ _. entry_agrees s tree (entry_at s.entries d.number name))

act_agrees : (s : State) (header : InHeader) (a : Act) (now : Moment) (d : Node) → Shape s → NodesAreKept s → node_at s d.number ≡ Some d
    → Agrees s (plan_act (agreement_of s) header a now (row_of s d) (rows_of_state s)) (do_act s header a now d)
act_agrees s header (acts.Lookup name) now d tree kept e = lookup_agrees s name d tree
act_agrees s header (acts.Getattr flags fh) now d tree kept e = record { answer = refl; rows = refl; tree = tree; same = refl; kept = λ all. all }
act_agrees s header (acts.Setattr set) now d tree kept e = setattr_agrees s set now d tree e
act_agrees s header (acts.Mkdir mode umask name) now d tree kept e = mkdir_agrees s (asked_node (asker header now) mode 0) name d tree e
act_agrees s header (acts.Mknod mode rdev umask name) now d tree kept e = mknod_agrees s (asked_node (asker header now) mode rdev) name d tree e
act_agrees s header (acts.Unlink name) now d tree kept e = unlink_agrees s name now d tree kept e
act_agrees s header (acts.Rmdir name) now d tree kept e = rmdir_agrees s name now d tree kept e
act_agrees s header (acts.OpenFile flags open_flags) now d tree kept e = open_agrees s flags d tree e
act_agrees s header (acts.Read asked) now d tree kept e = read_agrees s asked d tree e
act_agrees s header (acts.Write fh offset write_flags lock_owner flags payload) now d tree kept e = write_agrees s offset payload now d tree e fh
act_agrees s header (acts.OpenDir flags open_flags) now d tree kept e = open_dir_agrees s d tree e
act_agrees s header (acts.ReadDir x) now d tree kept e = read_dir_agrees s x d tree
act_agrees s header (acts.Release x) now d tree kept e = release_agrees s x.fh d tree kept e
act_agrees s header (acts.ReleaseDir x) now d tree kept e = release_dir_agrees s x.fh d tree kept e
act_agrees s header (acts.Rename new_dir old_name new_name) now d tree kept e = renaming_agrees s (asking new_dir 0 old_name new_name now) d tree kept e
act_agrees s header (acts.Rename2 new_dir flags old_name new_name) now d tree kept e = renaming_agrees s (asking new_dir flags old_name new_name now) d tree kept e
act_agrees s header (acts.Further opcode body) now d tree kept e = further_agrees s (asker header now) opcode body d tree e
act_agrees s header _ now d tree kept e = refused_agrees s tree enosys

at_agrees : (s : State) (request : Asked) (now : Moment) (o : Option Node) → Shape s → NodesAreKept s → node_at s request.header.nodeid ≡ o
    → Agrees s (plan_at (agreement_of s) request now (option_map (row_of s) o) (rows_of_state s)) (do_at s request now o)
at_agrees s request now None tree kept e = refused_agrees s tree estale
at_agrees s request now (Some d) tree kept e =
    act_agrees s request.header request.act now d tree kept (subst (λ number. node_at s number ≡ Some d) (sym (node_found s request.header.nodeid d tree e).0) e)

node_agrees : (s : State) (request : Asked) (now : Moment) → Shape s → NodesAreKept s
    → Agrees s (plan_at (agreement_of s) request now (row_at (rows_of_state s) request.header.nodeid) (rows_of_state s))
    (do_at s request now (node_at s request.header.nodeid))
node_agrees s request now tree kept =
    subst (λ (o : Option NodeRow). Agrees s (plan_at (agreement_of s) request now o (rows_of_state s)) (do_at s request now (node_at s request.header.nodeid)))
    (sym (row_found s request.header.nodeid)) (at_agrees s request now (node_at s request.header.nodeid) tree kept refl)

-- the rows show what the store says to each request
agreement_told : (s : State) → agreement_at (rows_of_state s) ≡ agreement_of s
agreement_told s = ap (λ (p : Profile). told_with p s.settings) (profile_mapped (room_with (used_of s)) s.capacity)
  where
    told_with : Profile → Option Settings → Agreement
    told_with p settings = record { profile = p; settings = settings }

agreed_agrees : (s : State) (request : Asked) (now : Moment) → Shape s → NodesAreKept s
    → Agrees s (plan_agreed (agreement_of s) request now (rows_of_state s)) (do_agreed s request now)
agreed_agrees s request now tree kept =
    both s (names_node request.act) _ _ _ _ (λ _. node_agrees s request now tree kept) (λ _. record { answer = refl; rows = refl; tree = tree; same = refl; kept = λ all. all })

plan_agrees : (s : State) (request : Asked) (now : Moment) (offer : Option InitIn) → Shape s → NodesAreKept s
    → Agrees s (plan_offered request now offer (rows_of_state s)) (do_offered s request now offer)
plan_agrees s request now (Some offer) tree kept =
    subst (λ (a : Agreement). Agrees s (plan_init (agree a.profile offer)) (init s (agree (profile_of s) offer))) (sym (agreement_told s))
    (init_agrees s (agree (profile_of s) offer) tree)
plan_agrees s request now None tree kept = both s (is_some s.settings) _ _ _ _ (λ _. subst
    (λ (a : Agreement). Agrees s (plan_agreed a request now (rows_of_state s)) (do_agreed s request now)) (sym (agreement_told s))
    (agreed_agrees s request now tree kept)) (λ _. refused_agrees s tree eproto)

-- what a plan over the rows of a tree is
pub plan_meets : (s : State) (request : Asked) (now : Moment) → Tree s → Meets s (plan_of request now (rowed s)) (done s request now)
unfolding rowed done
plan_meets s request now tree =
    let a =
    plan_agrees s request now
    (offer_of request.act) tree.shape tree.kept in record {
      answer = a.answer;
      rows = a.rows;
      order = plan_orders request now (rowed s);
      fits = plan_fits s request now tree.shape;
      tree = record { shape = a.tree; kept = a.kept tree.kept };
    }

capacity_kept : (s : State) (request : Asked) (now : Moment) → Tree s → (done s request now).state.capacity ≡ s.capacity
unfolding done
capacity_kept s request now tree = (plan_agrees s request now (offer_of request.act) tree.shape tree.kept).same

pub tree_kept : TreeKept
tree_kept s request now tree = ((plan_meets s request now tree).tree, capacity_kept s request now tree)

pub answered : (s : State) (request : Asked) (now : Moment) (result : Result Planned PlanFault) → Tree s
    → (look_fault result ≡ None → IsReported result (plan_of request now (rowed s))) → IfOk result (λ p. Meets s p (done s request now))
answered s request now (Ok p) tree tells = subst (λ (q : Planned). Meets s q (done s request now)) (sym (tells refl).0) (plan_meets s request now tree)
answered s request now (Err fault) tree tells = tt

pub read : (s : State) (request : Asked) (now : Moment) (result : Result Planned PlanFault) → AnswersAreRead → Tree s
    → IfOk result (λ p. Meets s p (done s request now)) → IfOk result (λ p. IsRead (opcode_of request.act) (size_asked request.act) p.answer)
read s request now (Ok p) law tree meets = subst (IsRead (opcode_of request.act) (size_asked request.act)) (sym meets.answer) (law s request now tree)
read s request now (Err fault) law tree meets = tt

pub no_tree : (q : Planned) (result : Result Planned PlanFault)
    → IfErr result (λ fault. fault ≡ faults.NotATree → (look_fault result ≡ None → IsReported result q) → ⊥)
no_tree q (Ok p) = tt
no_tree q (Err (faults.Look f)) = λ is _. absurd cc
no_tree q (Err faults.Memory) = λ is _. absurd cc
no_tree q (Err faults.NotATree) = λ is tells. (tells refl).1 refl

-- every request but DESTROY looks at its node
pub looks_at_node : (op : Op) → ¬ (op ≡ ops.Destroy) → names_node (act op) ≡ true
looks_at_node ops.Destroy h = absurd (h refl)
looks_at_node _ h = refl

-- every request but INIT offers nothing
pub offers_nothing : (op : Op) → ((offer : InitIn) → ¬ (op ≡ ops.Init offer)) → offer_of (act op) ≡ None
offers_nothing (ops.Init offer) h = absurd (h offer refl)
offers_nothing _ h = refl

-- where settings are agreed on, and the request is of a node that is there
pub planned_for : (request : Asked) (now : Moment) (rows : Rows) (a : Agreement) (row : NodeRow) → offer_of request.act ≡ None
    → names_node request.act ≡ true → a ≡ agreement_at rows → is_some a.settings ≡ true → Some row ≡ row_at rows request.header.nodeid
    → plan_of request now rows ≡ plan_act a request.header request.act now row rows
planned_for request now rows a row offer names agreed given at =
    let settings : is_some rows.settings ≡ true = ap (λ (g : Agreement). is_some g.settings) (sym agreed) ∙ given in
    ap (λ (o : Option InitIn). plan_offered request now o rows) offer
    ∙ ap (λ (b : Bool). cond b (plan_agreed (agreement_at rows) request now rows) (refused eproto)) settings
    ∙ ap (λ (b : Bool). cond b (plan_at (agreement_at rows) request now (row_at rows request.header.nodeid) rows) (told [])) names
    ∙ ap (λ (o : Option NodeRow). plan_at (agreement_at rows) request now o rows) (sym at)
    ∙ ap (λ (g : Agreement). plan_act g request.header request.act now row rows) (sym agreed)
