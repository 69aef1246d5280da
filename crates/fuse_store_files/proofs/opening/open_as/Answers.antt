use Rattle.std.proofs.lemmas.Result.{IfOk-weaker, IfErr-weaker}
use Rattle.fuse_store.specs.TableKeeper.{parts_state}
use Rattle.fuse_store.specs.StoreKeeper.{own_profile, store_told}
use Rattle.fuse_store_files.proofs.Opened.{over_existing, over_any, over_fresh, stored_is_not_blank, honest_conn, clean_kept, ok_of_4, ok_of_7}
use Rattle.fuse_store_files.proofs.opening.open_as.Goals as goal

pub returns-in-Existing-clause-opens : goal.returns-in-Existing-clause-opens
returns-in-Existing-clause-opens g c =
    rw c.in-Existing.is (ok_of_4 c.open.result _ _ _ _ _
    (λ k profile holds lots tabled clean. over_existing (parts_state g.S.Store g.D.Disk c.args.parts) (own_profile k) (store_told g.S.Store g.D.Disk k) (profile clean) c.in-Existing.number (holds clean) (lots clean) (tabled clean))
    c.open.ensures.profile c.open.ensures.holds c.open.ensures.lots c.open.ensures.tabled)

pub returns-in-Existing-clause-clean : goal.returns-in-Existing-clause-clean
returns-in-Existing-clause-clean g c = clean_kept g.S.Store g.D.Disk c.open.result

pub returns-in-Existing-clause-crash : goal.returns-in-Existing-clause-crash
returns-in-Existing-clause-crash g c = rw c.in-Existing.is (IfErr-weaker c.open.result _ _ (λ r refused. refused.crash) c.open.ensures.refused)

pub returns-in-Existing-clause-fault : goal.returns-in-Existing-clause-fault
returns-in-Existing-clause-fault g c = IfErr-weaker c.open.result _ _ (λ r refused z honest was. refused.outside z honest was tt) c.open.ensures.refused

pub returns-in-Any-clause-opens : goal.returns-in-Any-clause-opens
returns-in-Any-clause-opens g c =
    rw c.in-Any.is (ok_of_7 c.open_or_create.result _ _ _ _ _ _ _ _
    (λ k profile holds lots stands new_lots made going clean.
    over_any (parts_state g.S.Store g.D.Disk c.args.parts) (own_profile k) (store_told g.S.Store g.D.Disk k) (profile clean) c.in-Any.new (holds clean) (lots clean) (stands clean) (new_lots clean) made)
    c.open_or_create.ensures.profile c.open_or_create.ensures.holds c.open_or_create.ensures.lots c.open_or_create.ensures.stands c.open_or_create.ensures.new_lots
    c.open_or_create.ensures.new_profile c.open_or_create.ensures.going)

pub returns-in-Any-clause-clean : goal.returns-in-Any-clause-clean
returns-in-Any-clause-clean g c = clean_kept g.S.Store g.D.Disk c.open_or_create.result

pub returns-in-Any-clause-crash : goal.returns-in-Any-clause-crash
returns-in-Any-clause-crash g c = rw c.in-Any.is c.open_or_create.ensures.crash

pub returns-in-Fresh-clause-opens : goal.returns-in-Fresh-clause-opens
returns-in-Fresh-clause-opens g c =
    rw c.in-Fresh.is (ok_of_7 c.open_fresh.result _ _ _ _ _ _ _ _
    (λ k profile holds lots begins stands new_lots made clean.
    over_fresh (parts_state g.S.Store g.D.Disk c.args.parts) (own_profile k) (store_told g.S.Store g.D.Disk k) (profile clean) c.in-Fresh.new (holds clean) (lots clean) (begins clean) (stands clean)
    (new_lots clean) made)
    c.open_fresh.ensures.profile c.open_fresh.ensures.holds c.open_fresh.ensures.lots c.open_fresh.ensures.begins c.open_fresh.ensures.stands c.open_fresh.ensures.new_lots
    c.open_fresh.ensures.new_profile)

pub returns-in-Fresh-clause-clean : goal.returns-in-Fresh-clause-clean
returns-in-Fresh-clause-clean g c = clean_kept g.S.Store g.D.Disk c.open_fresh.result

pub returns-in-Fresh-clause-crash : goal.returns-in-Fresh-clause-crash
returns-in-Fresh-clause-crash g c = rw c.in-Fresh.is c.open_fresh.ensures.crash

pub returns-in-Existing-clause-refused : goal.returns-in-Existing-clause-refused
returns-in-Existing-clause-refused g c = IfErr-weaker c.open.result _ _ (λ r refused. refused.refused) c.open.ensures.refused

pub returns-in-Existing-clause-rows : goal.returns-in-Existing-clause-rows
returns-in-Existing-clause-rows g c =
    rw c.in-Existing.is (IfOk-weaker c.open.result _ _ (λ k rows clean content at. rows.opened (honest_conn g.S.Store g.D.Disk k clean) content at) c.open.ensures.rows)

pub returns-in-Any-clause-rows : goal.returns-in-Any-clause-rows
returns-in-Any-clause-rows g c =
    rw c.in-Any.is (IfOk-weaker c.open_or_create.result _ _
    (λ k rows clean content at. (rows (stored_is_not_blank (parts_state g.S.Store g.D.Disk c.args.parts).tables content at)).opened (honest_conn g.S.Store g.D.Disk k clean) content at) c.open_or_create.ensures.rows)

pub returns-in-Fresh-clause-rows : goal.returns-in-Fresh-clause-rows
returns-in-Fresh-clause-rows g c =
    rw c.in-Fresh.is (IfOk-weaker c.open_fresh.result _ _
    (λ k rows clean content at. (rows (stored_is_not_blank (parts_state g.S.Store g.D.Disk c.args.parts).tables content at)).begun (honest_conn g.S.Store g.D.Disk k clean) content at) c.open_fresh.ensures.rows)

pub returns-in-Existing-clause-tabled : goal.returns-in-Existing-clause-tabled
returns-in-Existing-clause-tabled g c = IfOk-weaker c.open.result _ _ (λ k tabled honest ours. tabled honest) c.open.ensures.tabled

pub returns-in-Existing-clause-whole : goal.returns-in-Existing-clause-whole
returns-in-Existing-clause-whole g c = IfOk-weaker c.open.result _ _ (λ k whole honest ours. whole honest) c.open.ensures.whole

pub returns-in-Existing-clause-says : goal.returns-in-Existing-clause-says
returns-in-Existing-clause-says g c = IfErr-weaker c.open.result _ _ (λ r refused clean ours. refused.says clean) c.open.ensures.refused

pub returns-in-Existing-clause-alone : goal.returns-in-Existing-clause-alone
returns-in-Existing-clause-alone g c =
    rw c.in-Existing.is (IfErr-weaker c.open.result _ _ (λ r refused outside ours same. refused.alone outside same) c.open.ensures.refused)

pub returns-in-Existing-clause-absent : goal.returns-in-Existing-clause-absent
returns-in-Existing-clause-absent g c outside ours none = c.open.ensures.absent outside none

pub returns-in-Existing-clause-blank : goal.returns-in-Existing-clause-blank
returns-in-Existing-clause-blank g c = rw c.in-Existing.is (IfErr-weaker c.open.result _ _ (λ r refused none. absurd none) c.open.ensures.refused)

pub returns-in-Any-clause-tabled : goal.returns-in-Any-clause-tabled
returns-in-Any-clause-tabled g c =
    rw c.in-Any.is (IfOk-weaker c.open_or_create.result _ _ (λ k tabled honest ours. tabled honest (λ blank. ours blank.1)) c.open_or_create.ensures.tabled)

pub returns-in-Any-clause-whole : goal.returns-in-Any-clause-whole
returns-in-Any-clause-whole g c =
    rw c.in-Any.is (IfOk-weaker c.open_or_create.result _ _ (λ k whole honest ours. whole honest (λ blank. ours blank.1)) c.open_or_create.ensures.whole)

pub returns-in-Any-clause-says : goal.returns-in-Any-clause-says
returns-in-Any-clause-says g c =
    rw c.in-Any.is (IfErr-weaker c.open_or_create.result _ _ (λ r says clean ours. says clean (λ blank. ours blank.1)) c.open_or_create.ensures.says)

pub returns-in-Any-clause-alone : goal.returns-in-Any-clause-alone
returns-in-Any-clause-alone g c =
    rw c.in-Any.is (IfErr-weaker c.open_or_create.result _ _ (λ r alone outside ours same. alone outside (λ blank. ours blank.1) same) c.open_or_create.ensures.alone)

pub returns-in-Any-clause-absent : goal.returns-in-Any-clause-absent
returns-in-Any-clause-absent g c = rw c.in-Any.is (λ outside ours none. c.open_or_create.ensures.absent outside (λ blank. ours blank.1) none)

pub returns-in-Any-clause-blank : goal.returns-in-Any-clause-blank
returns-in-Any-clause-blank g c = IfErr-weaker c.open_or_create.result _ _ (λ r outside made blank. outside blank) c.open_or_create.ensures.fault_blank

pub returns-in-Fresh-clause-tabled : goal.returns-in-Fresh-clause-tabled
returns-in-Fresh-clause-tabled g c =
    rw c.in-Fresh.is (IfOk-weaker c.open_fresh.result _ _ (λ k tabled honest ours. tabled honest (λ blank. ours blank.1)) c.open_fresh.ensures.tabled)

pub returns-in-Fresh-clause-whole : goal.returns-in-Fresh-clause-whole
returns-in-Fresh-clause-whole g c =
    rw c.in-Fresh.is (IfOk-weaker c.open_fresh.result _ _ (λ k whole honest ours. whole honest (λ blank. ours blank.1)) c.open_fresh.ensures.whole)

pub returns-in-Fresh-clause-says : goal.returns-in-Fresh-clause-says
returns-in-Fresh-clause-says g c =
    rw c.in-Fresh.is (IfErr-weaker c.open_fresh.result _ _ (λ r says clean ours. says clean (λ blank. ours blank.1)) c.open_fresh.ensures.says)

pub returns-in-Fresh-clause-alone : goal.returns-in-Fresh-clause-alone
returns-in-Fresh-clause-alone g c =
    rw c.in-Fresh.is (IfErr-weaker c.open_fresh.result _ _ (λ r alone outside ours same. alone outside (λ blank. ours blank.1) same) c.open_fresh.ensures.alone)

pub returns-in-Fresh-clause-absent : goal.returns-in-Fresh-clause-absent
returns-in-Fresh-clause-absent g c = rw c.in-Fresh.is (λ outside ours none. c.open_fresh.ensures.absent outside (λ blank. ours blank.1) none)

pub returns-in-Fresh-clause-blank : goal.returns-in-Fresh-clause-blank
returns-in-Fresh-clause-blank g c = IfErr-weaker c.open_fresh.result _ _ (λ r outside made blank. outside blank) c.open_fresh.ensures.fault_blank

pub returns-in-Existing-clause-undone : goal.returns-in-Existing-clause-undone
returns-in-Existing-clause-undone g c = IfErr-weaker c.open.result _ _ (λ r refused ours. refused.undone) c.open.ensures.refused

pub returns-in-Any-clause-undone : goal.returns-in-Any-clause-undone
returns-in-Any-clause-undone g c =
    rw c.in-Any.is (IfErr-weaker c.open_or_create.result _ _ (λ r undone ours. undone (λ blank. ours blank.1)) c.open_or_create.ensures.undone)

pub returns-in-Fresh-clause-undone : goal.returns-in-Fresh-clause-undone
returns-in-Fresh-clause-undone g c =
    rw c.in-Fresh.is (IfErr-weaker c.open_fresh.result _ _ (λ r undone ours. undone (λ blank. ours blank.1)) c.open_fresh.ensures.undone)

pub returns-in-Existing-clause-stays : goal.returns-in-Existing-clause-stays
returns-in-Existing-clause-stays g c =
    rw c.in-Existing.is (IfOk-weaker c.open.result _ _ (λ k rows honest ours same. rows.alone same) c.open.ensures.rows)

pub returns-in-Any-clause-stays : goal.returns-in-Any-clause-stays
returns-in-Any-clause-stays g c =
    rw c.in-Any.is (IfOk-weaker c.open_or_create.result _ _ (λ k rows honest ours same. (rows (λ blank. ours blank.1)).alone same) c.open_or_create.ensures.rows)

pub returns-in-Fresh-clause-stays : goal.returns-in-Fresh-clause-stays
returns-in-Fresh-clause-stays g c =
    rw c.in-Fresh.is (IfOk-weaker c.open_fresh.result _ _ (λ k tabled honest ours other. absurd (other (tabled honest (λ blank. ours blank.1)))) c.open_fresh.ensures.tabled)

pub returns-in-Existing-clause-contents : goal.returns-in-Existing-clause-contents
returns-in-Existing-clause-contents g c = rw c.in-Existing.is (IfErr-weaker c.open.result _ _ (λ r refused ours. refused.contents) c.open.ensures.refused)

pub returns-in-Any-clause-contents : goal.returns-in-Any-clause-contents
returns-in-Any-clause-contents g c = rw c.in-Any.is (IfErr-weaker c.open_or_create.result _ _ (λ r so ours. so (λ blank. ours blank.1)) c.open_or_create.ensures.contents)

pub returns-in-Fresh-clause-contents : goal.returns-in-Fresh-clause-contents
returns-in-Fresh-clause-contents g c = rw c.in-Fresh.is (IfErr-weaker c.open_fresh.result _ _ (λ r so ours. so (λ blank. ours blank.1)) c.open_fresh.ensures.contents)
