-- The laws of the `impl` of `Look` (defined by this project).
use Rattle.std.proofs.Common.{inl, refl, sym, subst, ◌∙◌}
use Rattle.std.specs.Prelude.{ℕ, List, IsTrue, Option, IfSome}
use Rattle.std.proofs.Math.Nat.{le_refl}
use Rattle.sqlite.specs.Tree.{Trees}
use Rattle.sqlite.specs.State.{State, HasCleanDisk, Survives}
use Rattle.fuse_rows.specs.Rows.{Rows}
use Rattle.fuse_keeper.specs.declared.fault.StoreFault.{StoreFault}
use Rattle.fuse_store_tables.specs.Faults.{IsOutside, IsPlain}
use Rattle.fuse_store_tables.specs.Moves.{IsReady, Stays, LookedInside}
use Rattle.fuse_store_tables.specs.inner.Following.{earlier, inside_then, stays_then}
use Rattle.fuse_store_tree.specs.declared.look.LastNode.{LastNode}
use Rattle.fuse_data.specs.State.{DataState}
use Rattle.fuse_store_tree.specs.Pieces.{File, ReadsData, ReadsFile}
use Rattle.fuse_store_tree.specs.Knowing.{KnownTables}
use Rattle.fuse_store_tree.specs.Holding.{HeldFor}
use Rattle.fuse_store_tree.specs.Looking.{sees_in, sees_with, WentWell, MayFail}

-- ---- looks

pub still_survives : (a : State) (P : Trees → Type 0) → Survives a a P
still_survives a P = record {
  clean = le_refl _;
  shield = λ h. h;
  counts = le_refl a.faults;
  limit = refl;
  closes = λ clean is_open. inl is_open;
  crash = λ clean db left. inl left;
}

same_stays : (a : State) → Stays a a
same_stays a = record {
  survives = still_survives a _;
  kept = λ clean inside. record { was_open = λ is. is; committed = λ is. refl };
}

pub looked_still : (a : State) → LookedInside a a
looked_still a = record { stays = same_stays a; within = λ clean inside. inside; same = λ clean c at. at }

pub looked_then : (a b d : State) → LookedInside a b → LookedInside b d → LookedInside a d
looked_then a b d p q = record {
  stays = stays_then a b d p.stays p.within q.stays;
  within = inside_then a b d p.within q.stays.survives q.within;
  same = λ clean c at. q.same clean c (p.same (earlier b d _ q.stays.survives clean) c at);
}

pub looked_fails : (a b d : State) → LookedInside a b → Stays b d → Stays a d
looked_fails a b d p q = stays_then a b d p.stays p.within q

pub looked_clean : (a b : State) → LookedInside a b → HasCleanDisk b → HasCleanDisk a
looked_clean a b p clean = earlier a b _ p.stays.survives clean

pub looked_kept : (a b : State) → LookedInside a b → HasCleanDisk b → (file : List ℕ) (rows : Rows) → sees_in file a rows → sees_in file b rows
looked_kept a b p clean file rows (x, at, is) =
    let now = p.same clean at.holds.0 (record { is_open = at.is_open; in_transaction = at.in_transaction; holds = at.holds.1 }) in
    (x, record { is_open = now.is_open; in_transaction = now.in_transaction; holds = (at.holds.0, now.holds, at.holds.2) }, is)

-- ---- reads of the data file

pub still_data : (d : DataState) → ReadsData d d
still_data d = record { seen = refl; clean = λ clean. clean; usable = refl; gaps = refl; crash = λ file may. may }

pub data_then : (a b d : DataState) → ReadsData a b → ReadsData b d → ReadsData a d
data_then a b d p q = record {
  seen = q.seen ∙ p.seen;
  clean = λ clean. p.clean (q.clean clean);
  usable = q.usable ∙ p.usable;
  gaps = q.gaps ∙ p.gaps;
  crash = λ file may. p.crash file (q.crash file may);
}

pub still_read : (f : File) → ReadsFile f f
still_read f = record { same = refl; clean = λ clean. clean; contents = still_data f.contents }

pub read_then : (f g h : File) → ReadsFile f g → ReadsFile g h → ReadsFile f h
read_then f g h p q = record { same = q.same ∙ p.same; clean = λ clean. p.clean (q.clean clean); contents = data_then f.contents g.contents h.contents p.contents q.contents }

-- ---- looks, and the fault

-- a read keeps what is held
pub looked_ready : (a b : State) → LookedInside a b → HasCleanDisk b → (file : List ℕ) → IsReady (HeldFor file) a → IsReady (HeldFor file) b
looked_ready a b p clean file (y, at) =
    let c = at.holds.held.0 in
    let now = p.same clean c (record { is_open = at.is_open; in_transaction = at.in_transaction; holds = at.holds.held.1 }) in (
      y,
      record {
        is_open = now.is_open;
        in_transaction = now.in_transaction;
        holds = record { tree = at.holds.tree; below = at.holds.below; next = at.holds.next; held = (c, now.holds, at.holds.held.2) };
      },
    )

pub well_still : (a : KnownTables) (f : Option StoreFault) (l : Option LastNode) → WentWell a a f f l l
well_still a f l = record {
  looked = looked_still a.tables;
  file = still_read a.file;
  same = refl;
  knows = λ clean file rows sees knows. knows;
  recalls = λ clean file rows sees recalls. recalls;
}

module _ (a b : KnownTables) (f g : Option StoreFault) (k l : Option LastNode) (p : WentWell a b f g k l) where
  pub well_then : (d : KnownTables) (h : Option StoreFault) (j : Option LastNode) → WentWell b d g h l j → WentWell a d f h k j
  well_then d h j q = record {
    looked = looked_then a.tables b.tables d.tables p.looked q.looked;
    file = read_then a.file b.file d.file p.file q.file;
    same = q.same ∙ p.same;
    knows = λ clean file rows sees knows.
        let mid = earlier b.tables d.tables _ q.looked.stays.survives clean in
        q.knows clean file rows (looked_kept a.tables b.tables p.looked mid file rows sees) (p.knows mid file rows sees knows);
    recalls = λ clean file rows sees recalls.
        let mid = earlier b.tables d.tables _ q.looked.stays.survives clean in
        q.recalls clean file rows (looked_kept a.tables b.tables p.looked mid file rows sees) (p.recalls mid file rows sees recalls);
  }

  pub well_fails : (d : KnownTables) (h : Option StoreFault) → MayFail b d g h → MayFail a d f h
  well_fails d h q = record {
    stays = looked_fails a.tables b.tables d.tables p.looked q.stays;
    file = read_then a.file b.file d.file p.file q.file;
    plain = λ none. q.plain (p.same ∙ none);
    sure = λ none clean read ready.
        q.sure (p.same ∙ none) clean read
        (looked_ready a.tables b.tables p.looked (earlier b.tables d.tables _ q.stays.survives clean) d.file.bytes ready);
  }

  pub well_less : MayFail a b f g
  well_less = record {
    stays = p.looked.stays;
    file = p.file;
    plain = λ none. subst (λ o. IfSome o IsPlain) (sym (p.same ∙ none)) tt;
    sure = λ none clean read ready. subst (λ o. IfSome o IsOutside) (sym (p.same ∙ none)) tt;
  }

  pub well_clean : HasCleanDisk b.tables × IsTrue b.file.is_clean → HasCleanDisk a.tables × IsTrue a.file.is_clean
  well_clean (clean, read) = (looked_clean a.tables b.tables p.looked clean, p.file.clean read)

  pub well_kept : HasCleanDisk b.tables × IsTrue b.file.is_clean → (rows : Rows) → sees_with a.file.bytes a.known k a.tables rows
      → sees_with b.file.bytes b.known l b.tables rows
  well_kept (clean, read) rows ((sees, knows), recalls) = (
    (
      subst (λ file. sees_in file b.tables rows) (sym p.file.same) (looked_kept a.tables b.tables p.looked clean a.file.bytes rows sees),
      p.knows clean a.file.bytes rows sees knows,
    ),
    p.recalls clean a.file.bytes rows sees recalls,
  )
