-- A store that was opened again, in the words of a keeper.
use Rattle.std.proofs.Common.{◌≡◌, ℕ, Bool, false, List, [], Option, Some, None, option_map, sym, subst, ap, refl, ◌∙◌, IsTrue}
use Rattle.sqlite_trees.specs.declared.store.Store.{Ghosts}
use Rattle.sqlite_disk.specs.declared.Disk.{Ghosts as DiskGhosts}
use Rattle.sqlite.specs.Held.{Held, state}
use Rattle.fuse_data.specs.declared.data_file.DataFile.{DataFile}
use Rattle.sqlite.specs.Effect.{Database}
use Rattle.fuse_data.specs.State.{DataState, state_in}
use Rattle.fuse_init.specs.declared.profile.Profile.{Profile}
use Rattle.fuse_init.specs.declared.profile.Profile.TheVariants.{Plain, Everyday}
use Rattle.fuse_rows.specs.Rows.{Rows}
use Rattle.fuse_tree.specs.State.{profile_of}
use Rattle.fuse_tree.specs.Rowed.{rowed}
use Rattle.fuse_keeper.specs.Stands.{Records}
use Rattle.fuse_keeper.specs.KeeperState.{Reopened}
use Rattle.fuse_keeper.specs.Lots.{SameLots}
use Rattle.fuse_store_tree.specs.Store.{records_of}
use Rattle.fuse_store_tree.specs.Holding.{Holding, HeldFor, lots_of}
use Rattle.fuse_store_tree.specs.declared.meta.Meta.{Meta}
use Rattle.fuse_store_tree.specs.Lots.{lots_in, LotsAreSame}
use Rattle.fuse_store_tree.specs.Performing.{OneHolding}
use Rattle.fuse_store_tree.specs.StoreState.{StoreState, IsHonest, IsAtRest, store_in}
use Rattle.sqlite.specs.Tree.{Trees}
use Rattle.sqlite.specs.State.{IsLive}
use Rattle.sqlite.specs.declared.error.Error.{Error}
use Rattle.sqlite.proofs.StateLemmas.{survives_weaker}
use Rattle.sqlite_disk.specs.Disk.{Follows}
use Rattle.fuse_keeper.specs.declared.fault.StoreFault.{StoreFault}
use Rattle.fuse_keeper.specs.declared.fault.StoreFault.TheVariants.{Sql}
use Rattle.fuse_store_tree.specs.inner.Laws.{still_survives}
use Rattle.fuse_store.specs.inner.Leaving.{rests_was}
use Rattle.fuse_store.specs.Opening.{Stored, WasFor, WasOver, KeepsStored, FailsToOpen, OpenRefused, data_of, seen_of, opened_for}
use Rattle.fuse_store.specs.Opening.Stored.{Second}
use Rattle.fuse_store.specs.TableState.{IsOf, HoldsIn, LeavesSome, LeavesWhole, data_for, state_for, table_told}
use Rattle.fuse_store.specs.TableKeeper.{disk_in}
use Rattle.fuse_store.specs.inner.Laws.{one_held}
use Rattle.fuse_store.proofs.PlainFiles.{plain_held}
use Rattle.fuse_store.proofs.Reopening.{left_here, back_here}
use Rattle.fuse_store.proofs.Serving.{Settled, firm}

-- a plain store holds the same without a data file
held_by : (p : Profile) (contents : DataState) (y : Holding) (d : Database) → profile_of y.tree ≡ p → HeldFor contents.seen y d
    → HeldFor (data_for p contents).seen y d
held_by Plain contents y d own at = plain_held contents.seen [] y d own at
held_by Everyday contents y d own at = at

pub was_left : (s : StoreState) (y : Holding) → IsTrue s.tables.is_open → s.tables.in_transaction ≡ false → (d : Database) → HeldFor s.contents.seen y d
    → d.trees ≡ s.tables.committed.trees → WasFor (Second y) s
was_left s y is_open autocommit d at is = (is_open, autocommit, (d, held_by (profile_of y.tree) s.contents y d refl at, is))

was_for : (m : Option Meta) (s : StoreState) (y : Holding) → IsAtRest m y s → WasFor (Second y) s
was_for m s y at = was_left s y at.rests.is_open at.rests.autocommit s.tables.now at.rests.holds.0 (ap (λ d. d.trees) (sym at.rests.committed))

retold : (p : Profile) (m : Option Meta) (s : StoreState) (y : Holding) (rows : Rows) (records : Records) → HoldsIn p m s (rowed y.tree) (records_of y.kept) → IsOf y rows records
    → HoldsIn p m s rows records
retold p m s y rows records at is = record {
  holding = at.holding;
  rests = at.rests;
  alone = at.alone;
  is_of = record { rows_are = is.rows_are ∙ at.is_of.rows_are; records_are = λ i. is.records_are i ∙ at.is_of.records_are i };
  profile = at.profile;
}

-- an opening that succeeded, which leaves it with this lot
pub record Opened (p : Profile) (n : Option Meta) (a b : StoreState) (taken : Option ℕ) : Type 0 where
  pub holds : IsHonest b → (z : Stored) → WasFor z a → HoldsIn p n b (rowed (opened_for z).tree) (records_of (opened_for z).kept)
  pub was : IsHonest b → IsTrue a.tables.is_open × (a.tables.in_transaction ≡ false)
  pub honest : IsHonest b → IsHonest a
  pub lots : IsHonest b → (z : Stored) → WasFor z a → SameLots (lots_of None (opened_for z)) (lots_in taken b.tables.now)

-- the state of parts
abbrev pub given_state : {S D : Type 0} → Ghosts S → DiskGhosts D → Held S → Option D → StoreState
given_state g h c disk = record { tables = state g c; contents = disk_in h disk }

-- a plain store that was handed no disk is as honest as its database
pub honest_parts : {S D : Type 0} (g : Ghosts S) (h : DiskGhosts D) (p : Profile) (conn : Held S) (disk : Option D) → (p ≡ Plain → disk ≡ None)
    → IsHonest (state_for p (given_state g h conn disk)) → IsHonest (given_state g h conn disk)
honest_parts {D = D} g h Plain conn disk none honest = (honest.0, subst (λ (d : Option D). IsTrue (disk_in h d).is_clean) (sym (none refl)) refl)
honest_parts g h Everyday conn disk none honest = honest

module _ {S D : Type 0} (g : Ghosts S) (h : DiskGhosts D) (p : Profile) (n : Option Meta) (conn : Held S) (b : StoreState) (taken : Option ℕ) where
  abbrev given : Held S → Option D → StoreState
  given = given_state g h

  was_in : (f : DataFile D) (z : Stored) → WasFor z (store_in g h conn (Some f)) → WasFor z (given conn (Some f.disk))
  was_in f z was = by (profile_of (opened_for z).tree) was
    where
      by : (q : Profile) → WasOver (data_for q (state_in h (Some f))).seen z (state g conn) → WasOver (data_for q (disk_in h (Some f.disk))).seen z (state g conn)
      by Plain was = was
      by Everyday was = was

  by_file : (file : Option (DataFile D)) → Opened p n (given conn (option_map (λ f. f.disk) file)) b taken → Opened p n (store_in g h conn file) b taken
  by_file None o = record { holds = o.holds; was = o.was; honest = o.honest; lots = o.lots }
  by_file (Some f) o = record {
    holds = λ clean z was. o.holds clean z (was_in f z was);
    was = o.was;
    honest = o.honest;
    lots = λ clean z was. o.lots clean z (was_in f z was);
  }

  -- what a keeper handed back
  pub reparted : (file : Option (DataFile D)) (c : Held S) (disk : Option D) → c ≡ conn → disk ≡ option_map (λ f. f.disk) file
      → Opened p n (given c disk) b taken → Opened p n (store_in g h conn file) b taken
  reparted file c disk same is o =
      by_file file (subst (λ (d : Option D). Opened p n (given conn d) b taken) is (subst (λ (k : Held S). Opened p n (given k disk) b taken) same o))

  was_by_file : (file : Option (DataFile D)) (z : Stored) → WasFor z (store_in g h conn file) → WasFor z (given conn (option_map (λ f. f.disk) file))
  was_by_file None z was = was
  was_by_file (Some f) z was = was_in f z was

  -- what a keeper held, its parts hold
  pub was_parted : (file : Option (DataFile D)) (c : Held S) (disk : Option D) → c ≡ conn → disk ≡ option_map (λ f. f.disk) file → (z : Stored)
      → WasFor z (store_in g h conn file) → WasFor z (given c disk)
  was_parted file c disk same is z was =
      subst (λ (k : Held S). WasFor z (given k disk)) (sym same)
      (subst (λ (d : Option D). WasFor z (given conn d)) (sym is) (was_by_file file z was))

-- ---- what an opening of these parts says, of the keeper that handed them back

module _ {S D : Type 0} (g : Ghosts S) (h : DiskGhosts D) (conn : Held S) (left : StoreState) (f : StoreFault) (wanted : Option Profile) where
  refused_by : (file : Option (DataFile D)) → OpenRefused wanted (given_state g h conn (option_map (λ d. d.disk) file)) left f
      → OpenRefused wanted (store_in g h conn file) left f
  refused_by None o = record {
    crash = o.crash;
    contents = o.contents;
    kept = o.kept;
    outside = o.outside;
    says = o.says;
    refused = o.refused;
    untouched = λ refusal. record { seen = (o.untouched refusal).seen; leaves = (o.untouched refusal).leaves };
    alone = o.alone;
    ended = o.ended;
    undone = o.undone;
  }
  refused_by (Some d) o = record {
    crash = survives_weaker (state g conn) left.tables _ _ (λ clean db over z was. over z (was_given d z was)) o.crash;
    contents = λ clean z db may. follows_given d z db (o.contents clean z db may);
    kept = λ clean is_open z was. o.kept clean is_open z (was_given d z was);
    outside = λ z clean was is. o.outside z clean (was_given d z was) is;
    says = o.says;
    refused = o.refused;
    untouched = λ refusal. record { seen = (o.untouched refusal).seen; leaves = (o.untouched refusal).leaves };
    alone = o.alone;
    ended = o.ended;
    undone = o.undone;
  }
    where
      was_by : (q : Profile) (d : DataFile D) (z : Stored) → WasOver (data_for q (state_in h (Some d))).seen z (state g conn)
          → WasOver (data_for q (disk_in h (Some d.disk))).seen z (state g conn)
      was_by Plain d z was = was
      was_by Everyday d z was = was

      was_given : (d : DataFile D) (z : Stored) → WasFor z (store_in g h conn (Some d)) → WasFor z (given_state g h conn (Some d.disk))
      was_given d z was = was_by (profile_of (opened_for z).tree) d z was

      follows_by : (q : Profile) (d : DataFile D) (z : Stored) (db : Trees)
          → Follows (KeepsStored z db) (data_for q (disk_in h (Some d.disk))).may_leave (data_for q left.contents).may_leave
          → Follows (KeepsStored z db) (data_for q (state_in h (Some d))).may_leave (data_for q left.contents).may_leave
      follows_by Plain d z db follows = follows
      follows_by Everyday d z db follows = follows

      follows_given : (d : DataFile D) (z : Stored) (db : Trees)
          → Follows (KeepsStored z db) (data_of z (given_state g h conn (Some d.disk))).may_leave (data_of z left).may_leave
          → Follows (KeepsStored z db) (data_of z (store_in g h conn (Some d))).may_leave (data_of z left).may_leave
      follows_given d z db follows = follows_by (profile_of (opened_for z).tree) d z db follows

  pub refused_from : (file : Option (DataFile D)) (c : Held S) (disk : Option D) → c ≡ conn → disk ≡ option_map (λ d. d.disk) file
      → OpenRefused wanted (given_state g h c disk) left f → OpenRefused wanted (store_in g h conn file) left f
  refused_from file c disk same is o =
      refused_by file (subst (λ (d : Option D). OpenRefused wanted (given_state g h conn d) left f) is
      (subst (λ (k : Held S). OpenRefused wanted (given_state g h k disk) left f) same o))

-- all is as it was
pub refused_here : (made : Stored → Holding) (Changes : Database → Type 0) (wanted : Option Profile) (s : StoreState) (e : Error)
    → s.tables.in_transaction ≡ false → (IsTrue s.tables.is_open → s.tables.now ≡ s.tables.committed) → IsLive s.tables
    → FailsToOpen made Changes wanted s s (Sql e)
refused_here made Changes wanted s e outside settled live = record {
  crash = still_survives s.tables _;
  contents = λ clean z db may c new. (c, new, λ left. left);
  kept = λ clean is_open z was. rests_was (seen_of z s) z s.tables live settled was;
  outside = λ z honest was is. tt;
  says = λ clean. tt;
  refused = λ refused. absurd refused;
  untouched = λ refused. absurd refused;
  alone = λ still other. left_here s.tables still settled;
  ended = λ clean still. still;
  undone = record { seen = λ still. back_here s.tables settled; trees = s.tables.now.trees; once = still_survives s.tables _ };
}

-- what is seen of a data file may stay
pub may_stay : {D : Type 0} (h : DiskGhosts D) → ((d : D) → h.may_leave d (h.seen d)) → (file : Option (DataFile D)) → (state_in h file).may_leave (state_in h file).seen
may_stay h law None = refl
may_stay h law (Some f) = law f.disk

module _ (p : Profile) (one : OneHolding) (told : LotsAreSame) (m n : Option Meta) (a b : StoreState) (settled : Settled b.tables) (stays : IsTrue a.tables.is_open
    → a.tables.may_leave a.tables.committed.trees) (may_stay : a.contents.may_leave a.contents.seen) (lot taken : Option ℕ)
    (failed now : Bool) (o : Opened p n a b taken) (is_going : now ≡ false) where
  some_left : IsHonest b → LeavesWhole p a → LeavesSome p a.tables.committed.trees a.contents.seen
  some_left clean whole = whole (o.honest clean) a.tables.committed.trees (stays (o.was clean).0) a.contents.seen may_stay

  opens : (clean : IsHonest b) (whole : LeavesWhole p a) → HoldsIn p n b (rowed (some_left clean whole).holding.tree)
      (records_of (some_left clean whole).holding.kept)
  opens clean whole =
      let some = some_left clean whole in
      o.holds clean (Second some.holding) (was_left a some.holding (o.was clean).0 (o.was clean).1 some.left.0 some.left.1 some.left.2)

  pub reopened : {memory : Type 0} → Reopened (table_told p memory m a lot failed) (table_told p memory n b taken now)
  reopened = record {
    same = λ clean rows records at. retold p n b at.holding rows records (o.holds clean (Second at.holding) (was_for m a at.holding at.rests)) at.is_of;
    held = λ clean whole. (rowed (some_left clean whole).holding.tree, records_of (some_left clean whole).holding.kept, opens clean whole);
    left = λ clean whole rows records at.
        let same = one_held n b _ _ _ _ at (opens clean whole) in
        record {
          clean = o.honest clean;
          trees = a.tables.committed.trees;
          may = stays (o.was clean).0;
          file = a.contents.seen;
          may_file = may_stay;
          these = record { some = some_left clean whole; is_of = record { rows_are = same.0; records_are = same.1 } };
        };
    firm = λ clean. firm p one n b taken now settled;
    lots = λ clean rows records at.
        let y = at.holding in
        let new = o.lots clean (Second y) (was_for m a y at.rests) in
        let old = told lot a.contents.seen y a.tables.now at.rests.rests.holds.0 in
        record { numbers = new.numbers ∙ sym old.numbers; current = new.current; under = λ i. new.under i ∙ sym (old.under i) };
    honest = o.honest;
    medium = λ memory. memory;
    service = refl;
    going = is_going;
  }
