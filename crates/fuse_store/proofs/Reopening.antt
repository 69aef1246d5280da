-- What an open finds, and what it makes of it.
use Rattle.std.proofs.Common.{◌≡◌, ◌≤◌, ◌^◌, List, [], None, option_map, inl, inr, true, false, not, Bool, Ok, Err, Result, OnOk, IfOk, IfErr, IsTrue, Some, Option, ℕ, codes, refl, sym, ap, subst, arith, ◌∙◌}
use Rattle.std.specs.Option.{is_some}
use Rattle.std.specs.Ordering.{is_eq, nat_cmp}
use Rattle.std.specs.Prelude.{if◌then◌else◌}
use Rattle.sqlite.specs.Schema.{Schema}
use Rattle.fuse_init.specs.declared.profile.Profile.{Profile}
use Rattle.fuse_init.specs.declared.profile.Profile.TheVariants.{Plain, Everyday}
use Rattle.fuse_rows.specs.Rows.{profile_for}
use Rattle.fuse_tree.specs.State.{State as State_, Tree, profile_of, used_of}
use Rattle.fuse_tree.specs.Rowed.{rowed}
use Rattle.sqlite.specs.Effect.{Database}
use Rattle.sqlite.specs.State.{State, HasCleanDisk, Survives}
use Rattle.sqlite.proofs.StateLemmas.{survives_weaker}
use Rattle.sqlite_schema.specs.Names.{table_named}
use Rattle.sqlite_tied.specs.Compute.{everything}
use Rattle.fuse_store_tables.specs.declared.version.Layout.{Layout}
use Rattle.fuse_store_tables.specs.declared.version.Layout.TheVariants as layouts
use Rattle.fuse_store_tables.specs.Layout.{schema_for, version_of}
use Rattle.fuse_store_tables.specs.Content.{Content, Answer, value_at}
use Rattle.fuse_store_tables.specs.Migrating.{in_third}
use Rattle.fuse_store_tables.specs.ToCount.{BlocksAreApart, HoldsOfSecond}
use Rattle.fuse_store_tables.specs.Moves.{RestsAs, LeavesAlone, RollsBack, ServesAs, CommitsOnce}
use Rattle.fuse_data.specs.declared.gaps.Gap.{Gap}
use Rattle.fuse_store_tree.specs.Leaving.{ListsInUse}
use Rattle.fuse_store_tables.specs.Opening.{IsLaid, HasMeta, HasRoomIn, profile_in, IsStored, IsSecond, IsSound, IsUnindexed, IsOpened, IsWantedStore, IsWanted, migrated, opened}
use Rattle.fuse_store_tree.specs.Holding.{Holding, HeldFor, TreesAreInOrder}
use Rattle.fuse_store_tree.specs.inner.Laws.{still_survives}
use Rattle.fuse_store.specs.Opening.{Stored, First, Second, Unindexed, SecondEveryday, StoredFor, OpenedFor, FirstFor, UnindexedFor, DescribesFirst, WasOver, ReadyFor, WantedFor}
use Rattle.fuse_store.specs.Opening.{HasFileFor, IsReady, IsWantedOf, IsUndone, IsWholeOf, opened_for}
use Rattle.fuse_store.specs.SecondVersion.{SecondEverydayFor}
use Rattle.fuse_keeper.specs.declared.fault.StoreFault.{StoreFault}
use Rattle.fuse_store_tables.specs.Faults.{IsOutside}
use Rattle.fuse_store_tree.specs.Store.{layout_for}
use Rattle.fuse_store.proofs.Fitting.{Told, fit_for, second_for, profile_is}
use Rattle.fuse_store.proofs.PlainFiles.{plain_described}
use Rattle.fuse_store.proofs.EverydayFit.{of_everyday, opened_counted, opened_pieces, profile_second, room_second, stored_second}
use Rattle.fuse_store.proofs.Migrated.{describes_counted}
use Rattle.fuse_store.proofs.FirstVersion.{old_for, describes_migrated}
use Rattle.fuse_store.proofs.MadeNew.{lists_none, no_transaction}
use Rattle.fuse_store.proofs.Retelling.{Reread}

-- ---- any version

pub opened_first : (number : Option ℕ) (c : Content) → value_at 1 c ≡ 1 → opened number c ≡ migrated c
opened_first number c is = ap (λ v. if is_eq (nat_cmp v 1) then migrated c else in_third c.layout (profile_in c) number c) is

-- only an everyday store goes from version 2 to version 3
pub opened_second : (number : Option ℕ) (c : Content) → value_at 1 c ≡ version_of c.layout → (c.layout ≡ layouts.Second → profile_in c ≡ Plain) → opened number c ≡ c
opened_second number c is plain =
    ap (λ v. if is_eq (nat_cmp v 1) then migrated c else in_third c.layout (profile_in c) number c) is ∙ by c.layout (profile_in c) plain
  where
    by : (l : Layout) (p : Profile) → (l ≡ layouts.Second → p ≡ Plain) → (if is_eq (nat_cmp (version_of l) 1) then migrated c else in_third l p number c) ≡ c
    by layouts.Second Plain plain = refl
    by layouts.Second Everyday plain = absurd (let e = plain refl in cc)
    by layouts.Third p plain = refl

-- nothing is counted
no_count : (l : Layout) (p : Profile) (c : Content) → (l ≡ layouts.Second → p ≡ Plain) → HasRoomIn l p c
no_count layouts.Second Plain c plain = tt
no_count layouts.Second Everyday c plain = absurd (let e = plain refl in cc)
no_count layouts.Third p c plain = tt

pub unindexed_for : TreesAreInOrder → (y : Holding) (d : Database) (at : UnindexedFor y d) → IsUnindexed at.held.0 d
unindexed_for ordered y d at = record { holds = at.held.1; fit = fit_for ordered y [] at.held.0 at.tree at.below at.next at.held.2 }

-- a store with the layout of version 2 is plain
pub plain_second : (y : Holding) (file : List ℕ) (c : Content) → c.layout ≡ layouts.Second → Told y file c → profile_of y.tree ≡ Plain
unfolding rowed
plain_second y file c is told = by y.tree.capacity (sym told.layout ∙ is)
  where
    by : (o : Option ℕ) → layout_for (option_map (λ k. record { capacity = k; used = used_of y.tree }) o) ≡ layouts.Second → profile_for o ≡ Plain
    by None is = refl
    by (Some k) is = absurd cc

plain_in : (y : Holding) (file : List ℕ) (c : Content) → Told y file c → c.layout ≡ layouts.Second → profile_in c ≡ Plain
plain_in y file c told is = profile_is y file c told ∙ plain_second y file c is told

-- the profile of version 1
first_profile : (tree : State_) (answers : List Answer) (c : Content) → tree.capacity ≡ None → DescribesFirst (rowed tree) answers c → profile_in c ≡ profile_of tree
first_profile tree answers c plain told =
    ap (λ cs. profile_in (record c { counters = cs })) told.counters ∙ sym (ap (λ (o : Option ℕ). profile_for o) plain)

-- a store of any version, and what its opening makes of it over this data file
pub record Read (number : Option ℕ) (file : List ℕ) (z : Stored) (d : Database) : Type 0 where
  pub content : Content
  pub holds : IsSound content d
  pub profile : profile_in content ≡ profile_of (opened_for z).tree
  -- of each database in order that has this
  pub made : (e : Database) → IsReady number file z → IsSecond (opened number content) e → HeldFor file (opened_for z) e
  -- and a mount that begins of it
  pub told : IsReady number file z → Told (opened_for z) file (opened number content)
  pub tree : Tree (opened_for z).tree
  pub next : (opened_for z).next_lot ≤ 2 ^ 62

module _ (ordered : TreesAreInOrder) (apart : BlocksAreApart) where
  first_read : (number : Option ℕ) (file : List ℕ) (tree : State_) (answers : List Answer) (d : Database) → FirstFor tree answers d → Read number file (First tree answers) d
  first_read number file tree answers d at =
      let c = at.held.0 in
      let old = old_for ordered tree answers c at.tree at.plain at.held.2 in
      let same = opened_first number c old.version in
      let profile = first_profile tree answers c at.plain at.held.2 in
      let told = subst (Told (opened_for (First tree answers)) file) (sym same) (describes_migrated tree answers file c at.tree at.plain at.held.2) in
      record {
        content = c;
        holds = record {
          stored = inl (inl (record { holds = (at.held.1, at.held.2.layout); old = old }));
          room = no_count c.layout (profile_in c) c (λ second. profile ∙ ap (λ (o : Option ℕ). profile_for o) at.plain);
        };
        profile = profile;
        made = λ e ready k. record { tree = at.tree; below = (omega arith, tt); next = omega arith; held = (opened number c, k.holds, told) };
        told = λ ready. told;
        tree = at.tree;
        next = omega arith;
      }

  second_read : (number : Option ℕ) (file : List ℕ) (y : Holding) (d : Database) → HeldFor file y d → Read number file (Second y) d
  second_read number file y d at =
      let c = at.held.0 in
      let second = second_for ordered y file d at in
      let same = opened_second number c second.fit.version (plain_in y file c at.held.2) in
      let told = subst (Told y file) (sym same) at.held.2 in
      record {
        content = c;
        holds = record { stored = inl (inr second); room = no_count c.layout (profile_in c) c (plain_in y file c at.held.2) };
        profile = profile_is y file c at.held.2;
        made = λ e ready k. record { tree = at.tree; below = at.below; next = at.next; held = (opened number c, k.holds, told) };
        told = λ ready. told;
        tree = at.tree;
        next = at.next;
      }

  unindexed_read : (number : Option ℕ) (file : List ℕ) (y : Holding) (d : Database) → UnindexedFor y d → Read number file (Unindexed y) d
  unindexed_read number file y d at =
      let c = at.held.0 in
      let unindexed = unindexed_for ordered y d at in
      let same = opened_second number c unindexed.fit.version (plain_in y [] c at.held.2) in
      let plain = plain_second y [] c at.held.1.1 at.held.2 in
      let told = subst (Told y file) (sym same) (plain_described [] file y c plain at.held.2) in
      record {
        content = c;
        holds = record { stored = inr unindexed; room = no_count c.layout (profile_in c) c (plain_in y [] c at.held.2) };
        profile = profile_is y [] c at.held.2;
        made = λ e ready k. record { tree = at.tree; below = at.below; next = at.next; held = (opened number c, k.holds, told) };
        told = λ ready. told;
        tree = at.tree;
        next = at.next;
      }

  everyday_read : (number : Option ℕ) (file : List ℕ) (y : Holding) (d : Database) → SecondEverydayFor y d → Read number file (SecondEveryday y) d
  everyday_read number file y d at =
      let c = at.held.0 in
      let distinct = apart c d at.held.1 in
      record {
        content = c;
        holds = record {
          stored = stored_second y c at.tree at.everyday at.held.2 ordered distinct at.below at.next d at.held.1;
          room = room_second y c at.tree at.everyday at.held.2 ordered distinct;
        };
        profile = profile_second y c at.tree at.everyday at.held.2 ∙ sym (of_everyday y c at.tree at.everyday at.held.2);
        made = λ e ready k. record { tree = at.tree; below = at.below; next = at.next; held = (opened number c, k.holds, told number ready) };
        told = told number;
        tree = at.tree;
        next = at.next;
      }
    where
      told : (o : Option ℕ) → HasFileFor o file → Told y file (opened o at.held.0)
      told None ready = absurd ready
      told (Some n) ready =
          let c = at.held.0 in
          subst (Told y file) (sym (opened_counted y c at.tree at.everyday at.held.2 n))
          (describes_counted y c at.tree at.everyday at.held.2 (apart c d at.held.1) ordered n file ready)

  pub stored_as : (number : Option ℕ) (file : List ℕ) (z : Stored) (d : Database) → StoredFor file z d → Read number file z d
  stored_as number file (First tree answers) d at = first_read number file tree answers d at
  stored_as number file (Second y) d at = second_read number file y d at
  stored_as number file (Unindexed y) d at = unindexed_read number file y d at
  stored_as number file (SecondEveryday y) d at = everyday_read number file y d at

  pub stored_read : (number : Option ℕ) (file : List ℕ) (z : Stored) (d : Database) → ReadyFor number file z d
      → Reread IsStored (IsOpened number) (ReadyFor number file) (OpenedFor file) z d
  stored_read number file z d at =
      let r = stored_as number file z d at.0 in
      record { content = r.content; holds = r.holds.stored; made = λ e k. r.made e at.1 k }

  -- the same of a store that is wanted
  pub wanted_read : (wanted : Option Profile) (number : Option ℕ) (file : List ℕ) (z : Stored) (d : Database) → WantedFor wanted number file z d
      → Reread (IsWantedStore wanted) (IsOpened number) (WantedFor wanted number file) (OpenedFor file) z d
  wanted_read wanted number file z d at =
      let r = stored_as number file z d at.0.0 in
      record { content = r.content; holds = (r.holds, subst (IsWanted wanted) (sym r.profile) at.1); made = λ e k. r.made e at.0.1 k }

  -- what was an everyday store of version 2 lists no piece
  pub lists_counted : {X E : Type 0} (number : Option ℕ) (make : Content → Content) → ((c : Content) → c.pieces ≡ [] → (make c).pieces ≡ []) → (a b : State) (r : Result X E)
      → ((y : Holding) → WasOver [] (SecondEveryday y) a → RestsAs (SecondEverydayFor y) a) → ServesAs IsStored (λ c. IsSecond (make (opened number c))) a b r
      → HasCleanDisk b → OnOk r ((y : Holding) (gaps : List Gap) → WasOver [] (SecondEveryday y) a → ListsInUse gaps b.now)
  lists_counted number make keeps a b (Err e) so serves clean = tt
  lists_counted number make keeps a b (Ok x) so serves clean = λ y gaps was.
      let at = so y was in
      let h = at.holds in
      let c = h.held.0 in
      let stored = stored_second y c h.tree h.everyday h.held.2 ordered (apart c a.now h.held.1) h.below h.next a.now h.held.1 in
      let now = serves.done clean c (record { is_open = at.is_open; autocommit = at.autocommit; holds = stored; committed = at.committed }) in
      lists_none gaps (make (opened number c)) b.now now.holds.holds (keeps (opened number c) (opened_pieces y c h.tree h.everyday h.held.2 number))

-- ---- its profile

laid_for : (file : List ℕ) (z : Stored) (d : Database) → StoredFor file z d → (c : Content) × IsLaid c d × (profile_in c ≡ profile_of (opened_for z).tree)
laid_for file (First tree answers) d at = (
  at.held.0,
  inl (inl (at.held.1, at.held.2.layout)),
  first_profile tree answers at.held.0 at.plain at.held.2,
)
laid_for file (Second y) d at = (at.held.0, inl (inr at.held.1), profile_is y file at.held.0 at.held.2)
laid_for file (Unindexed y) d at = (at.held.0, inr at.held.1, profile_is y [] at.held.0 at.held.2)
laid_for file (SecondEveryday y) d at = (
  at.held.0,
  laid at.held.1,
  profile_second y at.held.0 at.tree at.everyday at.held.2 ∙ sym (of_everyday y at.held.0 at.tree at.everyday at.held.2),
)
  where
    laid : HoldsOfSecond at.held.0 d → IsLaid at.held.0 d
    laid (inl h) = inl (inr h.0)
    laid (inr h) = inr h

pub sure_wanted : {X : Type 0} (wanted : Option Profile) (number : Option ℕ) (file : List ℕ) (a : State) (r : Result X StoreFault)
    → IfErr r (λ f. (z : Stored) → (WasOver file z a × IsReady number file z) × IsWantedOf wanted z → IsOutside f)
    → IfErr r (λ f. (z : Stored) → WasOver file z a → IsReady number file z → IsWantedOf wanted z → IsOutside f)
sure_wanted wanted number file a (Ok x) sure = tt
sure_wanted wanted number file a (Err f) sure = λ z was ready is. sure z ((was, ready), is)

-- it rests, and can be opened
pub ready_rests : (file : List ℕ) (z : Stored) (a : State) (number : Option ℕ) → RestsAs (StoredFor file z) a → IsReady number file z → RestsAs (ReadyFor number file z) a
ready_rests file z a number at ready =
    record { is_open = at.is_open; autocommit = at.autocommit; holds = (at.holds, ready); committed = at.committed }

pub profile_so : {E : Type 0} (file : List ℕ) (a b : State) (r : Result Profile E) → ((z : Stored) → WasOver file z a → RestsAs (StoredFor file z) a)
    → (HasCleanDisk b → IfOk r (λ p. (c : Content) → RestsAs (IsLaid c) a → p ≡ profile_in c)) → HasCleanDisk b
    → IfOk r (λ p. (z : Stored) → WasOver file z a → p ≡ profile_of (opened_for z).tree)
profile_so file a b (Ok p) so told clean = λ z was.
    let at = so z was in
    let laid = laid_for file z a.now at.holds in
    told clean laid.0 (record { is_open = at.is_open; autocommit = at.autocommit; holds = laid.1; committed = at.committed }) ∙ laid.2
profile_so file a b (Err e) so told clean = tt

pub has_meta : (file : List ℕ) (z : Stored) (d : Database) → StoredFor file z d → table_named d.schema (codes "meta") ≡ Some 0
unfolding everything
has_meta file (First tree answers) d at = subst (λ (s : Schema). table_named s (codes "meta") ≡ Some 0) (sym at.held.1.schema) refl
has_meta file (Second y) d at = subst (λ (s : Schema). table_named s (codes "meta") ≡ Some 0) (sym at.held.1.schema) (by at.held.0.layout)
  where
    by : (l : Layout) → table_named (schema_for l) (codes "meta") ≡ Some 0
    by layouts.Second = refl
    by layouts.Third = refl
has_meta file (Unindexed y) d at = subst (λ (s : Schema). table_named s (codes "meta") ≡ Some 0) (sym at.held.1.0.schema) refl
has_meta file (SecondEveryday y) d at = elim at.held.1 [
  | inl h ↦ subst (λ (s : Schema). table_named s (codes "meta") ≡ Some 0) (sym (h.0.schema ∙ ap schema_for h.1)) refl
  | inr h ↦ subst (λ (s : Schema). table_named s (codes "meta") ≡ Some 0) (sym h.0.schema) refl
]

pub no_none : {X Y : Type 0} (o : Option X) (x : X) → o ≡ Some x → is_some o ≡ false → Y
no_none o x is none = absurd (let e = sym (ap is_some is) ∙ none in cc)

-- what was opened had a whole `meta` of the profile that is returned, whether or not it holds a tree
pub meta_whole : {E : Type 0} (a b : State) (r : Result Profile E) → true ≡ not a.in_transaction → (IsTrue a.is_open → a.now ≡ a.committed)
    → (HasCleanDisk b → OnOk r (IsTrue a.is_open)) → (HasCleanDisk b → OnOk r ((c : Content) → RestsAs (IsLaid c) a → HasMeta c))
    → (HasCleanDisk b → IfOk r (λ p. (c : Content) → RestsAs (IsLaid c) a → p ≡ profile_in c)) → HasCleanDisk b
    → IfOk r (λ p. (c : Content) → IsLaid c a.now → IsWholeOf p c)
meta_whole a b (Err e) outside settled was whole told clean = tt
meta_whole a b (Ok p) outside settled was whole told clean = λ c at.
    let is_open = was clean in
    let rests : RestsAs (IsLaid c) a =
    record { is_open = is_open; autocommit = no_transaction a.in_transaction outside; holds = at; committed = sym (settled is_open) } in
    record { whole = whole clean c rests; profile = sym (told clean c rests) }

-- ---- nothing is done

pub left_here : (s : State) → s.in_transaction ≡ false → (IsTrue s.is_open → s.now ≡ s.committed) → LeavesAlone s s
left_here s outside settled = record {
  survives = still_survives s _;
  autocommit = λ clean. outside;
  same = λ clean is_open. (is_open, refl, settled is_open);
}

-- what was committed is seen
pub back_here : (s : State) → (IsTrue s.is_open → s.now ≡ s.committed) → RollsBack s s
back_here s settled clean is_open = (settled is_open, refl)

pub once_here : {X E : Type 0} (s : State) (e : E) → CommitsOnce {X = X} s s (Err e)
once_here s e = record { trees = s.now.trees; survives = still_survives s _; made = tt }

-- an opening that failed
pub is_undone : {X E : Type 0} (a b : State) (e : E) → (a.in_transaction ≡ false → RollsBack a b) → CommitsOnce {X = X} a b (Err e) → IsUndone a b
is_undone a b e back once = record { seen = back; trees = once.trees; once = once.survives }

-- one that succeeded
pub once_seen : {X E : Type 0} (a b : State) (x : X) → CommitsOnce {E = E} a b (Ok x) → Survives a b (λ db. db ≡ b.now.trees)
once_seen a b x once = survives_weaker a b _ _ (λ clean db is. is ∙ once.made clean) once.survives

pub not_busy : (m : Bool) → (m ≡ true → ⊥) → m ≡ false
not_busy false busy = refl
not_busy true busy = absurd (busy refl)
