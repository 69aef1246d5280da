-- The data file of a store, as it is opened.
use Rattle.std.proofs.Common.{◌≡◌, ◌≤◌, ◌<◌, ◌*◌, ◌+◌, ◌⊎◌, ℕ, List, [], ◌++◌, length, Bool, true, false, Option, Some, None, Ok, Err, Result, inl, inr, refl, sym, ap, subst, arith, ◌∙◌, IsTrue, codes}
use Rattle.std.specs.Prelude.{IsSome}
use Rattle.std.specs.Option.{is_some}
use Rattle.std.specs.List.{All, Contains}
use Rattle.std.proofs.lemmas.List.Elements.{All-contains}
use Rattle.sqlite.specs.Effect.{Database}
use Rattle.sqlite.specs.State.{State, HasCleanDisk}
use Rattle.sqlite.proofs.StateLemmas.{survives_then}
use Rattle.sqlite.proofs.InsideLemmas.{keeps_then}
use Rattle.fuse_data.specs.Causes.{FailsToAsk, FailsToOpen}
use Rattle.fuse_data.specs.Extents.{AreByPlace, IsWhole, past}
use Rattle.fuse_data.specs.Header.{HasHeader, header_of}
use Rattle.fuse_data.specs.declared.extent.Extent.{Extent}
use Rattle.fuse_data.specs.declared.extent.TheConstants.{BLOCK}
use Rattle.fuse_data.specs.declared.fault.DataFault.{DataFault}
use Rattle.fuse_data.specs.declared.fault.DataFault.TheVariants as faults
use Rattle.fuse_rows.specs.declared.rows.Room.{Room}
use Rattle.fuse_tree.specs.State.{State as TreeState, used_of}
use Rattle.fuse_tree.specs.Rowed.{rowed}
use Rattle.fuse_store_tables.specs.declared.version.Layout.TheVariants as layouts
use Rattle.fuse_store_tables.specs.Content.{Content, Counter, value_at}
use Rattle.fuse_store_tables.specs.Faults.{IsOutside, IsPlain}
use Rattle.fuse_store_tables.specs.Moves.{OnlyReads}
use Rattle.fuse_store_tables.specs.inner.Following.{earlier}
use Rattle.fuse_store_tree.specs.DataFaults.{fault_of_data}
use Rattle.fuse_store_tree.specs.Holding.{Holding}
use Rattle.fuse_store_tree.specs.Store.{layout_for, meta_rows_of}
use Rattle.fuse_store_tree.specs.inner.Laws.{still_survives}
use Rattle.fuse_store.proofs.Fitting.{Told, counters_with, room_with}

-- ---- calls that only read

pub reads_nothing : {X E : Type 0} (a : State) (r : Result X E) → OnlyReads a a r
reads_nothing a (Ok x) = record {
  commits = record { survives = still_survives a _; kept = λ clean. record { was_open = λ is. is; committed = λ is. refl } };
  same = λ clean. refl;
  outside = λ clean none. none;
  seen = λ clean is_open. inl refl;
}
reads_nothing a (Err e) = record {
  commits = record { survives = still_survives a _; kept = λ clean. record { was_open = λ is. is; committed = λ is. refl } };
  same = tt;
  outside = λ clean none. none;
  seen = λ clean is_open. inl refl;
}

-- the same, with what was read
pub reads_told : {X Y E F : Type 0} (a b : State) (x : X) (r : Result Y F) → OnlyReads {E = E} a b (Ok x) → OnlyReads a b r
reads_told a b x (Ok y) p = record { commits = p.commits; same = p.same; outside = p.outside; seen = p.seen }
reads_told a b x (Err f) p = record { commits = p.commits; same = tt; outside = p.outside; seen = p.seen }

pub reads_fail : {X Y E F : Type 0} (a b : State) (e : E) (f : F) → OnlyReads {X = X} a b (Err e) → OnlyReads {X = Y} a b (Err f)
reads_fail a b e f p = record { commits = p.commits; same = tt; outside = p.outside; seen = p.seen }

pub reads_then : {X Y E F : Type 0} (a b d : State) (x : X) (r : Result Y F) → OnlyReads {E = E} a b (Ok x) → OnlyReads b d r → OnlyReads a d r
reads_then a b d x (Ok y) p q = record {
  commits = record {
    survives = survives_then a b d _ _ _ (λ _ db none. none) (λ _ db none. none) p.commits.survives q.commits.survives;
    kept = λ clean. keeps_then a b d (p.commits.kept (earlier b d _ q.commits.survives clean)) (q.commits.kept clean);
  };
  same = λ clean. q.same clean ∙ p.same (earlier b d _ q.commits.survives clean);
  outside = λ clean rests. q.outside clean (p.outside (earlier b d _ q.commits.survives clean) rests);
  seen = λ clean is_open.
      let mid = earlier b d _ q.commits.survives clean in
      elim (q.seen clean is_open) [
        | inl now ↦ inl (now ∙ p.same mid)
        | inr back ↦ inr (back ∙ (p.commits.kept mid).committed ((q.commits.kept clean).was_open is_open))
      ];
}
reads_then a b d x (Err f) p q = record {
  commits = record {
    survives = survives_then a b d _ _ _ (λ _ db none. none) (λ _ db none. none) p.commits.survives q.commits.survives;
    kept = λ clean. keeps_then a b d (p.commits.kept (earlier b d _ q.commits.survives clean)) (q.commits.kept clean);
  };
  same = tt;
  outside = λ clean rests. q.outside clean (p.outside (earlier b d _ q.commits.survives clean) rests);
  seen = λ clean is_open.
      let mid = earlier b d _ q.commits.survives clean in
      elim (q.seen clean is_open) [
        | inl now ↦ inl (now ∙ p.same mid)
        | inr back ↦ inr (back ∙ (p.commits.kept mid).committed ((q.commits.kept clean).was_open is_open))
      ];
}

-- ---- faults

pub plain_of_data : (f : DataFault) → IsPlain (fault_of_data f)
plain_of_data (faults.Disk e) = tt
plain_of_data faults.Memory = tt
plain_of_data faults.Unusable = tt
plain_of_data faults.Foreign = tt
plain_of_data faults.Full = tt
plain_of_data faults.NotBlocks = tt
plain_of_data (faults.Overlapping p) = tt
plain_of_data (faults.Beyond p) = tt
plain_of_data (faults.Damaged p) = tt
plain_of_data (faults.NotInUse p) = tt

pub asks_outside : (usable : Bool) (f : DataFault) → FailsToAsk usable f → IsOutside (fault_of_data f)
asks_outside usable (faults.Disk e) why = tt
asks_outside usable faults.Unusable why = tt
asks_outside usable faults.Memory why = absurd why
asks_outside usable faults.Foreign why = absurd why
asks_outside usable faults.Full why = absurd why
asks_outside usable faults.NotBlocks why = absurd why
asks_outside usable (faults.Overlapping p) why = absurd why
asks_outside usable (faults.Beyond p) why = absurd why
asks_outside usable (faults.Damaged p) why = absurd why
asks_outside usable (faults.NotInUse p) why = absurd why

-- of the file of this store, with these extents
pub opens_outside : (usable clean : Bool) (file : List ℕ) (store : ℕ) (listed : List Extent) (f : DataFault) → FailsToOpen usable clean file store listed f
    → IsTrue clean → HasHeader store file → AreByPlace 1 listed × All (IsWhole file) listed → IsOutside (fault_of_data f)
opens_outside usable clean file store listed (faults.Disk e) why is header lists = tt
opens_outside usable clean file store listed faults.Memory why is header lists = tt
opens_outside usable clean file store listed faults.Unusable why is header lists = tt
opens_outside usable clean file store listed faults.Foreign why is header lists = absurd (why.1 is header)
opens_outside usable clean file store listed (faults.Overlapping p) why is header lists = absurd (why.2 lists.0)
opens_outside usable clean file store listed (faults.Beyond p) why is header lists =
    let whole = All-contains (IsWhole file) listed p lists.1 why.1 in
    absurd (omega (arith, whole.within, why.2 is))
opens_outside usable clean file store listed faults.Full why is header lists = absurd why
opens_outside usable clean file store listed faults.NotBlocks why is header lists = absurd why
opens_outside usable clean file store listed (faults.Damaged p) why is header lists = absurd why
opens_outside usable clean file store listed (faults.NotInUse p) why is header lists = absurd why

-- an empty file is that of no store
pub no_header : {X : Type 0} (store : ℕ) → HasHeader store [] → X
no_header store has = absurd (let some : 1 ≤ length (header_of store) = omega arith in omega (arith, some, has.within))

-- ---- what a store says of it

module _ (y : Holding) (file : List ℕ) (c : Content) (told : Told y file c) where
  room_there : (o : Option ℕ) → IsTrue (is_some o) → IsSome (room_with o y.tree)
  room_there None none = absurd (let e : false ≡ true = none in cc)
  room_there (Some k) some = refl

  pub header_told : IsTrue (is_some y.tree.capacity) → HasHeader told.number file
  unfolding rowed
  header_told some = (told.header (room_there y.tree.capacity some)).0

  number_in : (o : Option ℕ) → IsTrue (is_some o) → (next number : ℕ) → value_at 15 (record c { counters = counters_with o y.tree next number }) ≡ number
  number_in None none next number = absurd (let e : false ≡ true = none in cc)
  number_in (Some k) some next number = refl

  pub number_told : IsTrue (is_some y.tree.capacity) → value_at 15 c ≡ told.number
  unfolding rowed
  number_told some =
      ap (λ cs. value_at 15 (record c { counters = cs })) told.counters ∙ number_in y.tree.capacity some y.next_lot told.number

  third_in : (o : Option ℕ) → IsTrue (is_some o) → layout_for (room_with o y.tree) ≡ layouts.Third
  third_in None none = absurd (let e : false ≡ true = none in cc)
  third_in (Some k) some = refl

  pub third_told : IsTrue (is_some y.tree.capacity) → c.layout ≡ layouts.Third
  unfolding rowed
  third_told some = told.layout ∙ third_in y.tree.capacity some
