-- Reads of the tables of version 2, one after another.
use Rattle.std.proofs.Common.{◌≡◌, inl, ℕ, List, [], ◌∷◌, Ok, Err, Result, IfOk, IfErr, IsErrAnd, refl, sym, subst, ◌∙◌}
use Rattle.std.specs.Prelude.{⊤}
use Rattle.sqlite.specs.State.{State, HasCleanDisk}
use Rattle.sqlite.specs.declared.error.Error.{Error}
use Rattle.fuse_keeper.specs.declared.fault.StoreFault.{StoreFault}
use Rattle.fuse_keeper.specs.declared.fault.StoreFault.TheVariants.{Memory}
use Rattle.fuse_keeper.specs.Faults.{fault_of}
use Rattle.fuse_store_tables.specs.Content.{Content}
use Rattle.fuse_store_tables.specs.Faults.{IsOutside, IsPlain}
use Rattle.fuse_store_tables.specs.Moves.{InsideAs, Takes}
use Rattle.fuse_store_tables.specs.declared.version.Layout.TheVariants.{Second}
use Rattle.sqlite.specs.Order.{Row}
use Rattle.fuse_store_tables.specs.inner.Columns.{shown_number}
use Rattle.fuse_store_tables.specs.inner.Looking.{ReadsIf}
use Rattle.fuse_store_tables.specs.inner.Performing.{OnlyReads, StaysWithin}
use Rattle.fuse_store_tables.specs.inner.Steps.{HoldsIn}
use Rattle.fuse_store_tables.proofs.Alone.{reads_then, reads_told}
use Rattle.fuse_store_tables.proofs.Joining.{earlier, then_as, outside}
use Rattle.fuse_store_tables.proofs.Nothing.{no_step, still}
use Rattle.fuse_store_tables.proofs.Sayings.{plain_fault}
use Rattle.fuse_store_tables.proofs.Within.{within_then, within_told}

-- a query, and its rows
pub queried : {X : Type 0} (Found : Content → X → Type 0) (a b : State) (x : X) → Takes {E = Error} (HoldsIn Second) (HoldsIn Second) a b (Ok x)
    → OnlyReads {E = Error} a b (Ok x) → StaysWithin {E = Error} a b (Ok x) → (HasCleanDisk b → (c : Content) → InsideAs (HoldsIn Second c) a → Found c x)
    → ReadsIf (λ _. ⊤) Found a b (Ok x)
queried Found a b x takes reads within found = record {
  takes = record { stays = takes.stays; within = takes.within; turns = takes.turns };
  reads = reads_told a b x (Ok x) reads;
  within = within_told a b x (Ok x) within;
  found = λ clean c at known. found clean c at;
  sure = λ clean. tt;
  plain = tt;
}

-- one that failed, and what `?` returns
pub query_fails : {X : Type 0} (Found : Content → X → Type 0) (a b : State) (e : Error) (r : Result X StoreFault) → IsErrAnd r (λ f. f ≡ fault_of e)
    → Takes {X = X} (HoldsIn Second) (HoldsIn Second) a b (Err e) → OnlyReads {X = X} a b (Err e) → StaysWithin {X = X} a b (Err e)
    → ReadsIf (λ _. ⊤) Found a b r
query_fails Found a b e (Ok x) same takes reads within = absurd same
query_fails Found a b e (Err f) same takes reads within = record {
  takes = record { stays = takes.stays; within = tt; turns = tt };
  reads = record { commits = reads.commits; same = tt; outside = reads.outside; seen = reads.seen };
  within = record { survives = within.survives; kept = within.kept; within = tt };
  found = λ clean. tt;
  sure = λ clean c at known. subst IsOutside (sym same) (outside e);
  plain = subst IsPlain (sym same) (plain_fault e);
}

-- one read after another, which may build on the first
pub looks_then : {X Y : Type 0} (Known More : Content → Type 0) (Found : Content → X → Type 0) (Next : Content → Y → Type 0) (a b d : State) (x : X)
    (r : Result Y StoreFault) → ReadsIf Known Found a b (Ok x) → ((c : Content) → Known c → Found c x → More c) → ReadsIf More Next b d r
    → ReadsIf Known (λ c y. Found c x × Next c y) a d r
looks_then Known More Found Next a b d x (Ok y) p more q = record {
  takes = then_as (HoldsIn Second) (HoldsIn Second) (HoldsIn Second) a b d x (Ok y) p.takes q.takes;
  reads = reads_then a b d x (Ok y) p.reads q.reads;
  within = within_then a b d x (Ok y) p.within q.within;
  found = λ clean c at known.
      let mid = earlier b d _ q.reads.commits.survives clean in
      let first = p.found mid c at known in
      (first, q.found clean c (p.takes.turns mid c at) (more c known first));
  sure = λ clean. tt;
  plain = tt;
}
looks_then Known More Found Next a b d x (Err f) p more q = record {
  takes = then_as (HoldsIn Second) (HoldsIn Second) (HoldsIn Second) a b d x (Err f) p.takes q.takes;
  reads = reads_then a b d x (Err f) p.reads q.reads;
  within = within_then a b d x (Err f) p.within q.within;
  found = λ clean. tt;
  sure = λ clean c at known.
      let mid = earlier b d _ q.reads.commits.survives clean in
      q.sure clean c (p.takes.turns mid c at) (more c known (p.found mid c at known));
  plain = q.plain;
}

-- the same read, and what follows from it
pub looks_told : {X Y : Type 0} (Known : Content → Type 0) (Found : Content → X → Type 0) (Told : Content → Y → Type 0) (a b : State) (x : X) (y : Y)
    → ((c : Content) → Known c → Found c x → Told c y) → ReadsIf Known Found a b (Ok x) → ReadsIf Known Told a b (Ok y)
looks_told Known Found Told a b x y told p = record {
  takes = record { stays = p.takes.stays; within = p.takes.within; turns = p.takes.turns };
  reads = reads_told a b x (Ok y) p.reads;
  within = within_told a b x (Ok y) p.within;
  found = λ clean c at known. told c known (p.found clean c at known);
  sure = λ clean. tt;
  plain = tt;
}

-- what `?` returns of one that failed
pub looks_fail : {X Y : Type 0} (Known : Content → Type 0) (Found : Content → X → Type 0) (Told : Content → Y → Type 0) (a b : State) (e : StoreFault)
    (r : Result Y StoreFault) → IsErrAnd r (λ f. f ≡ e) → ReadsIf Known Found a b (Err e) → ReadsIf Known Told a b r
looks_fail Known Found Told a b e (Ok y) same p = absurd same
looks_fail Known Found Told a b e (Err f) same p = record {
  takes = record { stays = p.takes.stays; within = tt; turns = tt };
  reads = record { commits = p.reads.commits; same = tt; outside = p.reads.outside; seen = p.reads.seen };
  within = record { survives = p.within.survives; kept = p.within.kept; within = tt };
  found = λ clean. tt;
  sure = λ clean c at known. subst IsOutside (sym same) (p.sure clean c at known);
  plain = subst IsPlain (sym same) p.plain;
}

-- a read that went well, and a fault that came of what it found
pub looks_refused : {X Y : Type 0} (Known : Content → Type 0) (Found : Content → X → Type 0) (Told : Content → Y → Type 0) (a b : State) (x : X)
    (r : Result Y StoreFault) → IfErr r IsPlain → (HasCleanDisk b → IfErr r (λ f. (c : Content) → Known c → Found c x → IsOutside f))
    → ReadsIf Known Found a b (Ok x) → ((y : Y) → (c : Content) → r ≡ Ok y → Known c → Found c x → Told c y) → ReadsIf Known Told a b r
looks_refused Known Found Told a b x (Ok y) plain sure p told = looks_told Known Found Told a b x y (λ c known found. told y c refl known found) p
looks_refused Known Found Told a b x (Err f) plain sure p told = record {
  takes = record { stays = p.takes.stays; within = tt; turns = tt };
  reads = record { commits = p.reads.commits; same = tt; outside = p.reads.outside; seen = p.reads.seen };
  within = record { survives = p.within.survives; kept = p.within.kept; within = tt };
  found = λ clean. tt;
  sure = λ clean c at known. sure clean c known (p.found clean c at known);
  plain = plain;
}

-- the same of tables of which less must be known
pub looks_more : {X : Type 0} (Known More : Content → Type 0) (Found : Content → X → Type 0) (a b : State) (r : Result X StoreFault)
    → ((c : Content) → More c → Known c) → ReadsIf Known Found a b r → ReadsIf More Found a b r
looks_more Known More Found a b (Ok x) less p = record {
  takes = p.takes;
  reads = p.reads;
  within = p.within;
  found = λ clean c at more. p.found clean c at (less c more);
  sure = λ clean. tt;
  plain = tt;
}
looks_more Known More Found a b (Err f) less p = record {
  takes = p.takes;
  reads = p.reads;
  within = p.within;
  found = λ clean. tt;
  sure = λ clean c at more. p.sure clean c at (less c more);
  plain = p.plain;
}

-- the number in the only row of a count
pub counted_row : {V : Type 0} (count : Content → ℕ) (items : V → List Row) (a b : State) (v : V) (rows : List Row) → rows ≡ items v → (r : Result ℕ StoreFault)
    → IfOk r (λ n. (m : ℕ) → rows ≡ shown_number m ∷ [] → n ≡ m) → IfErr r (λ f. (m : ℕ) → rows ≡ shown_number m ∷ [] → IsOutside f) → IfErr r IsPlain
    → ReadsIf (λ _. ⊤) (λ c w. items w ≡ shown_number (count c) ∷ []) a b (Ok v) → ReadsIf (λ _. ⊤) (λ c n. n ≡ count c) a b r
counted_row count items a b v rows same (Ok n) value fault plain p =
    looks_told (λ _. ⊤) (λ c w. items w ≡ shown_number (count c) ∷ []) (λ c m. m ≡ count c) a b v n (λ c known found. value (count c) (same ∙ found)) p
counted_row count items a b v rows same (Err f) value fault plain p =
    looks_refused (λ _. ⊤) (λ c w. items w ≡ shown_number (count c) ∷ []) (λ c n. n ≡ count c) a b v (Err f) plain
    (λ clean c known found. fault (count c) (same ∙ found)) p (λ y c is known found. absurd (let e = is in cc))

-- no read yet
pub no_look : {X : Type 0} (Known : Content → Type 0) (Found : Content → X → Type 0) (a : State) (x : X) → ((c : Content) → Known c → Found c x)
    → ReadsIf Known Found a a (Ok x)
no_look Known Found a x found = record {
  takes = record {
    stays = record { survives = no_step a _; kept = λ clean inside. still a };
    within = λ clean inside. inside;
    turns = λ clean c at. at;
  };
  reads = record {
    commits = record { survives = no_step a _; kept = λ clean. still a };
    same = λ clean. refl;
    outside = λ clean rests. rests;
    seen = λ clean is_open. inl refl;
  };
  within = record { survives = no_step a _; kept = λ clean inside. still a; within = λ clean inside. inside };
  found = λ clean c at known. found c known;
  sure = λ clean. tt;
  plain = tt;
}

-- memory ran out
pub looks_memory : {X Y : Type 0} (Known : Content → Type 0) (Found : Content → X → Type 0) (Told : Content → Y → Type 0) (a b : State) (x : X)
    → ReadsIf Known Found a b (Ok x) → ReadsIf Known Told a b (Err Memory)
looks_memory Known Found Told a b x p = record {
  takes = record { stays = p.takes.stays; within = tt; turns = tt };
  reads = record { commits = p.reads.commits; same = tt; outside = p.reads.outside; seen = p.reads.seen };
  within = record { survives = p.within.survives; kept = p.within.kept; within = tt };
  found = λ clean. tt;
  sure = λ clean c at known. tt;
  plain = tt;
}
