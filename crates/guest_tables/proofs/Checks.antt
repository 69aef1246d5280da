-- Tests one after another, which only read.
use Rattle.std.proofs.Common.{◌≡◌, Bool, true, false, cond, Ok, Err, Result, IfErr, OnOk, IsErrAnd, refl, sym, subst, inl}
use Rattle.std.specs.Prelude.{⊤}
use Rattle.sqlite.specs.State.{State, HasCleanDisk}
use Rattle.sqlite.specs.Effect.{Database}
use Rattle.sqlite.specs.declared.error.Error.{Error}
use Rattle.fuse_keeper.specs.declared.fault.StoreFault.{StoreFault}
use Rattle.fuse_keeper.specs.declared.fault.StoreFault.TheVariants.{Memory, Sql}
use Rattle.fuse_keeper.specs.Faults.{fault_of, is_memory}
use Rattle.fuse_store_tables.specs.Faults.{IsOutside, IsPlain}
use Rattle.fuse_store_tables.specs.Moves.{InsideAs, IsReady, Takes}
use Rattle.fuse_store_tables.specs.inner.Performing.{IsSure, OnlyReads, StaysWithin}
use Rattle.fuse_store_tables.specs.inner.Following.{earlier, then_as}
use Rattle.guest_tables.proofs.any_schema.Joining.{outside}
use Rattle.guest_tables.proofs.any_schema.Alone.{reads_then}
use Rattle.guest_tables.proofs.any_schema.Indexed.{stays_as}
use Rattle.guest_tables.proofs.any_schema.Within.{within_then}
use Rattle.guest_tables.specs.Content.{GuestContent}
use Rattle.guest_tables.specs.Opening.{IsLaid}
use Rattle.guest_tables.specs.inner.Checking.{ChecksIf, Tests}
use Rattle.guest_tables.proofs.Nothing.{no_step, still}

plain_fault : (e : Error) → IsPlain (fault_of e)
plain_fault e = told (is_memory e)
  where
    told : (b : Bool) → IsPlain (cond b Memory (Sql e))
    told true = tt
    told false = tt

-- one test after another, which may build on the first
pub checks_then : {X Y : Type 0} (Known More P Q : GuestContent → Type 0) (a b d : State) (x : X) (r : Result Y StoreFault) → ChecksIf Known P a b (Ok x)
    → (HasCleanDisk b → (c : GuestContent) → InsideAs (IsLaid c) a → Known c → P c → More c) → ChecksIf More Q b d r → ChecksIf Known (λ c. P c × Q c) a d r
checks_then Known More P Q a b d x (Ok y) p more q = record {
  looks = then_as IsLaid IsLaid IsLaid a b d x (Ok y) p.looks q.looks;
  reads = reads_then a b d x (Ok y) p.reads q.reads;
  within = within_then a b d x (Ok y) p.within q.within;
  whole = λ clean c at known.
      let mid = earlier b d _ q.reads.commits.survives clean in
      let is = p.whole mid c at known in
      (is, q.whole clean c (p.looks.turns mid c at) (more mid c at known is));
  fault = λ clean. tt;
  plain = tt;
}
checks_then Known More P Q a b d x (Err f) p more q = record {
  looks = then_as IsLaid IsLaid IsLaid a b d x (Err f) p.looks q.looks;
  reads = reads_then a b d x (Err f) p.reads q.reads;
  within = within_then a b d x (Err f) p.within q.within;
  whole = λ clean. tt;
  fault = λ clean c at known both.
      let mid = earlier b d _ q.reads.commits.survives clean in
      q.fault clean c (p.looks.turns mid c at) (more mid c at known both.0) both.1;
  plain = q.plain;
}

-- the same test, in other words
pub checks_as : {X : Type 0} (Known More P Q : GuestContent → Type 0) (a b : State) (r : Result X StoreFault)
    → ((c : GuestContent) → More c → Known c × (P c → Q c) × (Q c → P c)) → ChecksIf Known P a b r → ChecksIf More Q a b r
checks_as Known More P Q a b (Ok x) so p = record {
  looks = p.looks;
  reads = p.reads;
  within = p.within;
  whole = λ clean c at more. let is = so c more in is.1 (p.whole clean c at is.0);
  fault = λ clean. tt;
  plain = tt;
}
checks_as Known More P Q a b (Err f) so p = record {
  looks = p.looks;
  reads = p.reads;
  within = p.within;
  whole = λ clean. tt;
  fault = λ clean c at more holds. let is = so c more in p.fault clean c at is.0 (is.2 holds);
  plain = p.plain;
}

-- a test that passed, with what was made of it
pub checks_told : {X Y : Type 0} (Known P : GuestContent → Type 0) (a b : State) (x : X) (y : Y) → ChecksIf Known P a b (Ok x) → ChecksIf Known P a b (Ok y)
checks_told Known P a b x y p = record {
  looks = record { stays = p.looks.stays; within = p.looks.within; turns = p.looks.turns };
  reads = record { commits = p.reads.commits; same = p.reads.same; outside = p.reads.outside; seen = p.reads.seen };
  within = record { survives = p.within.survives; kept = p.within.kept; within = p.within.within };
  whole = p.whole;
  fault = λ clean. tt;
  plain = tt;
}

-- the first test failed, and `?` returns its fault
pub checks_failed : {X Y : Type 0} (Known More P Q : GuestContent → Type 0) (a b : State) (e : StoreFault) (r : Result Y StoreFault) → IsErrAnd r (λ f. f ≡ e)
    → ((c : GuestContent) → More c → Q c → Known c × P c) → ChecksIf {X = X} Known P a b (Err e) → ChecksIf More Q a b r
checks_failed Known More P Q a b e (Ok y) same so p = absurd same
checks_failed Known More P Q a b e (Err f) same so p = record {
  looks = record { stays = p.looks.stays; within = tt; turns = tt };
  reads = record { commits = p.reads.commits; same = tt; outside = p.reads.outside; seen = p.reads.seen };
  within = record { survives = p.within.survives; kept = p.within.kept; within = tt };
  whole = λ clean. tt;
  fault = λ clean c at more holds. let is = so c more holds in subst IsOutside (sym same) (p.fault clean c at is.0 is.1);
  plain = subst IsPlain (sym same) p.plain;
}

-- ---- one statement, and what is made of its rows

pub query_failed : {X Y : Type 0} (Known P : GuestContent → Type 0) (a b : State) (e : Error) (r : Result Y StoreFault) → IsErrAnd r (λ f. f ≡ fault_of e)
    → Takes {X = X} IsLaid IsLaid a b (Err e) → OnlyReads {X = X} a b (Err e) → StaysWithin {X = X} a b (Err e) → ChecksIf Known P a b r
query_failed Known P a b e (Ok y) same looks reads within = absurd same
query_failed Known P a b e (Err f) same looks reads within = record {
  looks = record { stays = looks.stays; within = tt; turns = tt };
  reads = record { commits = reads.commits; same = tt; outside = reads.outside; seen = reads.seen };
  within = record { survives = within.survives; kept = within.kept; within = tt };
  whole = λ clean. tt;
  fault = λ clean c at known holds. subst IsOutside (sym same) (outside e);
  plain = subst IsPlain (sym same) (plain_fault e);
}

pub query_told : {X Y : Type 0} (Known P : GuestContent → Type 0) (a b : State) (x : X) (r : Result Y StoreFault) → Takes {E = Error} IsLaid IsLaid a b (Ok x)
    → OnlyReads {E = Error} a b (Ok x) → StaysWithin {E = Error} a b (Ok x)
    → Tests (λ c. Known c → P c) a b r
    → (HasCleanDisk b → IfErr r (λ f. (c : GuestContent) → InsideAs (IsLaid c) a → Known c → P c → IsOutside f)) → IfErr r IsPlain → ChecksIf Known P a b r
query_told Known P a b x (Ok y) looks reads within whole fault plain = record {
  looks = record { stays = looks.stays; within = looks.within; turns = looks.turns };
  reads = record { commits = reads.commits; same = reads.same; outside = reads.outside; seen = reads.seen };
  within = record { survives = within.survives; kept = within.kept; within = within.within };
  whole = whole;
  fault = fault;
  plain = plain;
}
query_told Known P a b x (Err f) looks reads within whole fault plain = record {
  looks = record { stays = looks.stays; within = tt; turns = tt };
  reads = record { commits = reads.commits; same = tt; outside = reads.outside; seen = reads.seen };
  within = record { survives = within.survives; kept = within.kept; within = tt };
  whole = whole;
  fault = fault;
  plain = plain;
}

-- ---- no statement

pub nothing_asked : {Y : Type 0} (Known P : GuestContent → Type 0) (a : State) (e : StoreFault) (r : Result Y StoreFault) → IsErrAnd r (λ f. f ≡ e) → IsPlain e
    → ((c : GuestContent) → Known c → IsOutside e) → ChecksIf Known P a a r
nothing_asked Known P a e (Ok y) same plain out = absurd same
nothing_asked Known P a e (Err f) same plain out = record {
  looks = record { stays = record { survives = no_step a _; kept = λ clean inside. still a }; within = tt; turns = tt };
  reads = record {
    commits = record { survives = no_step a _; kept = λ clean. still a };
    same = tt;
    outside = λ clean rests. rests;
    seen = λ clean is_open. inl refl;
  };
  within = record { survives = no_step a _; kept = λ clean inside. still a; within = tt };
  whole = λ clean. tt;
  fault = λ clean c at known holds. subst IsOutside (sym same) (out c known);
  plain = subst IsPlain (sym same) plain;
}

-- ---- of what an opening begins with

module _ {X : Type 0} (P : GuestContent → Database → Type 0) (laid : (c : GuestContent) (d : Database) → P c d → IsLaid c d) (Q : GuestContent → Type 0) (a b : State)
    (r : Result X StoreFault) (p : ChecksIf (λ _. ⊤) Q a b r) where
  -- it stays what it was
  pub checks_keep : Takes P P a b r
  checks_keep = stays_as P IsLaid laid a b r p.looks p.reads

  inside_laid : (c : GuestContent) → InsideAs (P c) a → InsideAs (IsLaid c) a
  inside_laid c at = record { is_open = at.is_open; in_transaction = at.in_transaction; holds = laid c a.now at.holds }

  -- and where it passes the test, a fault says nothing of it
  pub checks_sure : ((c : GuestContent) (d : Database) → P c d → Q c) → IsSure P a b r
  checks_sure passes clean = told r (p.fault clean)
    where
      told : (r : Result X StoreFault) → IfErr r (λ f. (c : GuestContent) → InsideAs (IsLaid c) a → ⊤ → Q c → IsOutside f) → IfErr r (λ f. IsReady P a → IsOutside f)
      told (Ok x) all = tt
      told (Err f) all = λ at. all at.0 (inside_laid at.0 at.1) tt (passes at.0 a.now at.1.holds)

  pub checks_whole : Tests Q a b r
  checks_whole clean = told r (p.whole clean)
    where
      told : (r : Result X StoreFault) → OnOk r ((c : GuestContent) → InsideAs (IsLaid c) a → ⊤ → Q c) → OnOk r ((c : GuestContent) → InsideAs (IsLaid c) a → Q c)
      told (Ok x) all = λ c at. all c at tt
      told (Err f) all = tt
