-- The opening of an everyday store of version 2, which becomes one of version 3.
use Rattle.std.proofs.Common.{◌≡◌, ◌<◌, ◌^◌, ℕ, cond, Some, None, Option, Ok, Err, Result, IfOk, OnOk, IsErrAnd, inl, refl, sym, ap, subst, ◌∙◌}
use Rattle.std.specs.Prelude.{⊤}
use Rattle.std.specs.Ordering.{is_eq, nat_cmp}
use Rattle.sqlite.specs.Effect.{Database}
use Rattle.sqlite.specs.Tree.{Trees}
use Rattle.sqlite.specs.State.{State, HasCleanDisk, Survives}
use Rattle.fuse_init.specs.declared.profile.Profile.{Profile}
use Rattle.fuse_init.specs.declared.profile.Profile.TheVariants.{Plain, Everyday}
use Rattle.fuse_keeper.specs.declared.fault.StoreFault.{StoreFault}
use Rattle.fuse_store_tables.specs.declared.version.Layout.TheVariants.{Second, Third}
use Rattle.fuse_store_tables.specs.Layout.{schema_for}
use Rattle.fuse_store_tables.specs.Content.{Content, Holds}
use Rattle.fuse_store_tables.specs.Faults.{IsOutside}
use Rattle.fuse_store_tables.specs.Migrating.{counting_written, in_third}
use Rattle.fuse_store_tables.specs.Moves.{InsideAs, Takes, OnlyReads}
use Rattle.fuse_store_tables.specs.Saying.{ShowsMore}
use Rattle.fuse_store_tables.proofs.Alone.{reads_then, reads_never}
use Rattle.sqlite.proofs.StateLemmas.{survives_then}
use Rattle.fuse_store_tables.specs.Opening.{IsStored, IsSecond, IsUnindexed, IsFitContent, HoldsUnindexed, IsLaid, IsOpened, IsToCount, IsSound, HasRoomFor, HasRoomIn, HasSecondMeta, migrated, opened, profile_in}
use Rattle.fuse_store_tables.specs.inner.Checking.{ChecksIf}
use Rattle.fuse_store_tables.specs.declared.version.Layout.{Layout}
use Rattle.fuse_store_tables.specs.inner.Performing.{IsSure, StaysWithin}
use Rattle.fuse_store_tables.specs.inner.Steps.{IsSecondIn, IsSecondOf, IsRoomySecond, IsRoomySecondOf, IsRoomyUnindexed}
use Rattle.fuse_store_tables.proofs.Checks.{checks_keep, checks_sure, second_laid, unindexed_laid, second_passes, unindexed_passes}
use Rattle.fuse_store_tables.proofs.Either.{sub_from, narrowed_if}
use Rattle.fuse_store_tables.proofs.Joining.{earlier}
use Rattle.fuse_store_tables.proofs.Layouts.{one_layout}
use Rattle.fuse_store_tables.proofs.MigrationLemmas.{not_first}
use Rattle.fuse_store_tables.proofs.Nothing.{no_step, still}

-- what the opening makes of a store that is none of version 1
pub opened_later : (number : Option ℕ) (c : Content) → IsFitContent c → opened number c ≡ in_third c.layout (profile_in c) number c
opened_later number c fit =
    ap (λ v. cond (is_eq (nat_cmp v 1)) (migrated c) (in_third c.layout (profile_in c) number c)) fit.version
    ∙ ap (λ b. cond b (migrated c) (in_third c.layout (profile_in c) number c)) (not_first c.layout)

opened_of : (p : Profile) (number : Option ℕ) (c : Content) → IsFitContent c → c.layout ≡ Second → p ≡ profile_in c → opened number c ≡ in_third Second p number c
opened_of p number c fit second is =
    opened_later number c fit ∙ ap (λ l. in_third l (profile_in c) number c) second ∙ ap (λ q. in_third Second q number c) (sym is)

third_same : (p : Profile) (number : Option ℕ) (c : Content) → in_third Third p number c ≡ c
third_same Plain number c = refl
third_same Everyday number c = refl

pub opened_third : (number : Option ℕ) (c : Content) → IsFitContent c → c.layout ≡ Third → opened number c ≡ c
opened_third number c fit third =
    opened_later number c fit ∙ ap (λ l. in_third l (profile_in c) number c) third ∙ third_same (profile_in c) number c

-- ---- a step that leaves a plain store as it is

plain_same : (p : Profile) (number : Option ℕ) (c : Content) → p ≡ Plain → in_third Second p number c ≡ c
plain_same p number c is = ap (λ q. in_third Second q number c) is

pub stays_plain : {E : Type 0} (p : Profile) (number : Option ℕ) (a : State) → p ≡ Plain → Takes {X = Unit {0}} {E = E} (IsSecondOf p) (IsOpened number) a a (Ok tt)
stays_plain p number a plain = record {
  stays = record { survives = no_step a _; kept = λ clean inside. still a };
  within = λ clean inside. inside;
  turns = λ clean c at. record {
    is_open = at.is_open;
    in_transaction = at.in_transaction;
    holds = subst (λ k. IsSecond k a.now) (sym (opened_of p number c at.holds.store.store.fit at.holds.store.layout_is at.holds.profile_is ∙ plain_same p number c plain))
        at.holds.store.store;
  };
}

-- ---- one that counts the blocks

counted_of : (p : Profile) (c : Content) (d : Database) → p ≡ Everyday → IsSecondOf p c d → IsToCount c d
counted_of p c d everyday h = record { store = h.store.store; second = h.store.layout_is; everyday = sym h.profile_is ∙ everyday }

everyday_opened : (p : Profile) (number : Option ℕ) (n : ℕ) (c : Content) → number ≡ Some n → p ≡ Everyday → in_third Second p number c ≡ counting_written n c
everyday_opened p number n c some everyday = ap (λ q. in_third Second q number c) everyday ∙ ap (λ o. in_third Second Everyday o c) some

pub raises : {X : Type 0} (p : Profile) (number : Option ℕ) (n : ℕ) (a b : State) (r : Result X StoreFault) → number ≡ Some n → p ≡ Everyday
    → Takes IsToCount (λ c. IsSecond (counting_written n c)) a b r → Takes (IsSecondOf p) (IsOpened number) a b r
raises p number n a b r some everyday t =
    narrowed_if (IsSecondOf p) (λ c. IsSecond (counting_written n c)) (IsOpened number) a b r
    (sub_from (IsSecondOf p) IsToCount (λ c. IsSecond (counting_written n c)) (λ c d h. counted_of p c d everyday h) a b r t)
    (λ clean c at on. record {
      is_open = on.is_open;
      in_transaction = on.in_transaction;
      holds = subst (λ k. IsSecond k b.now) (sym (opened_of p number c at.holds.store.store.fit at.holds.store.layout_is at.holds.profile_is
          ∙ everyday_opened p number n c some everyday)) on.holds;
    })

room_for : (p : Profile) (c : Content) → p ≡ Everyday → HasRoomIn Second p c → HasRoomFor c
room_for p c everyday room = subst (λ q. HasRoomIn Second q c) everyday room

pub sure_raised : {X : Type 0} (p : Profile) (a b : State) (r : Result X StoreFault) → p ≡ Everyday → IsSure (λ c d. IsToCount c d × HasRoomFor c) a b r
    → IsSure (IsRoomySecondOf p) a b r
sure_raised p a b (Ok x) everyday sure clean = tt
sure_raised p a b (Err f) everyday sure clean = λ at.
    sure clean (
      at.0,
      record {
        is_open = at.1.is_open;
        in_transaction = at.1.in_transaction;
        holds = (counted_of p at.0 a.now everyday at.1.holds.store, room_for p at.0 everyday at.1.holds.room);
      },
    )

-- ---- the profile that was read

in_second_laid : (c : Content) (d : Database) → IsSecondIn Second c d → IsLaid c d
in_second_laid c d h = second_laid c d h.store

abbrev pub IsUnindexedOf : Profile → Content → Database → Type 0
IsUnindexedOf p c d = IsUnindexed c d × (p ≡ profile_in c)

module _ (a b : State) (p : Profile) (checks : ChecksIf (λ _. ⊤) HasSecondMeta a b (Ok p))
    (told : HasCleanDisk b → (c : Content) → InsideAs (IsLaid c) a → p ≡ profile_in c) where
  pub second_known : Takes {E = StoreFault} (IsSecondIn Second) (IsSecondOf p) a b (Ok p)
  second_known =
      narrowed_if (IsSecondIn Second) (IsSecondIn Second) (IsSecondOf p) a b (Ok p)
      (checks_keep (IsSecondIn Second) in_second_laid HasSecondMeta a b (Ok p) checks)
      (λ clean c at on. record {
        is_open = on.is_open;
        in_transaction = on.in_transaction;
        holds = record {
          store = on.holds;
          profile_is = told clean c (record { is_open = at.is_open; in_transaction = at.in_transaction; holds = in_second_laid c a.now at.holds });
        };
      })

  pub unindexed_known : Takes {E = StoreFault} IsUnindexed (IsUnindexedOf p) a b (Ok p)
  unindexed_known =
      narrowed_if IsUnindexed IsUnindexed (IsUnindexedOf p) a b (Ok p) (checks_keep IsUnindexed unindexed_laid HasSecondMeta a b (Ok p) checks)
      (λ clean c at on. record {
        is_open = on.is_open;
        in_transaction = on.in_transaction;
        holds = (
          on.holds,
          told clean c (record { is_open = at.is_open; in_transaction = at.in_transaction; holds = unindexed_laid c a.now at.holds }),
        );
      })

-- the index, and the profile is the same
pub index_known : {X E : Type 0} (p : Profile) (a b : State) (r : Result X E) → Takes HoldsUnindexed Holds a b r → Takes (IsUnindexedOf p) (IsSecondOf p) a b r
index_known p a b r t =
    narrowed_if (IsUnindexedOf p) Holds (IsSecondOf p) a b r (sub_from (IsUnindexedOf p) HoldsUnindexed Holds (λ c d h. h.0.holds) a b r t)
    (λ clean c at on. record {
      is_open = on.is_open;
      in_transaction = on.in_transaction;
      holds = record {
        store = record { store = record { holds = on.holds; fit = at.holds.0.fit }; layout_is = at.holds.0.holds.1 };
        profile_is = at.holds.1;
      };
    })

-- what is sure of the last step is sure of all of it
roomy_of : (p : Profile) (c : Content) (d : Database) → IsSecondOf p c d → HasRoomIn Second (profile_in c) c → IsRoomySecondOf p c d
roomy_of p c d h room = record { store = h; room = subst (λ q. HasRoomIn Second q c) (sym h.profile_is) room }

pub second_sure : {X Y E : Type 0} (p : Profile) (a b d : State) (x : X) (r : Result Y StoreFault) → Takes {E = E} (IsSecondIn Second) (IsSecondOf p) a b (Ok x)
    → {K : Trees → Type 0} → Survives b d K → IsSure (IsRoomySecondOf p) b d r → IsSure IsRoomySecond a d r
second_sure p a b d x (Ok y) t s sure clean = tt
second_sure p a b d x (Err f) t s sure clean = λ at.
    let mid = earlier b d _ s clean in
    let on = t.turns mid at.0 (record { is_open = at.1.is_open; in_transaction = at.1.in_transaction; holds = at.1.holds.store }) in
    sure clean (at.0, record { is_open = on.is_open; in_transaction = on.in_transaction; holds = roomy_of p at.0 b.now on.holds at.1.holds.room })

pub unindexed_sure : {X Y E : Type 0} (p : Profile) (a b d : State) (x : X) (r : Result Y StoreFault) → Takes {E = E} IsUnindexed (IsSecondOf p) a b (Ok x)
    → {K : Trees → Type 0} → Survives b d K → IsSure (IsRoomySecondOf p) b d r → IsSure IsRoomyUnindexed a d r
unindexed_sure p a b d x (Ok y) t s sure clean = tt
unindexed_sure p a b d x (Err f) t s sure clean = λ at.
    let mid = earlier b d _ s clean in
    let on = t.turns mid at.0 (record { is_open = at.1.is_open; in_transaction = at.1.in_transaction; holds = at.1.holds.store }) in
    sure clean (at.0, record { is_open = on.is_open; in_transaction = on.in_transaction; holds = roomy_of p at.0 b.now on.holds at.1.holds.room })

-- a test of a store with room
pub second_tested : {X : Type 0} (a b : State) (r : Result X StoreFault) → ChecksIf (λ _. ⊤) HasSecondMeta a b r → IsSure IsRoomySecond a b r
second_tested a b r checks =
    checks_sure IsRoomySecond (λ c d h. in_second_laid c d h.store) HasSecondMeta a b r checks (λ c d h. second_passes c d h.store.store)

pub unindexed_tested : {X : Type 0} (a b : State) (r : Result X StoreFault) → ChecksIf (λ _. ⊤) HasSecondMeta a b r → IsSure IsRoomyUnindexed a b r
unindexed_tested a b r checks =
    checks_sure IsRoomyUnindexed (λ c d h. unindexed_laid c d h.store) HasSecondMeta a b r checks (λ c d h. unindexed_passes c d h.store)

-- what `?` returns
pub same_fault : {P : Content → Database → Type 0} {Y : Type 0} (a b : State) (e : StoreFault) (r : Result Y StoreFault) → IsErrAnd r (λ f. f ≡ e)
    → IsSure {X = Y} P a b (Err e) → IsSure P a b r
same_fault a b e (Ok y) same sure = absurd same
same_fault a b e (Err f) same sure = λ clean at. subst IsOutside (sym same) (sure clean at)

-- ---- a store of version 3

third_laid : (c : Content) (d : Database) → IsSecondIn Third c d → IsLaid c d
third_laid c d h = second_laid c d h.store

pub third_opens : {X : Type 0} (number : Option ℕ) (a b : State) (r : Result X StoreFault) → ChecksIf (λ _. ⊤) HasSecondMeta a b r
    → Takes (IsSecondIn Third) (IsOpened number) a b r
third_opens number a b r checks =
    narrowed_if (IsSecondIn Third) (IsSecondIn Third) (IsOpened number) a b r (checks_keep (IsSecondIn Third) third_laid HasSecondMeta a b r checks)
    (λ clean c at on. record {
      is_open = on.is_open;
      in_transaction = on.in_transaction;
      holds = subst (λ k. IsSecond k b.now) (sym (opened_third number c at.holds.store.fit at.holds.layout_is)) on.holds.store;
    })

-- ---- by the version and the schema

pub in_layout_of : (l : Layout) (b : State) (c : Content) (d : Database) → d.schema ≡ schema_for l → b.now ≡ d → InsideAs (IsSecond c) b → InsideAs (IsSecondIn l c) b
in_layout_of l b c d is same at = record {
  is_open = at.is_open;
  in_transaction = at.in_transaction;
  holds = record {
    store = at.holds;
    layout_is = sym (one_layout l c b.now (ap (λ (e : Database). e.schema) same ∙ is) (second_laid c b.now at.holds));
  };
}

-- a sound store is one that is there
pub sure_sound : {X : Type 0} (a b : State) (r : Result X StoreFault) → IsSure IsStored a b r → IsSure IsSound a b r
sure_sound a b (Ok x) sure clean = tt
sure_sound a b (Err f) sure clean = λ at.
    sure clean (at.0, record { is_open = at.1.is_open; in_transaction = at.1.in_transaction; holds = at.1.holds.stored })

-- a plain store is left as it is
pub alone_second : {X Y E F : Type 0} (p : Profile) (a b d : State) (x : X) (r : Result Y F) → OnlyReads {E = E} a b (Ok x) → {K : Trees → Type 0} → Survives b d K
    → (HasCleanDisk b → p ≡ Everyday → ShowsMore a.now) → (HasCleanDisk d → ShowsMore a.now → ⊥) → (p ≡ Plain → OnlyReads b d r) → OnlyReads a d r
alone_second Plain a b d x r reads s more other still = reads_then a b d x r reads (still refl)
alone_second Everyday a b d x r reads s more other still =
    reads_never a d r (λ clean. other clean (more (earlier b d _ s clean) refl))
    (survives_then a b d _ _ (λ _. Unit {0}) (λ _ _ _. tt) (λ _ _ _. tt) reads.commits.survives s)

pub sound_second : {E : Type 0} (a b : State) (v : ℕ) → Takes {E = E} IsStored (IsSecondIn Second) a b (Ok v) → Takes {E = E} IsSound IsRoomySecond a b (Ok v)
sound_second a b v t = record {
  stays = t.stays;
  within = t.within;
  turns = λ clean c at.
      let on = t.turns clean c (record { is_open = at.is_open; in_transaction = at.in_transaction; holds = at.holds.stored }) in
      record {
        is_open = on.is_open;
        in_transaction = on.in_transaction;
        holds = record { store = on.holds; room = subst (λ l. HasRoomIn l (profile_in c) c) on.holds.layout_is at.holds.room };
      };
}

pub sound_unindexed : {E : Type 0} (a b : State) (v : ℕ) → Takes {E = E} IsStored IsUnindexed a b (Ok v) → Takes {E = E} IsSound IsRoomyUnindexed a b (Ok v)
sound_unindexed a b v t = record {
  stays = t.stays;
  within = t.within;
  turns = λ clean c at.
      let on = t.turns clean c (record { is_open = at.is_open; in_transaction = at.in_transaction; holds = at.holds.stored }) in
      record {
        is_open = on.is_open;
        in_transaction = on.in_transaction;
        holds = record { store = on.holds; room = subst (λ l. HasRoomIn l (profile_in c) c) on.holds.holds.1 at.holds.room };
      };
}

-- ---- without a number

pub plain_alone : {E : Type 0} (N S : Type 0) (r : Result Profile E) → IfOk r (λ p. N → p ≡ Plain) → IfOk r (λ p. N → p ≡ Everyday → S)
plain_alone N S (Ok p) plain = λ none everyday. absurd (let clash = sym (plain none) ∙ everyday in cc)
plain_alone N S (Err e) plain = tt

pub any_if : {X E : Type 0} {P : X → Type 0} (r : Result X E) → ((x : X) → P x) → IfOk r P
any_if (Ok x) all = all x
any_if (Err e) all = tt

-- ---- no step

pub stays_not : {X E : Type 0} (P Q : Content → Database → Type 0) (a : State) (e : E) → Takes {X = X} P Q a a (Err e)
stays_not P Q a e = record { stays = record { survives = no_step a _; kept = λ clean inside. still a }; within = tt; turns = tt }

pub reads_none : {E : Type 0} (a : State) → OnlyReads {X = Unit {0}} {E = E} a a (Ok tt)
reads_none a = record {
  commits = record { survives = no_step a _; kept = λ clean. still a };
  same = λ clean. refl;
  outside = λ clean rests. rests;
  seen = λ clean is_open. inl refl;
}

pub within_not : {X E : Type 0} (a : State) (e : E) → StaysWithin {X = X} a a (Err e)
within_not a e = record { survives = no_step a _; kept = λ clean inside. still a; within = tt }

pub ok_any : {X E P : Type 0} (r : Result X E) → P → OnOk r P
ok_any (Ok x) p = p
ok_any (Err e) p = tt
