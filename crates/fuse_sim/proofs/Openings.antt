-- How often the keeper was opened again, and what stood then.
use Rattle.std.proofs.Common.{◌≡◌, ◌⊎◌, inl, inr, ℕ, suc, ◌+◌, ◌<◌, Bool, true, false, if◌then◌else◌, List, [], ◌∷◌, ◌++◌, length, take, drop, get_or, Option}
use Rattle.std.proofs.Common.{Some, None, IsSomeAnd, ◌≤◌, refl, sym, ap, subst, ◌∙◌, append_assoc, length-append, drop-cons, arith}
use Rattle.std.proofs.lemmas.List.{append-nil}
use Rattle.fuse_request.specs.Classes.{class_for}
use Rattle.fuse_request.specs.Opcodes.{Service}
use Rattle.fuse_keeper.specs.History.{History, grown, Includes}
use Rattle.fuse_keeper.specs.Model.{Model}
use Rattle.fuse_keeper.specs.Stands.{StillStands}
use Rattle.fuse_keeper.specs.KeeperState.{KeeperState, KeepsHeld, IsCount}
use Rattle.fuse_session.specs.Processed.{entry_if, message_entry}
use Rattle.fuse_keeper.specs.Group.{handed_to}
use Rattle.fuse_sim.specs.declared.event.Fate.{Fate}
use Rattle.fuse_sim.specs.declared.event.Fate.TheVariants.{DiedAfterCommit}
use Rattle.fuse_sim.specs.declared.event.Event.{Event}
use Rattle.fuse_sim.specs.declared.event.Outcome.{Outcome}
use Rattle.fuse_sim.specs.declared.group.Group.{Group}
use Rattle.fuse_sim.specs.Driving.{commits_by, commits_in, committed, dies, dies_before, deaths, settles, settled_by, NoneReused, told_in, StandsIn, became_in, OpenedAt, EventIn, up_to}
use Rattle.fuse_sim.specs.Driving.{Opened, KeepsMedium, StoodAt, StoodBefore}
use Rattle.fuse_sim.specs.AfterEvents.{StandsAfter}
use Rattle.fuse_sim.specs.inner.Running.{IsGroupRun, DiesLast, GathersEvents, Worked, Opens, stage}
use Rattle.fuse_sim.proofs.Settled.{includes_left, includes_both, stands_later}
use Rattle.fuse_sim.proofs.Driven.{committed-append, settled-append, settled_still, reused-parts, all_unsettled_too, none_reused}
use Rattle.fuse_sim.proofs.Gathered.{commits-append}
use Rattle.fuse_sim.proofs.Ledgers.{handed_within}
use Rattle.fuse_sim.proofs.Moves.{is_lost, few_kept, split_in}

-- ---- what became of a keeper

pub became_then : {K : Type 0} (became : K → K → ℕ → Type 0) → IsCount became → (a b c : Option K) (m n o : ℕ) → became_in became a b m → became_in became b c n
    → m + n ≡ o → became_in became a c o
became_then became law None b c m n o one two sum = absurd one
became_then became law (Some a) None c m n o one two sum = absurd one
became_then became law (Some a) (Some b) None m n o one two sum = absurd two
became_then became law (Some a) (Some b) (Some c) m n o one two sum = subst (became a c) sum (law.then a b c m n one two)

became_first : {K : Type 0} (became : K → K → ℕ → Type 0) → IsCount became → (a b : Option K) (n : ℕ) → became_in became a b n → became_in became a a 0
became_first became law None b n is = absurd is
became_first became law (Some a) b n is = law.none a

became_last : {K : Type 0} (became : K → K → ℕ → Type 0) → IsCount became → (a b : Option K) (n : ℕ) → became_in became a b n → became_in became b b 0
became_last became law None b n is = absurd is
became_last became law (Some a) None n is = absurd is
became_last became law (Some a) (Some b) n is = law.none b

pub became_itself : {K : Type 0} (became : K → K → ℕ → Type 0) → IsCount became → (P : K → Type 0) (k : Option K) → IsSomeAnd k P → became_in became k k 0
became_itself became law P None is = absurd is
became_itself became law P (Some k) is = law.none k

-- ---- deaths

pub deaths-append : (xs ys : List Event) → deaths (xs ++ ys) ≡ deaths xs + deaths ys
deaths-append [] ys = omega arith
deaths-append (x ∷ xs) ys =
    let more = deaths-append xs ys in
    elim (dies x.fate) as (λ b. (if b then suc (deaths (xs ++ ys)) else deaths (xs ++ ys)) ≡ (if b then suc (deaths xs) else deaths xs) + deaths ys)
    [ true ↦ omega (arith, more) | false ↦ more ]

pub deaths_first : (x : Event) (xs : List Event) (b : Bool) → dies x.fate ≡ b → deaths (x ∷ xs) ≡ (if b then suc (deaths xs) else deaths xs)
deaths_first x xs b is = ap (λ c. if c then suc (deaths xs) else deaths xs) is

deaths_last : (died : Bool) (run : List Event) → DiesLast died run → deaths run ≡ (if died then 1 else 0)
deaths_last died [] is = ap (λ b. if b then 1 else 0) (sym is)
deaths_last died (e ∷ run) is = elim is [
  | inl more ↦ deaths_first e run false more.0 ∙ deaths_last died run more.1
  | inr last ↦ deaths_first e run true last.1 ∙ ap (λ es. suc (deaths es)) last.2 ∙ ap (λ b. if b then 1 else 0) (sym last.0)
]

record AtLast (died : Bool) (earlier later : List Event) : Type 0 where
  pub died_is : died ≡ true
  pub ends : later ≡ []
  pub calm : deaths earlier ≡ 0

no_middle : (earlier : List Event) (e : Event) (later : List Event) → earlier ++ e ∷ later ≡ [] → ⊥
no_middle [] e later is = absurd (cc is)
no_middle (x ∷ earlier) e later is = absurd (cc is)

at_last : (died : Bool) (run earlier : List Event) (e : Event) (later : List Event) → DiesLast died run → run ≡ earlier ++ e ∷ later → dies e.fate ≡ true
    → AtLast died earlier later
at_last died [] [] e later last is so = absurd (cc is)
at_last died [] (y ∷ earlier) e later last is so = absurd (cc is)
at_last died (x ∷ run) [] e later last is so =
    let same : x ≡ e = cc is in
    let rest : run ≡ later = cc is in
    elim last [
      | inl more ↦ absurd (let calm = more.0 in let there = ap (λ (o : Event). dies o.fate) same ∙ so in cc (calm, there))
      | inr end ↦ record { died_is = end.0; ends = sym rest ∙ end.2; calm = refl }
    ]
at_last died (x ∷ run) (y ∷ earlier) e later last is so =
    let same : x ≡ y = cc is in
    let rest : run ≡ earlier ++ e ∷ later = cc is in
    elim last [
      | inl more ↦
          let found = at_last died run earlier e later more.1 rest so in
          record {
            died_is = found.died_is;
            ends = found.ends;
            calm = deaths_first y earlier false (ap (λ (o : Event). dies o.fate) (sym same) ∙ more.0)
                ∙ found.calm;
          }
      | inr end ↦ absurd (no_middle earlier e later (sym rest ∙ end.2))
    ]

-- ---- places in two lists

record InFirst (xs ys earlier : List Event) (e : Event) (later : List Event) : Type 0 where
  pub more : List Event
  pub parts : xs ≡ earlier ++ e ∷ more
  pub rest : later ≡ more ++ ys

record InSecond (xs ys earlier : List Event) (e : Event) (later : List Event) : Type 0 where
  pub prefix : List Event
  pub parts : ys ≡ prefix ++ e ∷ later
  pub begin : earlier ≡ xs ++ prefix

in_which : (xs ys earlier : List Event) (e : Event) (later : List Event) → xs ++ ys ≡ earlier ++ e ∷ later
    → InFirst xs ys earlier e later ⊎ InSecond xs ys earlier e later
in_which [] ys earlier e later is = inr (record { prefix = earlier; parts = is; begin = refl })
in_which (x ∷ xs) ys [] e later is =
    let same : x ≡ e = cc is in
    let rest : xs ++ ys ≡ later = cc is in
    inl (record { more = xs; parts = ap (λ (y : Event). y ∷ xs) same; rest = sym rest })
in_which (x ∷ xs) ys (y ∷ earlier) e later is =
    let same : x ≡ y = cc is in
    let rest : xs ++ ys ≡ earlier ++ e ∷ later = cc is in
    elim (in_which xs ys earlier e later rest) [
      | inl first ↦ inl (record {
        more = first.more;
        parts = ap (λ (z : Event). z ∷ xs) same
            ∙ ap (λ (zs : List Event). y ∷ zs) first.parts;
        rest = first.rest;
      })
      | inr second ↦ inr (record {
        prefix = second.prefix;
        parts = second.parts;
        begin = ap (λ (z : Event). z ∷ earlier) (sym same)
            ∙ ap (λ (zs : List Event). x ∷ zs) second.begin;
      })
    ]

-- ---- events, and then others

-- what stood after the first events, and then for the second, stands for both
stood_more : (M : Model) → {K : Type 0} (told : K → KeeperState M) (old mid new : Option K) (xs ys : List Event) (p : List ℕ)
    → ((t : List ℕ) → Includes (settled_by M.service t xs) p)
    → ((s : M.State) (h : History) (t : List ℕ) → StandsIn told old s h t → NoneReused M.service t xs → StandsIn told mid s (committed M.service h xs) (settled_by M.service t xs))
    → ((s : M.State) (h : History) (t : List ℕ) → StandsIn told mid s h t → Includes t p → NoneReused M.service t ys
    → StandsIn told new s (committed M.service h ys) (settled_by M.service t ys))
    → (s : M.State) (h : History) (t : List ℕ) → StandsIn told old s h t → NoneReused M.service t (xs ++ ys)
    → StandsIn told new s (committed M.service h (xs ++ ys)) (settled_by M.service t (xs ++ ys))
stood_more M told old mid new xs ys p within one two s h t so none =
    let parts = reused-parts M.service t xs ys none in
    let stands = two s (committed M.service h xs) (settled_by M.service t xs) (one s h t so parts.0) (within t) parts.1 in
    subst (λ g. StandsIn told new s g (settled_by M.service t (xs ++ ys))) (sym (committed-append M.service h xs ys))
    (subst (StandsIn told new s (committed M.service (committed M.service h xs) ys)) (sym (settled-append M.service t xs ys)) stands)

-- the event between these
abbrev event_at : {events : List Event} (earlier : List Event) (one : Event) (later : List Event) → events ≡ earlier ++ one ∷ later → EventIn events
event_at earlier one later parts = record { earlier = earlier; one = one; later = later; parts = parts }

opened_before : (M : Model) → {K : Type 0} (told : K → KeeperState M) (became : K → K → ℕ → Type 0) → IsCount became
    → (old mid new : Option K) (xs ys zs : List Event) (at : EventIn zs) (more : List Event) (parts : xs ≡ at.earlier ++ at.one ∷ more)
    → at.later ≡ more ++ ys → became_in became mid new (deaths ys) → ((told_in told new).is_honest → (told_in told mid).is_honest)
    → OpenedAt told became old mid (event_at at.earlier at.one more parts) → OpenedAt told became old new at
opened_before M told became law old mid new xs ys zs at more parts rest further was one = record {
  left = one.left;
  opened = one.opened;
  before = one.before;
  once = one.once;
  after = became_then became law one.opened mid new (deaths more) (deaths ys) (deaths at.later) one.after further (sym (ap deaths rest ∙ deaths-append more ys));
  kept = λ is. one.kept (was is);
  stood = λ is. one.stood (was is);
}

opened_last : (M : Model) → {K : Type 0} (told : K → KeeperState M) (became : K → K → ℕ → Type 0) → IsCount became
    → (old mid new : Option K) (xs ys : List Event) (p : List ℕ) (at : EventIn (xs ++ ys)) (prefix : List Event)
    → ((t : List ℕ) → Includes (settled_by M.service t xs) p) → StandsAfter told old mid xs → became_in became old mid (deaths xs) → (two : Opens told became mid new p ys)
    → ys ≡ prefix ++ at.one ∷ at.later → at.earlier ≡ xs ++ prefix → AtLast two.died prefix at.later → OpenedAt told became old new at
opened_last M told became law old mid new xs ys p at prefix within stood often two parts begin last =
    let e = at.one in
    let once : became_in became two.left new 1 = subst (λ b. became_in became two.left new (if b then 1 else 0)) last.died_is two.after in
    let whole : up_to at ≡ xs ++ ys =
    ap (λ (zs : List Event). zs ++ e ∷ []) begin ∙ append_assoc xs prefix (e ∷ []) ∙ ap (λ (zs : List Event). xs ++ (prefix ++ e ∷ zs)) (sym last.ends)
    ∙ ap (λ (zs : List Event). xs ++ zs) (sym parts) in
    record {
      left = two.left;
      opened = new;
      before = became_then became law old mid two.left (deaths xs) 0 (deaths at.earlier) often two.before
          (omega (arith, ap deaths begin, deaths-append xs prefix, last.calm));
      once = once;
      after = subst (became_in became new new) (ap deaths (sym last.ends)) (became_last became law two.left new 1 once);
      kept = two.kept;
      stood = λ is. subst (λ es. (s : M.State) (h : History) (t : List ℕ) → StandsIn told old s h t → NoneReused M.service t es
          → StandsIn told two.left s (committed M.service h es) (settled_by M.service t es)) (sym whole)
          (stood_more M told old mid two.left xs ys p within (stood (two.was_honest (two.honest is))) (two.stood (two.honest is)));
    }

opened_place : (M : Model) → {K : Type 0} (told : K → KeeperState M) (became : K → K → ℕ → Type 0) → IsCount became
    → (old mid new : Option K) (xs ys : List Event) (p : List ℕ)
    → ((t : List ℕ) → Includes (settled_by M.service t xs) p) → StandsAfter told old mid xs → became_in became mid new (deaths ys)
    → ((told_in told new).is_honest → (told_in told mid).is_honest)
    → Opened told became old mid xs → Opens told became mid new p ys
    → (at : EventIn (xs ++ ys)) → dies at.one.fate ≡ true → OpenedAt told became old new at
opened_place M told became law old mid new xs ys p within stood further was one two at so = elim (in_which xs ys at.earlier at.one at.later at.parts) [
  | inl first ↦ opened_before M told became law old mid new xs ys (xs ++ ys) at first.more first.parts first.rest further was
      (one.each (event_at at.earlier at.one first.more first.parts) so)
  | inr second ↦ opened_last M told became law old mid new xs ys p at second.prefix within stood one.often two second.parts second.begin
      (at_last two.died ys second.prefix at.one at.later two.last second.parts so)
]

pub opened_more : (M : Model) → {K : Type 0} (told : K → KeeperState M) (became : K → K → ℕ → Type 0) → IsCount became
    → (old mid new : Option K) (xs ys : List Event) (p : List ℕ)
    → ((t : List ℕ) → Includes (settled_by M.service t xs) p) → StandsAfter told old mid xs → Opened told became old mid xs → Opens told became mid new p ys
    → Opened told became old new (xs ++ ys)
opened_more M told became law old mid new xs ys p within stood one two =
    let further : became_in became mid new (deaths ys) =
    became_then became law mid two.left new 0 (if two.died then 1 else 0) (deaths ys) two.before two.after (omega (arith, deaths_last two.died ys two.last)) in
    let was : (told_in told new).is_honest → (told_in told mid).is_honest = λ is. two.was_honest (two.honest is) in
    record {
      often = became_then became law old mid new (deaths xs) (deaths ys) (deaths (xs ++ ys)) one.often further (sym (deaths-append xs ys));
      each = opened_place M told became law old mid new xs ys p within stood further was one two;
    }

-- two lists in a row
pub stands_twice : (M : Model) → {K : Type 0} (told : K → KeeperState M) (old mid new : Option K) (xs ys : List Event)
    → ((s : M.State) (h : History) (t : List ℕ) → StandsIn told old s h t → NoneReused M.service t xs → StandsIn told mid s (committed M.service h xs) (settled_by M.service t xs))
    → ((s : M.State) (h : History) (t : List ℕ) → StandsIn told mid s h t → NoneReused M.service t ys → StandsIn told new s (committed M.service h ys) (settled_by M.service t ys))
    → (s : M.State) (h : History) (t : List ℕ) → StandsIn told old s h t → NoneReused M.service t (xs ++ ys)
    → StandsIn told new s (committed M.service h (xs ++ ys)) (settled_by M.service t (xs ++ ys))
stands_twice M told old mid new xs ys one two =
    stood_more M told old mid new xs ys [] (λ t i there. absurd (cc there)) one (λ s h t so within none. two s h t so none)

opened_second : (M : Model) → {K : Type 0} (told : K → KeeperState M) (became : K → K → ℕ → Type 0) → IsCount became
    → (old mid new : Option K) (xs ys : List Event) (at : EventIn (xs ++ ys)) (prefix : List Event) (parts : ys ≡ prefix ++ at.one ∷ at.later)
    → ((told_in told new).is_honest → (told_in told mid).is_honest) → StandsAfter told old mid xs → became_in became old mid (deaths xs) → at.earlier ≡ xs ++ prefix
    → OpenedAt told became mid new (event_at prefix at.one at.later parts) → OpenedAt told became old new at
opened_second M told became law old mid new xs ys at prefix parts was stood often begin one =
    let e = at.one in
    let whole : up_to at ≡ xs ++ (prefix ++ e ∷ []) = ap (λ (zs : List Event). zs ++ e ∷ []) begin ∙ append_assoc xs prefix (e ∷ []) in
    record {
      left = one.left;
      opened = one.opened;
      before = became_then became law old mid one.left (deaths xs) (deaths prefix) (deaths at.earlier) often one.before
          (sym (ap deaths begin ∙ deaths-append xs prefix));
      once = one.once;
      after = one.after;
      kept = one.kept;
      stood = λ is. subst (λ es. (s : M.State) (h : History) (t : List ℕ) → StandsIn told old s h t → NoneReused M.service t es
          → StandsIn told one.left s (committed M.service h es) (settled_by M.service t es)) (sym whole)
          (stands_twice M told old mid one.left xs (prefix ++ e ∷ []) (stood (was is)) (one.stood is));
    }

pub opened_twice : (M : Model) → {K : Type 0} (told : K → KeeperState M) (became : K → K → ℕ → Type 0) → IsCount became
    → (old mid new : Option K) (xs ys : List Event)
    → ((told_in told new).is_honest → (told_in told mid).is_honest) → StandsAfter told old mid xs → Opened told became old mid xs → Opened told became mid new ys
    → Opened told became old new (xs ++ ys)
opened_twice M told became law old mid new xs ys was stood one two = record {
  often = became_then became law old mid new (deaths xs) (deaths ys) (deaths (xs ++ ys)) one.often two.often (sym (deaths-append xs ys));
  each = λ at so. elim (in_which xs ys at.earlier at.one at.later at.parts) [
    | inl first ↦ opened_before M told became law old mid new xs ys (xs ++ ys) at first.more first.parts first.rest two.often was
        (one.each (event_at at.earlier at.one first.more first.parts) so)
    | inr second ↦ opened_second M told became law old mid new xs ys at second.prefix second.parts was stood one.often second.begin
        (two.each (event_at second.prefix at.one at.later second.parts) so)
  ];
}

pub opened_none : (M : Model) → {K : Type 0} (told : K → KeeperState M) (became : K → K → ℕ → Type 0) → IsCount became → (P : K → Type 0) (k : Option K)
    → IsSomeAnd k P → Opened told became k k []
opened_none M told became law P k is = record {
  often = became_itself became law P k is;
  each = λ at _. absurd (no_middle at.earlier at.one at.later (sym at.parts));
}

-- it was opened no more
pub opened_still : (M : Model) → {K : Type 0} (told : K → KeeperState M) (became : K → K → ℕ → Type 0) → IsCount became
    → (old mid new : Option K) (es : List Event)
    → became_in became mid new 0 → ((told_in told new).is_honest → (told_in told mid).is_honest) → Opened told became old mid es → Opened told became old new es
opened_still M told became law old mid new es same was one = record {
  often = became_then became law old mid new (deaths es) 0 (deaths es) one.often same (omega arith);
  each = λ at so. opened_before M told became law old mid new es [] es at at.later at.parts (sym (append-nil at.later)) same was
      (one.each (event_at at.earlier at.one at.later at.parts) so);
}

-- ---- a group, and an event that is lost

dies_later : (fate : Fate) → fate ≡ DiedAfterCommit → dies fate ≡ true
dies_later fate is = ap dies is

run_last : (died : Bool) (run : List Event) → IsGroupRun died run → DiesLast died run
run_last died [] is = is
run_last died (e ∷ run) is = elim is [
  | inl more ↦ inl (more.0, run_last died run more.1)
  | inr last ↦ inr (last.0, dies_later e.fate last.1, last.2)
]

pub group_opens : (M : Model) → StillStands M → {K : Type 0} (told : K → KeeperState M) (became : K → K → ℕ → Type 0) (old mid new : Option K)
    (group : Group) (run slice : List Event) (p p' : List ℕ) (outs outs' : List (Option Outcome)) → GathersEvents M run group → slice ≡ run → Worked (stage (told_in told old) p outs) (stage (told_in told mid) p' outs') slice → became_in became old mid 0
    → became_in became mid new (if group.died then 1 else 0)
    → ((told_in told new).is_honest → KeepsHeld (told_in told mid) (told_in told new))
    → ((told_in told new).is_honest → (told_in told mid).is_honest) → ((told_in told mid).is_honest → (told_in told old).is_honest)
    → KeepsMedium told old new → Opens told became old new p run
group_opens M still told became old mid new group run slice p p' outs outs' gathers same all before after keeps honest was medium =
    let worked = subst (λ x. Worked (stage (told_in told old) p outs) (stage (told_in told mid) p' outs') x) same all in
    let cs = commits_in M.service run in
    record {
      died = group.died;
      last = run_last group.died run gathers.goes;
      left = mid;
      before = before;
      after = after;
      honest = honest;
      was_honest = was;
      kept = keeps;
      stood = λ is s h t so within none.
          let handed = handed_within t p cs within in
          let fresh = all_unsettled_too t (t ++ handed_to cs p) cs (includes_both t t (handed_to cs p) (λ i there. there) handed) (none_reused M.service t run none) in
          stands_later M still (told_in told mid) s (committed M.service h run) (t ++ handed_to cs p) (settled_by M.service t run)
          (includes_both (settled_by M.service t run) t (handed_to cs p) (settled_still M.service t run) (λ i there. settled_still M.service t run i (handed i there)))
          (worked.stands is s h t so fresh);
      few = few_kept M.service run group.taken.items 16 gathers.entries gathers.few;
      medium = medium;
    }

pub lost_opens : (M : Model) → StillStands M → {K : Type 0} (told : K → KeeperState M) (became : K → K → ℕ → Type 0) → IsCount became
    → (old new : Option K) (events : List Event) (at : ℕ) (e : Event) (p : List ℕ)
    → at < length events → e ≡ get_or events at e → dies_before e.fate ≡ true → became_in became old new 1
    → ((told_in told new).is_honest → KeepsHeld (told_in told old) (told_in told new)) → ((told_in told new).is_honest → (told_in told old).is_honest)
    → KeepsMedium told old new → Opens told became old new p (take 1 (drop at events))
lost_opens M still told became law old new events at e p lt is before once keeps honest medium =
    let lost = is_lost e.fate before in
    let one : e ∷ [] ≡ take 1 (drop at events) = ap (λ (x : Event). x ∷ []) is ∙ ap (take 1) (sym (drop-cons events at e lt)) in
    let none : commits_in M.service (e ∷ []) ≡ [] = ap (λ f. commits_by f (entry_if (class_for M.service e.bytes) (message_entry e.bytes e.moment)) ++ []) lost in
    subst (Opens told became old new p) one (record {
      died = true;
      last = inr (refl, ap dies lost, refl);
      left = old;
      before = became_first became law old new 1 once;
      after = once;
      honest = honest;
      was_honest = λ is. is;
      kept = keeps;
      stood = λ is s h t so within unused.
          subst (λ cs. StandsIn told old s (grown h cs) (settled_by M.service t (e ∷ []))) (sym none)
          (stands_later M still (told_in told old) s h t (settled_by M.service t (e ∷ [])) (includes_left t (settles M.service e)) so);
      few = omega (arith, ap length none);
      medium = medium;
    })

-- ---- what stood on the way

no_event : (earlier later : List Event) → [] ≡ earlier ++ later → (earlier ≡ []) × (later ≡ [])
no_event [] later is = (refl, sym is)
no_event (e ∷ earlier) later is = absurd (cc is)

pub stood_none : (M : Model) → {K : Type 0} (told : K → KeeperState M) (became : K → K → ℕ → Type 0) → IsCount became → (P : K → Type 0) (k : Option K)
    → IsSomeAnd k P → StoodBefore told became k k []
stood_none M told became law P k is = λ _ earlier later none.
    let parts = no_event earlier later none in
    let same = became_itself became law P k is in
    record {
      begun = [];
      rest = earlier;
      parts = refl;
      few = omega (arith, ap (λ (es : List Event). length (commits_in M.service es)) parts.0);
      keeper = k;
      before = same;
      after = subst (λ es. became_in became k k (deaths (es ++ later))) (sym parts.0) (subst (λ es. became_in became k k (deaths es)) (sym parts.1) same);
      stood = λ s h t so _. so;
    }

-- one that stood before others came
stood_within : (M : Model) → {K : Type 0} (told : K → KeeperState M) (became : K → K → ℕ → Type 0) → IsCount became
    → (old mid new : Option K) (earlier more later ys : List Event) → became_in became mid new (deaths ys) → later ≡ more ++ ys
    → StoodAt told became old mid earlier more → StoodAt told became old new earlier later
stood_within M told became law old mid new earlier more later ys further rest one = record {
  begun = one.begun;
  rest = one.rest;
  parts = one.parts;
  few = one.few;
  keeper = one.keeper;
  before = one.before;
  after = became_then became law one.keeper mid new (deaths (one.rest ++ more)) (deaths ys) (deaths (one.rest ++ later)) one.after further (omega (
    arith,
    deaths-append one.rest more,
    deaths-append one.rest later,
    ap deaths rest,
    deaths-append more ys,
  ));
  stood = one.stood;
}

few_first : (V : Service) (ys prefix later : List Event) (n : ℕ) → ys ≡ prefix ++ later → length (commits_in V ys) ≤ n → length (commits_in V prefix) ≤ n
few_first V ys prefix later n parts few = omega (
  arith,
  few,
  ap (λ (es : List Event). length (commits_in V es)) parts,
  ap length (commits-append V prefix later),
  length-append (commits_in V prefix) (commits_in V later),
)

-- one that stood when a group began
stood_begun : (M : Model) → {K : Type 0} (told : K → KeeperState M) (became : K → K → ℕ → Type 0) (old mid new : Option K) (xs ys earlier prefix later : List Event)
    → (told_in told mid).is_honest → StandsAfter told old mid xs → became_in became old mid (deaths xs) → became_in became mid new (deaths ys)
    → length (commits_in M.service ys) ≤ 16 → earlier ≡ xs ++ prefix → ys ≡ prefix ++ later → StoodAt told became old new earlier later
stood_begun M told became old mid new xs ys earlier prefix later is stood often further few begin parts = record {
  begun = xs;
  rest = prefix;
  parts = begin;
  few = few_first M.service ys prefix later 16 parts few;
  keeper = mid;
  before = often;
  after = subst (λ es. became_in became mid new (deaths es)) parts further;
  stood = stood is;
}

pub stood_before_more : (M : Model) → {K : Type 0} (told : K → KeeperState M) (became : K → K → ℕ → Type 0) → IsCount became
    → (old mid new : Option K) (xs ys : List Event) (p : List ℕ) → StandsAfter told old mid xs → became_in became old mid (deaths xs) → StoodBefore told became old mid xs
    → Opens told became mid new p ys → StoodBefore told became old new (xs ++ ys)
stood_before_more M told became law old mid new xs ys p stood often one two = λ is earlier later parts.
    let further : became_in became mid new (deaths ys) =
    became_then became law mid two.left new 0 (if two.died then 1 else 0) (deaths ys) two.before two.after (omega (arith, deaths_last two.died ys two.last)) in
    let was = two.was_honest (two.honest is) in
    elim (split_in xs ys earlier later parts) [
      | inl first ↦ stood_within M told became law old mid new earlier first.more later ys further first.rest (one was earlier first.more first.parts)
      | inr second ↦ stood_begun M told became old mid new xs ys earlier second.prefix later was stood often further two.few second.begin second.parts
    ]

-- nothing came
pub stood_still : (M : Model) → {K : Type 0} (told : K → KeeperState M) (became : K → K → ℕ → Type 0) → IsCount became → (old mid new : Option K) (es : List Event)
    → became_in became mid new 0 → ((told_in told new).is_honest → (told_in told mid).is_honest) → StoodBefore told became old mid es
    → StoodBefore told became old new es
stood_still M told became law old mid new es same was one = λ is earlier later parts.
    stood_within M told became law old mid new earlier later later [] same (sym (append-nil later)) (one (was is) earlier later parts)

-- of a second list, after a first one
stood_second : (M : Model) → {K : Type 0} (told : K → KeeperState M) (became : K → K → ℕ → Type 0) → IsCount became → (old mid new : Option K)
    (xs earlier prefix later : List Event) → (told_in told mid).is_honest → StandsAfter told old mid xs → became_in became old mid (deaths xs) → earlier ≡ xs ++ prefix
    → StoodAt told became mid new prefix later → StoodAt told became old new earlier later
stood_second M told became law old mid new xs earlier prefix later is stood often begin at = record {
  begun = xs ++ at.begun;
  rest = at.rest;
  parts = begin ∙ ap (λ (es : List Event). xs ++ es) at.parts ∙ sym (append_assoc xs at.begun at.rest);
  few = at.few;
  keeper = at.keeper;
  before = became_then became law old mid at.keeper (deaths xs) (deaths at.begun) (deaths (xs ++ at.begun)) often at.before (sym (deaths-append xs at.begun));
  after = at.after;
  stood = stands_twice M told old mid at.keeper xs at.begun (stood is) at.stood;
}

pub stood_twice : (M : Model) → {K : Type 0} (told : K → KeeperState M) (became : K → K → ℕ → Type 0) → IsCount became
    → (old mid new : Option K) (xs ys : List Event) → ((told_in told new).is_honest → (told_in told mid).is_honest) → StandsAfter told old mid xs
    → became_in became old mid (deaths xs) → became_in became mid new (deaths ys) → StoodBefore told became old mid xs → StoodBefore told became mid new ys
    → StoodBefore told became old new (xs ++ ys)
stood_twice M told became law old mid new xs ys was stood often further one two = λ is earlier later parts.
    elim (split_in xs ys earlier later parts) [
      | inl first ↦ stood_within M told became law old mid new earlier first.more later ys further first.rest (one (was is) earlier first.more first.parts)
      | inr second ↦ stood_second M told became law old mid new xs earlier second.prefix later (was is) stood often second.begin
          (two is second.prefix later second.parts)
    ]

-- ---- the medium

pub medium_itself : (M : Model) → {K : Type 0} (told : K → KeeperState M) (k : Option K) → KeepsMedium told k k
medium_itself M told None = λ is. absurd is
medium_itself M told (Some k) = λ is. is

pub medium_some : (M : Model) → {K : Type 0} (told : K → KeeperState M) (old new : Option K)
    → ((told_in told old).in_memory → (told_in told new).in_memory) → KeepsMedium told old new
medium_some M told old None keeps = λ is. tt
medium_some M told old (Some k) keeps = keeps

pub medium_then : (M : Model) → {K : Type 0} (told : K → KeeperState M) (old mid new : Option K) (P : K → Type 0) → IsSomeAnd mid P → KeepsMedium told old mid
    → KeepsMedium told mid new → KeepsMedium told old new
medium_then M told old None new P there one two = absurd there
medium_then M told old (Some k) new P there one two = λ is. two (one is)

pub medium_left : (M : Model) → {K : Type 0} (told : K → KeeperState M) (old new : Option K) → ((new ≡ None → ⊥) → KeepsMedium told old new)
    → KeepsMedium told old new
medium_left M told old None keeps = λ is. tt
medium_left M told old (Some k) keeps = keeps (λ none. absurd (cc none))
