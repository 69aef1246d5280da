-- Records in a list, over others.
use Rattle.std.proofs.Common.{◌≡◌, ◌||◌, ℕ, Bool, true, false, ◌==◌, ◌⊎◌, inl, inr, if◌then◌else◌, List, [], ◌∷◌, ◌++◌, Option, Some, None, refl, sym, ap, subst, ◌∙◌}
use Rattle.std.proofs.Common.{nat_eq, cond, arith, get_or}
use Rattle.fuse_wire.specs.declared.moment.Moment.{Moment}
use Rattle.fuse_request.specs.declared.request.Request.{Request}
use Rattle.fuse_request.specs.Opcodes.{Service}
use Rattle.fuse_answer.specs.Said.{Said}
use Rattle.fuse_keeper.specs.Model.{Model, IsOfGoodState}
use Rattle.fuse_keeper.specs.declared.group.Record.{Record}
use Rattle.fuse_keeper.specs.declared.keeper.Done.{Done}
use Rattle.fuse_keeper.specs.History.{Entry, entry_id, is_seen, kept_one, next_state, is_in, ids_in, Includes}
use Rattle.fuse_keeper.specs.Stands.{Records, KeeperContent, Standing, StandsAt, StandsBy, AreThese, PerformedBy, OthersStay, without}
use Rattle.fuse_keeper.specs.Group.{entry_of}
use Rattle.fuse_keeper.specs.Taking.{Acts, Took, TookBy, TookIf}
use Rattle.fuse_keeper.specs.inner.Overlay.{listed, first_of, over, record_ids}
use Rattle.fuse_keeper.proofs.Histories.{tested, same_id, map-append}
use Rattle.fuse_keeper.proofs.Standing.{same_number, unsettled_too, Stands-without}
use Rattle.fuse_keeper.proofs.Settled.{is_in-append}
use Rattle.fuse_keeper.proofs.Performing.{these_stand, none_yet, PerformedBy-same}

first_none : (o : Option Said) → first_of o None ≡ o
first_none None = refl
first_none (Some a) = refl

-- the records of two lists
pub listed-append : (xs ys : List Record) (i : ℕ) → listed (xs ++ ys) i ≡ first_of (listed xs i) (listed ys i)
listed-append [] ys i = refl
listed-append (x ∷ xs) ys i =
    elim (x.id == i) as (λ b. (if b then Some x.answer else listed (xs ++ ys) i) ≡ first_of (if b then Some x.answer else listed xs i) (listed ys i))
    [ true ↦ refl | false ↦ listed-append xs ys i ]

first_of_three : (o p q : Option Said) → first_of (first_of o p) q ≡ first_of o (first_of p q)
first_of_three None p q = refl
first_of_three (Some a) p q = refl

-- the list may be put over in two parts, the last one first
pub over-append : (xs ys : List Record) (records : Records) (i : ℕ) → over (xs ++ ys) records i ≡ over xs (over ys records) i
over-append xs ys records i = ap (λ o. first_of o (records i)) (listed-append xs ys i) ∙ first_of_three (listed xs i) (listed ys i) (records i)

one_over_by : (b : Bool) (a : Said) (o : Option Said) → first_of (if b then Some a else None) o ≡ (if b then Some a else o)
one_over_by true a o = refl
one_over_by false a o = refl

pub one_over : (r : Record) (records : Records) (i : ℕ) → over (r ∷ []) records i ≡ (if r.id == i then Some r.answer else records i)
one_over r records i = one_over_by (r.id == i) r.answer (records i)

first_absent : (o p : Option Said) → first_of o p ≡ None → o ≡ None
first_absent None p none = refl
first_absent (Some a) p none = absurd (cc none)

absent_over : (b : Bool) (o p : Option Said) (a : Said) → (b ≡ true → o ≡ None) → first_of o (if b then Some a else p) ≡ (if b then Some a else first_of o p)
absent_over true o p a none = ap (λ q. first_of q (Some a)) (none refl)
absent_over false o p a none = refl

-- one more at the end, of an id that has none
pub one_more_over : (added : List Record) (r : Record) (records : Records) (i : ℕ) → over added records r.id ≡ None
    → over (added ++ r ∷ []) records i ≡ (if r.id == i then Some r.answer else over added records i)
one_more_over added r records i none =
    over-append added (r ∷ []) records i ∙ ap (first_of (listed added i)) (one_over r records i)
    ∙ absent_over (r.id == i) (listed added i) (records i) r.answer
    (λ same. ap (listed added) (sym (same_number r.id i same)) ∙ first_absent (listed added r.id) (records r.id) none)

-- equal below, equal above
pub over-same : (added : List Record) (records others : Records) (i : ℕ) → records i ≡ others i → over added records i ≡ over added others i
over-same added records others i is = ap (first_of (listed added i)) is

pub without-same : (settled : List ℕ) (records others : Records) (i : ℕ) → records i ≡ others i → without settled records i ≡ without settled others i
without-same settled records others i is = ap (λ (o : Option Said). if is_in settled i then None else o) is

-- ---- an id that is known, and one that isn't

pub took_known : (M : Model) → (rows : M.Rows) (records : Records) (e : Entry) (known : Said) (done : Done) → is_seen M.service e ≡ false
    → records (entry_id e) ≡ Some known
    → done.answer ≡ known → done.repeated ≡ true
    → Took M (record { rows = rows; records = records }) e (record { rows = rows; records = records }) done
took_known M rows records e known done kept is answer repeated =
    rw (kept, is) (refl, λ i. refl, answer, repeated)

pub took_new : (M : Model) → (rows : M.Rows) (base : Records) (added : List Record) (e : Entry) (rows' : M.Rows) (r : Record) (added' : List Record)
    (done : Done)
    → is_seen M.service e ≡ false → over added base (entry_id e) ≡ None → Acts M rows e rows' done.answer → added' ≡ added ++ r ∷ [] → r.id ≡ entry_id e → r.answer ≡ done.answer
    → done.repeated ≡ false
    → Took M (record { rows = rows; records = over added base }) e (record { rows = rows'; records = over added' base }) done
took_new M rows base added e rows' r added' done kept none acts is id answer repeated =
    rw (kept, none) (acts, λ i. ap (λ l. over l base i) is ∙ one_more_over added r base i (ap (over added base) id ∙ none) ∙ rw (id, answer), repeated)

-- a seen one
pub took_seen : (M : Model) → (rows : M.Rows) (records : Records) (e : Entry) (rows' : M.Rows) (done : Done) → is_seen M.service e ≡ true
    → Acts M rows e rows' done.answer → rows' ≡ rows → done.repeated ≡ false
    → Took M (record { rows = rows; records = records }) e (record { rows = rows'; records = records }) done
took_seen M rows records e rows' done seen acts same repeated =
    rw seen ((same, λ i. refl), λ s good is. (acts s good is).answer_is, repeated)

took_rowed_by : (M : Model) → (o : Option Said) (before : KeeperContent M) (e : Entry) (after : KeeperContent M) (done : Done)
    → TookBy M o before e after done → IsOfGoodState M before.rows → IsOfGoodState M after.rows
unfolding IsOfGoodState
took_rowed_by M (Some known) before e after done took (s, tree, is) = (s, tree, took.0 ∙ is)
took_rowed_by M None before e after done took (s, tree, is) =
    let acted = took.0 s tree is in
    (next_state M s e, acted.tree, acted.rows_are)

took_rowed_if : (M : Model) → (seen : Bool) (before : KeeperContent M) (e : Entry) (after : KeeperContent M) (done : Done)
    → TookIf M seen before e after done → IsOfGoodState M before.rows → IsOfGoodState M after.rows
unfolding IsOfGoodState
took_rowed_if M true before e after done took (s, tree, is) = (s, tree, took.0.0 ∙ is)
took_rowed_if M false before e after done took so = took_rowed_by M (before.records (entry_id e)) before e after done took so

-- the rows stay those of a tree
pub took_rowed : (M : Model) → (before : KeeperContent M) (e : Entry) (after : KeeperContent M) (done : Done)
    → Took M before e after done → IsOfGoodState M before.rows → IsOfGoodState M after.rows
took_rowed M before e after done took so = took_rowed_if M (is_seen M.service e) before e after done took so

-- of an entry of a group
pub took_rowed_at : (M : Model) → (group : List (Request × Moment)) (i : ℕ) (d : Request × Moment) (before after : KeeperContent M) (done : Done)
    → Took M before (entry_of (get_or group i d)) after done → IsOfGoodState M before.rows → IsOfGoodState M after.rows
took_rowed_at M group i d before after done took so = took_rowed M before (entry_of (get_or group i d)) after done took so

-- ---- what is known of an id

pub known_added : (added : List Record) (base : Records) (id : ℕ) (a : Said) → Some a ≡ listed added id → Some a ≡ over added base id
known_added added base id a is = ap (λ o. first_of o (base id)) is

pub known_settled : (added : List Record) (settled : List ℕ) (records : Records) (id : ℕ) → None ≡ listed added id → is_in settled id ≡ true
    → None ≡ over added (without settled records) id
known_settled added settled records id none is =
    sym (ap (λ (b : Bool). if b then None else records id) is) ∙ ap (λ o. first_of o (without settled records id)) none

pub known_old : (added : List Record) (settled : List ℕ) (records : Records) (id : ℕ) (o : Option Said) → None ≡ listed added id → is_in settled id ≡ false
    → o ≡ records id → o ≡ over added (without settled records) id
known_old added settled records id o none isnt is =
    is ∙ sym (ap (λ (b : Bool). if b then None else records id) isnt) ∙ ap (λ p. first_of p (without settled records id)) none

-- ---- steps

-- nothing is taken yet
pub begun : (M : Model) → (rows rows' : M.Rows) (records : Records) (added : List Record) (dones : List Done) (at : Standing M)
    → rows' ≡ rows → added ≡ [] → dones ≡ []
    → StandsAt M (record { rows = rows; records = records }) at → PerformedBy M (AreThese M rows' (over added records)) at [] dones
begun M rows rows' records added dones at is none empty so =
    let old : KeeperContent M = record { rows = rows; records = records } in
    subst (λ (ds : List Done). PerformedBy M (AreThese M rows' (over added records)) at [] ds) (sym empty)
    (PerformedBy-same M old (record { rows = rows'; records = over added records }) at [] [] (is, λ i. ap (λ l. over l records i) none) (none_yet M old at so))

gone_step_by : (b c : Bool) (o o' : Option Said) → o' ≡ (if b then None else o) → (if c then None else o') ≡ (if b || c then None else o)
gone_step_by true true o o' is = refl
gone_step_by true false o o' is = is
gone_step_by false true o o' is = refl
gone_step_by false false o o' is = is

-- one id more is gone
pub gone_step : (x : ℕ) (rest : List ℕ) (m m' : Records) (i : ℕ) → m' i ≡ (if x == i then None else m i) → without rest m' i ≡ without (x ∷ rest) m i
gone_step x rest m m' i is = gone_step_by (x == i) (is_in rest i) (m i) (m' i) is

-- the last record of a list is put
pub put_step : (front : List Record) (r : Record) (m m' : Records) (i : ℕ) → m' i ≡ (if r.id == i then Some r.answer else m i)
    → over front m' i ≡ over (front ++ r ∷ []) m i
put_step front r m m' i is = ap (first_of (listed front i)) (is ∙ sym (one_over r m i)) ∙ sym (over-append front (r ∷ []) m i)

-- ---- the other ids

absent_by : (b : Bool) (a : Said) (id : ℕ) (xs : List Record) → (is_in (record_ids xs) id ≡ false → listed xs id ≡ None)
    → (b || is_in (record_ids xs) id) ≡ false → (if b then Some a else listed xs id) ≡ None
absent_by true a id xs rest none = absurd (cc none)
absent_by false a id xs rest none = rest none

-- an id that isn't among these has no record there
pub listed_absent : (id : ℕ) (xs : List Record) → is_in (record_ids xs) id ≡ false → listed xs id ≡ None
listed_absent id [] none = refl
listed_absent id (x ∷ xs) none = absent_by (x.id == id) x.answer id xs (listed_absent id xs) none

-- the records of other ids, after a group
pub others_stay : (settled : List ℕ) (records : Records) (added : List Record) (es : List Entry) → Includes (ids_in es) (record_ids added)
    → OthersStay records settled es (over added (without settled records))
others_stay settled records added es within i isnt =
    ap (λ o. first_of o (without settled records i)) (listed_absent i added (unsettled_too (ids_in es) (record_ids added) i within isnt))

pushed_last : (b : Bool) (k i : ℕ) → (k == i) ≡ b → (b || false) ≡ true → i ≡ k
pushed_last true k i is there = sym (same_number k i is)
pushed_last false k i is there = absurd (cc there)

-- the ids of those added, with one more
pub ids_pushed : (added new : List Record) (r : Record) (k i : ℕ) → r.id ≡ k → new ≡ added ++ r ∷ [] → is_in (record_ids new) i ≡ true
    → (is_in (record_ids added) i ≡ true) ⊎ (i ≡ k)
ids_pushed added new r k i same is there = elim (tested (is_in (record_ids added) i)) [
  | inl before ↦ inl before
  | inr absent ↦ inr (pushed_last (r.id == i) r.id i refl
      (let parts = is_in-append (record_ids added) (r.id ∷ []) i in
      let whole = ap (λ l. is_in l i) (ap record_ids is ∙ map-append (λ (x : Record). x.id) added (r ∷ [])) in
      rw absent at (sym parts ∙ sym whole ∙ there)) ∙ same)
]

-- the id of a kept entry is that of the kept ones
pub id_of_kept : (V : Service) (e : Entry) (i : ℕ) {P : Type 0} → is_seen V e ≡ false → P ⊎ (i ≡ entry_id e)
    → P ⊎ (is_in (ids_in (kept_one V e)) i ≡ true)
id_of_kept V e i kept (inl before) = inl before
id_of_kept V e i kept (inr is) = inr (rw (kept, is) (ap (λ b. b || false) (same_id (entry_id e))))

-- ---- a group over the records that aren't settled

pub performed_settled : (M : Model) → (rows : M.Rows) (records : Records) (settled : List ℕ) (added : List Record) (rows' : M.Rows)
    (reserved records' : Records) (at : Standing M) (es : List Entry) (dones : List Done)
    → Includes at.settled settled → StandsBy M (AreThese M rows records) at.state at.history at.settled
    → (StandsAt M (record { rows = rows; records = without settled records }) at
    → PerformedBy M (AreThese M rows' (over added (without settled records))) at es dones)
    → ((i : ℕ) → reserved i ≡ records i) → ((i : ℕ) → records' i ≡ over added (without settled reserved) i)
    → PerformedBy M (AreThese M rows' records') at es dones
performed_settled M rows records settled added rows' reserved records' at es dones within so does same are =
    let rest = Stands-without M rows records at.state at.history at.settled settled (without settled records) within (λ i. refl)
    (these_stand M rows records at.state at.history at.settled so) in
    PerformedBy-same M (record { rows = rows'; records = over added (without settled records) }) (record { rows = rows'; records = records' }) at es dones
    (refl, λ i. are i ∙ over-same added (without settled reserved) (without settled records) i (without-same settled reserved records i (same i)))
    (does rest)

same_test : (k i : ℕ) → nat_eq k i ≡ (k == i)
same_test k i = grind arith

-- the value of a map at each id, after one was put or taken out
pub value_by : (k i : ℕ) (o old new : Option Said) → new ≡ cond (nat_eq k i) o old → new ≡ (if k == i then o else old)
value_by k i o old new is = is ∙ ap (λ b. cond b o old) (same_test k i)
