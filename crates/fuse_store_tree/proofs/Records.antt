-- Records and lots, as steps on what is held.
use Rattle.std.proofs.Common.{take, drop, length, slice_index_or, Ok, Some, None, Option, ◌++◌, ◌≡◌, ◌≤◌, ◌<◌, ◌^◌, ◌+◌, ℕ, true, false, List, [], ◌∷◌, refl, sym, ap, subst, arith, ◌∙◌}
use Rattle.std.specs.Prelude.{IsTrue}
use Rattle.std.specs.List.{AllByRecursion}
use Rattle.sqlite.specs.State.{State, HasCleanDisk}
use Rattle.sqlite.specs.declared.error.Error.{Error}
use Rattle.fuse_answer.specs.Said.{Said, FitsAnswer}
use Rattle.fuse_init.specs.declared.settings.Settings.{Settings}
use Rattle.fuse_rows.specs.declared.rows.Counters.{Counters as CountersRow}
use Rattle.fuse_rows.specs.declared.rows.Room.{Room}
use Rattle.fuse_tree.specs.State.{State as TreeState, Tree}
use Rattle.fuse_tree.specs.Do.{done}
use Rattle.fuse_wire.specs.declared.id.Id.{Id}
use Rattle.fuse_request.specs.Opcodes.{Service}
use Rattle.fuse_keeper.specs.History.{Entry, entry_id, is_seen}
use Rattle.fuse_keeper.specs.Group.{ids_of}
use Rattle.fuse_keeper.specs.declared.keeper.Done.{Done}
use Rattle.fuse_store_tables.specs.Content.{Content, Kept, kept_key, put_by, without_by, put_kept, without_kept, without_four, with_lot, set_counter}
use Rattle.fuse_store_tables.specs.Moves.{Makes, Inside, LookedInside, Stays, StaysInside}
use Rattle.fuse_store_tables.specs.inner.Following.{earlier}
use Rattle.fuse_store_tree.specs.Fits.{Fits, KeepsRecord}
use Rattle.fuse_store_tree.specs.Store.{Store, records_of, meta_rows_of}
use Rattle.fuse_store_tree.specs.inner.Reading.{Describes, value_of}
use Rattle.fuse_store_tree.specs.Knowing.{knowing}
use Rattle.fuse_store_tree.specs.inner.Acting.{ActsInside}
use Rattle.fuse_store_tree.specs.declared.meta.Meta.{Meta}
use Rattle.fuse_store_tree.specs.inner.Changing.{InsideFor, Turned}
use Rattle.fuse_store_tree.specs.inner.Knowing.{InsideKnown, TurnedKnown}
use Rattle.fuse_store_tree.specs.inner.Laws.{looked_still, still_read}
use Rattle.fuse_store_tree.specs.inner.Over.{TurnedOver}
use Rattle.fuse_store_tree.proofs.Steps.{made, made_known}
use Rattle.fuse_store_tree.proofs.Looks.{key_differs, all_map}
use Rattle.fuse_store_tree.proofs.Orders.{all_put, all_filter}
use Rattle.fuse_store_tree.proofs.Overlays.{take_plus}
use Rattle.fuse_store_tree.specs.Holding.{Holding, AreBelow, store_of}
use Rattle.fuse_store_tree.specs.Group.{without_record, without_settled, with_record, with_new_lot, with_act, said_of, acted_on, taken, taken_if, taken_by, done_newly}
use Rattle.fuse_store_tree.specs.Group.{done_again}
use Rattle.fuse_store_tree.specs.Pieces.{File}
use Rattle.fuse_store_tree.proofs.Turning.{clean_file, lifted, looked_for, turned_known, turned_then, turned_same, told_in, content_in}
use Rattle.fuse_store_tree.proofs.KnownSteps.{held_for, known_for, looked_known, turned_so, turned_known_same}
use Rattle.fuse_store_tree.proofs.Overs.{turned_over_of, turned_over_same, turned_over_then}
use Rattle.fuse_rows.specs.Rows.{Rows}
use Rattle.fuse_tree.specs.Rowed.{rowed}
use Rattle.fuse_store_tree.specs.Knowing.{Knows}
use Rattle.fuse_store_tree.specs.Looking.{sees_in}

-- ---- a record goes

record_gone : (id : ℕ) (x : Store) (file : List ℕ) (c : Content) → Describes x file c → Describes (record x { kept = without_by kept_key id x.kept }) file (without_kept id c)
record_gone id x file c at = record {
  counters = at.counters;
  nodes = at.nodes;
  entries = at.entries;
  handles = at.handles;
  answers = at.answers;
  attributes = at.attributes;
  number = at.number;
  layout = at.layout;
  header = at.header;
  pieces = at.pieces;
  owned = at.owned;
  lots = at.lots;
  kept = ap (without_by kept_key id) at.kept;
  bytes = at.bytes;
  written = at.written;
  within = at.within;
  pieces_within = at.pieces_within;
  settings = at.settings;
  fits = record {
    nodes = at.fits.nodes;
    entries = at.fits.entries;
    handles = at.fits.handles;
    blocks = at.fits.blocks;
    kept = all_filter kept_key KeepsRecord _ c.kept at.fits.kept;
    pieces = at.fits.pieces;
    no_pieces = at.fits.no_pieces;
  };
}

pub forgot : {X : Type 0} (file : List ℕ) (id : ℕ) (a b : State) (x : X) → Makes {X = X} {E = Error} (without_kept id) a b (Ok x) → Turned file (without_record id) a b
forgot file id a b x p = lifted file (λ s. record s { kept = without_by kept_key id s.kept }) (without_record id) a b (λ clean y at.
    (refl, at.holds.tree, at.holds.below, at.holds.next))
    (made (clean_file file) (without_kept id) (λ s. record s { kept = without_by kept_key id s.kept }) a b x (λ s c. record_gone id s file c) p)

pub forgot_four : {X : Type 0} (file : List ℕ) (m n o p : ℕ) (a b : State) (x : X) → Makes {X = X} {E = Error} (without_four m n o p) a b (Ok x)
    → Turned file (without_settled (m ∷ n ∷ o ∷ p ∷ [])) a b
forgot_four file m n o p a b x q =
    let gone = λ (s : Store). record s { kept = without_by kept_key p (without_by kept_key o (without_by kept_key n (without_by kept_key m s.kept))) } in
    lifted file gone (without_settled (m ∷ n ∷ o ∷ p ∷ [])) a b (λ clean y at. (refl, at.holds.tree, at.holds.below, at.holds.next))
    (made (clean_file file) (without_four m n o p) gone a b x (λ s c at. record_gone p _ file _ (record_gone o _ file _ (record_gone n _ file _ (record_gone m s file c at)))) q)

-- no record has an id so high
none_goes : (id : ℕ) (ks : List Kept) → 2 ^ 63 ≤ id → AllByRecursion KeepsRecord ks → without_by kept_key id ks ≡ ks
none_goes id [] high all = refl
none_goes id (k ∷ ks) high all = rw (key_differs k.id id (2 ^ 63) all.0.id high) (ap (λ l. k ∷ l) (none_goes id ks high all.1))

pub none_forgot : (file : List ℕ) (id : ℕ) (a : State) → 2 ^ 63 ≤ id → Turned file (without_record id) a a
none_forgot file id a high = turned_known file (λ y. y) (without_record id) a a (λ clean y at.
    let told = at.holds.held.2 in
    ap (λ l. record y { kept = l }) (sym (none_goes id y.kept high (subst (AllByRecursion KeepsRecord) told.kept told.fits.kept))))
    (looked_for file a a (looked_still a))

-- ---- a record comes

record_comes : (k : Kept) → KeepsRecord k → (x : Store) (file : List ℕ) (c : Content) → Describes x file c → Describes (record x { kept = put_by kept_key k x.kept }) file (put_kept k c)
record_comes k fits x file c at = record {
  counters = at.counters;
  nodes = at.nodes;
  entries = at.entries;
  handles = at.handles;
  answers = at.answers;
  attributes = at.attributes;
  number = at.number;
  layout = at.layout;
  header = at.header;
  pieces = at.pieces;
  owned = at.owned;
  lots = at.lots;
  kept = ap (put_by kept_key k) at.kept;
  bytes = at.bytes;
  written = at.written;
  within = at.within;
  pieces_within = at.pieces_within;
  settings = at.settings;
  fits = record {
    nodes = at.fits.nodes;
    entries = at.fits.entries;
    handles = at.fits.handles;
    blocks = at.fits.blocks;
    kept = all_put kept_key KeepsRecord k c.kept fits at.fits.kept;
    pieces = at.fits.pieces;
    no_pieces = at.fits.no_pieces;
  };
}

pub recorded : {X : Type 0} (file : List ℕ) (id lot : ℕ) (said : Said) (a b : State) (x : X) → id < 2 ^ 63 → FitsAnswer said → said.errno < 2 ^ 32
    → Makes {X = X} {E = Error} (put_kept (record { id = id; lot = lot; said = said })) a b (Ok x) → Turned file (with_record id lot said) a b
recorded file id lot said a b x low fits small p =
    let k : Kept = record { id = id; lot = lot; said = said } in
    lifted file (λ s. record s { kept = put_by kept_key k s.kept }) (with_record id lot said) a b (λ clean y at.
    (refl, at.holds.tree, at.holds.below, at.holds.next))
    (made (clean_file file) (put_kept k) (λ s. record s { kept = put_by kept_key k s.kept }) a b x (λ s c. record_comes k (record { id = low; said = fits; errno = small }) s file c) p)

-- ---- a request acts

pub acts : (v w : File) (m n : Option Meta) (e : Entry) (a b : State) (answer : Said) → Stays a b → StaysInside a b
    → ((s : TreeState) → Tree s → ActsInside (knowing m a v) (knowing n b w) s (done s e.asked e.moment) answer) → TurnedOver v w m n (with_act e) a b
acts v w m n e a b answer keeps within acted = record {
  stays = keeps;
  within = within;
  turns = λ read clean y at.
      let held = held_for v.bytes m y a at in
      let did = acted y.tree held.holds.tree clean read (store_of y) refl (told_in v.bytes y a held) at.holds.1 in
      record {
        is_open = did.inside.is_open;
        in_transaction = did.inside.in_transaction;
        holds = (record { tree = did.tree; below = held.holds.below; next = held.holds.next; held = did.inside.holds }, did.knows);
      };
}

-- ---- settled ids

settled_both : (xs ys : List Id) (y : Holding) → without_settled (ids_of (xs ++ ys)) y ≡ without_settled (ids_of ys) (without_settled (ids_of xs) y)
settled_both [] ys y = refl
settled_both (x ∷ xs) ys y = settled_both xs ys (without_record x.0 y)

abbrev no_id : Id
no_id = record { 0 = 0 }

-- the first one, and the first four
pub one_settled : (file : List ℕ) (ids : List Id) (a b : State) → 1 ≤ length ids → Turned file (without_record (slice_index_or ids 0 no_id).0) a b
    → Turned file (without_settled (ids_of (take 1 ids))) a b
one_settled file [] a b some p = absurd (omega (arith, some))
one_settled file (i ∷ ids) a b some p = p

pub four_settled : (file : List ℕ) (ids : List Id) (a b : State) → 4 ≤ length ids
    → Turned file (without_settled ((slice_index_or ids 0 no_id).0 ∷ (slice_index_or ids 1 no_id).0 ∷ (slice_index_or ids 2 no_id).0
    ∷ (slice_index_or ids 3 no_id).0 ∷ [])) a b
    → Turned file (without_settled (ids_of (take 4 ids))) a b
four_settled file [] a b four p = absurd (omega (arith, four))
four_settled file (i ∷ []) a b four p = absurd (omega (arith, four))
four_settled file (i ∷ j ∷ []) a b four p = absurd (omega (arith, four))
four_settled file (i ∷ j ∷ k ∷ []) a b four p = absurd (omega (arith, four))
four_settled file (i ∷ j ∷ k ∷ l ∷ ids) a b four p = p

-- those of the next ids too
pub settled_on : (file : List ℕ) (ids : List Id) (m n : ℕ) (a b d : State) → Turned file (without_settled (ids_of (take m ids))) a b
    → Turned file (without_settled (ids_of (take n (drop m ids)))) b d → Turned file (without_settled (ids_of (take (m + n) ids))) a d
settled_on file ids m n a b d p q = turned_same file (λ y. without_settled (ids_of (take n (drop m ids))) (without_settled (ids_of (take m ids)) y))
    (without_settled (ids_of (take (m + n) ids))) a d (λ y. sym (ap (λ l. without_settled (ids_of l) y) (take_plus m n ids)
    ∙ settled_both (take m ids) (take n (drop m ids)) y))
    (turned_then file (without_settled (ids_of (take m ids))) (without_settled (ids_of (take n (drop m ids)))) a b d p q)

-- ---- the next lot

below_more : (next : ℕ) (lots : List ℕ) → AreBelow next lots → AreBelow (next + 1) (put_by (λ n. n) next lots)
below_more next lots below =
    all_put (λ n. n) (λ n. n < next + 1) next lots (omega arith) (all_map (λ n. n < next) (λ n. n < next + 1) lots (λ n low. omega (arith, low)) below)

lot_set : (m : ℕ) (n : CountersRow) (s : Option Settings) (lot number : ℕ) (c : Content)
    → (set_counter 11 m (record c { counters = meta_rows_of n s lot number })).counters ≡ meta_rows_of n s m number
lot_set m n s lot number c = by n.room
  where
    by : (o : Option Room) → (set_counter 11 m (record c { counters = meta_rows_of (record n { room = o }) s lot number })).counters
        ≡ meta_rows_of (record n { room = o }) s m number
    by None = refl
    by (Some r) = refl

lot_comes : (n : ℕ) (x : Store) (file : List ℕ) (c : Content) → Describes x file c → n ≡ value_of c.counters 10
    → Describes (record x { lots = put_by (λ m. m) x.next_lot x.lots; next_lot = x.next_lot + 1 }) file (set_counter 11 (n + 1) (with_lot n c))
lot_comes n x file c at is =
    let same : n ≡ x.next_lot = is ∙ ap (λ cs. value_of cs 10) at.counters in
    record {
      counters = ap (λ cs. (set_counter 11 (n + 1) (record c { counters = cs })).counters) at.counters
          ∙ lot_set (n + 1) x.rows.counters x.rows.settings x.next_lot at.number c
          ∙ ap (λ m. meta_rows_of x.rows.counters x.rows.settings (m + 1) at.number) same;
      nodes = at.nodes;
      entries = at.entries;
      handles = at.handles;
      answers = at.answers;
      attributes = at.attributes;
      number = at.number;
      layout = at.layout;
      header = at.header;
      pieces = at.pieces;
      owned = at.owned;
      lots = ap (put_by (λ m. m) n) at.lots ∙ ap (λ k. put_by (λ m. m) k x.lots) same;
      kept = at.kept;
      bytes = at.bytes;
      written = at.written;
      within = at.within;
      pieces_within = at.pieces_within;
      settings = at.settings;
      fits = record { nodes = at.fits.nodes; entries = at.fits.entries; handles = at.fits.handles; blocks = at.fits.blocks; kept = at.fits.kept; pieces = at.fits.pieces; no_pieces = at.fits.no_pieces };
    }

pub lot_is : (file : List ℕ) (n : ℕ) (a : State) → ((c : Content) → Inside c a → n ≡ value_of c.counters 10) → (y : Holding) → InsideFor file y a → n ≡ y.next_lot
lot_is file n a value y at = value at.holds.held.0 (content_in file y a at) ∙ ap (λ cs. value_of cs 10) at.holds.held.2.counters

one_more : (n m : ℕ) → n ≡ m → n < 2 ^ 62 → m + 1 ≤ 2 ^ 62
one_more n m is low = omega (arith, is, low)

pub lot_taken : {X : Type 0} (file : List ℕ) (n : ℕ) (a b d : State) (x : X) → n < 2 ^ 62 → LookedInside a b
    → (HasCleanDisk b → (c : Content) → Inside c a → n ≡ value_of c.counters 10)
    → Makes {X = X} {E = Error} (λ c. set_counter 11 (n + 1) (with_lot n c)) b d (Ok x) → Turned file with_new_lot a d
lot_taken file n a b d x low looks value p =
    let next : Store → Store = λ s. record s { lots = put_by (λ m. m) s.next_lot s.lots; next_lot = s.next_lot + 1 } in
    lifted file next with_new_lot a d (λ clean y at. (
      refl,
      at.holds.tree,
      below_more y.next_lot y.lots at.holds.below,
      one_more n y.next_lot (lot_is file n a (value (earlier b d _ p.stays.survives clean)) y at) low,
    ))
    (made_known (clean_file file) (λ c. set_counter 11 (n + 1) (with_lot n c)) next a b d x looks p (λ mid s c inside at. lot_comes n s file c at (value mid c inside)))

-- ---- a request, whose id is looked up

abbrev pub IsKnown : ℕ → State → Option Said → Type 0
IsKnown id a r = (c : Content) → Inside c a → Fits c → r ≡ records_of c.kept id

pub known_is : (file : List ℕ) (id : ℕ) (a : State) (r : Option Said) → IsKnown id a r → (y : Holding) → InsideFor file y a → r ≡ records_of y.kept id
known_is file id a r found y at = found at.holds.held.0 (content_in file y a at) at.holds.held.2.fits ∙ ap (λ ks. records_of ks id) at.holds.held.2.kept

-- what was found of a kept one, in the place of what is recorded
pub record IsFound (V : Service) (id : ℕ) (e : Entry) (a : State) (r o : Option Said) : Type 0 where
  pub known : IsKnown id a r
  pub id_is : id ≡ entry_id e
  pub is : r ≡ o
  pub kept : is_seen V e ≡ false

found_is : (file : List ℕ) (V : Service) (id : ℕ) (e : Entry) (a : State) (r o : Option Said) → IsFound V id e a r o → (y : Holding) → InsideFor file y a
    → o ≡ records_of y.kept (entry_id e)
found_is file V id e a r o f y at = sym f.is ∙ known_is file id a r f.known y at ∙ ap (records_of y.kept) f.id_is

-- it is taken by what was found
taken_is : (file : List ℕ) (V : Service) (id lot : ℕ) (e : Entry) (a : State) (r o : Option Said) → IsFound V id e a r o → (y : Holding) → InsideFor file y a
    → taken_by o lot e y ≡ taken V lot e y
taken_is file V id lot e a r o f y at =
    ap (λ k. taken_by k lot e y) (found_is file V id e a r o f y at) ∙ ap (λ b. taken_if b lot e y) (sym f.kept)

pub took_known : (file : File) (V : Service) (m : Option Meta) (id lot : ℕ) (e : Entry) (a b : State) (r : Option Said) (known : Said) → LookedInside a b
    → (HasCleanDisk b → IsFound V id e a r (Some known)) → TurnedKnown file m m (λ y. (taken V lot e y).holding) a b
took_known file V m id lot e a b r known looks found = turned_known_same file m m (λ y. y) (λ y. (taken V lot e y).holding) a b
    (λ clean read y at. ap (λ t. t.holding) (taken_is file.bytes V id lot e a r (Some known) (found clean) y (held_for file.bytes m y a at))) (looked_known file m a b looks)

pub done_known : (file : List ℕ) (V : Service) (id lot : ℕ) (e : Entry) (a : State) (r : Option Said) (known : Said) → IsFound V id e a r (Some known) → (y : Holding)
    → InsideFor file y a → done_again known ≡ (taken V lot e y).done
done_known file V id lot e a r known found y at = ap (λ t. t.done) (taken_is file V id lot e a r (Some known) found y at)

pub took_new : (f w : File) (V : Service) (m n : Option Meta) (id lot : ℕ) (e : Entry) (a b d : State) (r : Option Said) → LookedInside a b
    → (HasCleanDisk b → IsFound V id e a r None) → (IsTrue w.is_clean → IsTrue f.is_clean) → TurnedOver f w m n (acted_on lot e) b d
    → TurnedOver f w m n (λ y. (taken V lot e y).holding) a d
took_new f w V m n id lot e a b d r looks found was p = turned_over_same f w m n (acted_on lot e) (λ y. (taken V lot e y).holding) a d
    (λ clean read y at. ap (λ t. t.holding) (taken_is f.bytes V id lot e a r None (found (earlier b d _ p.stays.survives clean)) y (held_for f.bytes m y a at)))
    (turned_over_then f f w m m n (λ y. y) (acted_on lot e) a b d was (turned_over_of f f m m (λ y. y) a b (still_read f) (looked_known f m a b looks)) p)

-- the request that is executed comes after a read, whether it succeeds or not
pub done_new : (f w : File) (V : Service) (m n : Option Meta) (id lot : ℕ) (e : Entry) (a b d : State) (r : Option Said) (done : Done) → LookedInside a b
    → (HasCleanDisk b → IsFound V id e a r None) → (IsTrue w.is_clean → IsTrue f.is_clean) → TurnedOver f w m n (acted_on lot e) b d → HasCleanDisk d
    → IsTrue w.is_clean → ((y : Holding) → InsideKnown f.bytes m y b → done ≡ done_newly (said_of e y)) → (y : Holding) → InsideKnown f.bytes m y a
    → done ≡ (taken V lot e y).done
done_new f w V m n id lot e a b d r done looks found was p clean read told y at =
    let mid = earlier b d _ p.stays.survives clean in
    told y ((looked_known f m a b looks).turns (was read) mid y at)
    ∙ ap (λ t. t.done) (taken_is f.bytes V id lot e a r None (found mid) y (held_for f.bytes m y a at))

-- ---- a request that acted, and its record

said_is : (v w : File) (m n : Option Meta) (e : Entry) (a b : State) (answer : Said) → ((s : TreeState) → Tree s → ActsInside (knowing m a v) (knowing n b w) s (done s e.asked e.moment) answer)
    → HasCleanDisk b → IsTrue w.is_clean → (y : Holding) → InsideKnown v.bytes m y a → answer ≡ said_of e y
said_is v w m n e a b answer acted clean read y at =
    let held = held_for v.bytes m y a at in
    (acted y.tree held.holds.tree clean read (store_of y) refl (told_in v.bytes y a held) at.holds.1).answer_is

pub acted_recorded : (v w : File) (m n : Option Meta) (id lot : ℕ) (e : Entry) (a b d : State) (answer : Said) → id ≡ entry_id e → Stays a b → StaysInside a b
    → ((s : TreeState) → Tree s → ActsInside (knowing m a v) (knowing n b w) s (done s e.asked e.moment) answer) → Turned w.bytes (with_record id lot answer) b d
    → TurnedOver v w m n (acted_on lot e) a d
acted_recorded v w m n id lot e a b d answer same keeps within acted p =
    turned_over_same v w m n (λ y. with_record id lot answer (with_act e y)) (acted_on lot e) a d
    (λ clean read y at. ap (λ i. with_record i lot answer (with_act e y)) same
    ∙ ap (λ said. with_record (entry_id e) lot said (with_act e y)) (said_is v w m n e a b answer acted (earlier b d _ p.stays.survives clean) read y at))
    (turned_over_then v w w m n n (with_act e) (with_record id lot answer) a b d (λ read. read) (acts v w m n e a b answer keeps within acted)
    (turned_over_of w w n n (with_record id lot answer) b d (still_read w) (turned_so w n (with_record id lot answer) b d (λ y. refl) p)))

pub answer_told : (v w : File) (m n : Option Meta) (id lot : ℕ) (e : Entry) (a b d : State) (answer : Said)
    → ((s : TreeState) → Tree s → ActsInside (knowing m a v) (knowing n b w) s (done s e.asked e.moment) answer) → Turned w.bytes (with_record id lot answer) b d → HasCleanDisk d
    → IsTrue w.is_clean → (y : Holding) → InsideKnown v.bytes m y a → done_newly answer ≡ done_newly (said_of e y)
answer_told v w m n id lot e a b d answer acted p clean read y at =
    ap done_newly (said_is v w m n e a b answer acted (earlier b d _ p.stays.survives clean) read y at)

-- ---- a request that is seen

-- a look by `plan`
pub looked_on : (file : File) (m n : Option Meta) (a b : State) → LookedInside a b
    → (HasCleanDisk b → (rows : Rows) → sees_in file.bytes a rows → Knows m rows → Knows n rows) → TurnedKnown file m n (λ y. y) a b
looked_on file m n a b looked knows = record {
  stays = looked.stays;
  within = looked.within;
  turns = λ read clean y at.
      let held = held_for file.bytes m y a at in
      known_for file.bytes n y b ((looked_for file.bytes a b looked).turns clean y held) (knows clean (rowed y.tree) (store_of y, told_in file.bytes y a held, refl) at.holds.1);
}

-- a seen one leaves what is held
pub took_seen : (f w : File) (V : Service) (m n : Option Meta) (lot : ℕ) (e : Entry) (a b : State) → is_seen V e ≡ true → TurnedOver f w m n (λ y. y) a b
    → TurnedOver f w m n (λ y. (taken V lot e y).holding) a b
took_seen f w V m n lot e a b seen p =
    turned_over_same f w m n (λ y. y) (λ y. (taken V lot e y).holding) a b (λ clean read y at. ap (λ b. (taken_if b lot e y).holding) (sym seen)) p

pub done_seen : (V : Service) (lot : ℕ) (e : Entry) (y : Holding) → is_seen V e ≡ true → done_newly (said_of e y) ≡ (taken V lot e y).done
done_seen V lot e y seen = ap (λ b. (taken_if b lot e y).done) (sym seen)
