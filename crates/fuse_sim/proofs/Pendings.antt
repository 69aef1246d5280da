-- The requests that are pending: sent, sent again, and taken.
use Rattle.std.proofs.Common.{◌≡◌, ◌≢◌, inl, inr, ℕ, zero, suc, ◌+◌, ◌<◌, ◌==◌, Bool, true, false, not, if◌then◌else◌, List, [], ◌∷◌, ◌++◌, length, ◌||◌}
use Rattle.std.proofs.Common.{take, drop, map, get_or, set, All, Vec, slice_get, zero-add, Option, Some, None, refl, sym, ap, subst, ◌∙◌, append_assoc, arith}
use Rattle.std.specs.Global.{Global}
use Rattle.std.specs.List.{AllByRecursion, remove}
use Rattle.std.specs.Option.{option_map}
use Rattle.std.proofs.lemmas.Bool.{eqb-true, eq-eqb, cases_Bool}
use Rattle.std.proofs.Math.Seq.{drop-cons}
use Rattle.std.proofs.lemmas.List.{take_at, drop_at, length-append, take-append-drop, length-take-le, append-nil, map-append, map-set, take_more, get_or-map}
use Rattle.std.proofs.lemmas.List.{length-map, take-map, drop-map}
use Rattle.std.proofs.lemmas.List.Elements.{All-append, All-get_or, All-take, All-drop, All-set, All-from_recursion, recursion_from_All, filter-append}
use Rattle.std.proofs.lemmas.Option.{slice_get-get_or}
use Rattle.fuse_wire.specs.Opcodes.{silent}
use Rattle.fuse_wire.specs.Bytes.{number_of}
use Rattle.fuse_wire.specs.Ids.{id_of}
use Rattle.fuse_request.specs.Act.{Asked}
use Rattle.fuse_request.specs.Canon.{canon}
use Rattle.fuse_request.specs.Places.{asked_at, SpelledAt}
use Rattle.fuse_request.specs.Spelling.{Spells}
use Rattle.fuse_keeper.specs.History.{is_in}
use Rattle.fuse_sim.specs.Pending.{MayBeSent, is_silent, request_id, request_ids, owed, sent_again, again_from, all_again, has_unique, owner, others, messages_in}
use Rattle.fuse_sim.specs.Pending.{requests_in}
use Rattle.fuse_sim.specs.KeptMessages.{IsOwed, NoneTwice, ArePending}
use Rattle.fuse_sim.specs.inner.Marking.{StandsFirst}
use Rattle.fuse_sim.proofs.Marks.{again_twice, same_id as same_request}

same_id : (n : ℕ) → (n == n) ≡ true
same_id n = grind arith

-- ---- the messages are those of the requests

canon_each : (ms : List (List ℕ)) → AllByRecursion IsOwed ms → ms ≡ map canon (map asked_at ms)
canon_each [] each = refl
canon_each (m ∷ ms) each = ap (λ (x : List ℕ). x ∷ ms) each.0.canon_is ∙ ap (λ (x : List (List ℕ)). canon (asked_at m) ∷ x) (canon_each ms each.1)

pub pending_canon : (pending : List (Vec ℕ Global)) → ArePending pending → messages_in pending ≡ map canon (requests_in pending)
pending_canon pending p = canon_each (messages_in pending) (recursion_from_All IsOwed (messages_in pending) p.each)

-- ---- one more is sent

is_in-append : (xs : List ℕ) (y i : ℕ) → is_in xs i ≡ false → (y == i) ≡ false → is_in (xs ++ y ∷ []) i ≡ false
is_in-append [] y i none isnt = rw isnt
is_in-append (x ∷ xs) y i none isnt =
    elim (x == i) as (λ b. (b || is_in xs i) ≡ false → (b || is_in (xs ++ y ∷ []) i) ≡ false)
    [ true ↦ λ is. absurd (cc is) | false ↦ λ rest. is_in-append xs y i rest isnt ] none

head_isnt : (x y : ℕ) (xs : List ℕ) → is_in (x ∷ xs) y ≡ false → ((y == x) ≡ false) × (is_in xs y ≡ false)
head_isnt x y xs none =
    elim (cases_Bool (x == y)) [
      | inl is ↦ absurd (let there : is_in (x ∷ xs) y ≡ true = rw is in cc)
      | inr isnt ↦ (grind arith, let rest : is_in (x ∷ xs) y ≡ is_in xs y = rw isnt in sym rest ∙ none)
    ]

NoneTwice-append : (xs : List ℕ) (y : ℕ) → NoneTwice xs → is_in xs y ≡ false → NoneTwice (xs ++ y ∷ [])
NoneTwice-append [] y once none = (refl, tt)
NoneTwice-append (x ∷ xs) y once none =
    let apart = head_isnt x y xs none in
    (is_in-append xs y x once.0 apart.0, NoneTwice-append xs y once.1 apart.1)

abbrev kept_if : List ℕ → List (List ℕ)
kept_if m = if silent (number_of 4 (drop 4 m)) then [] else m ∷ []

pub sent : SpelledAt → (old new : List (Vec ℕ Global)) (v : Asked) (m : List ℕ) → ArePending old → MayBeSent (requests_in old) v → Spells v m → m ≡ canon v
    → messages_in new ≡ messages_in old ++ kept_if m → ArePending new × (requests_in new ≡ requests_in old ++ owed v)
sent spelled old new v m p may spells is grown =
    let at = spelled v m spells in
    let says : asked_at m ≡ v = at.says in
    elim (cases_Bool (is_silent v)) [
      | inl quiet ↦
          let test : silent (number_of 4 (drop 4 m)) ≡ true = ap silent at.opcode ∙ quiet in
          let same : messages_in new ≡ messages_in old = grown ∙ ap (λ (b : Bool). messages_in old ++ (if b then [] else m ∷ [])) test
          ∙ append-nil (messages_in old) in (
            record {
              each = subst (All IsOwed) (sym same) p.each;
              once = subst (λ (x : List (List ℕ)). NoneTwice (request_ids (map asked_at x)))
                  (sym same) p.once;
            },
            ap (map asked_at) same ∙ sym (append-nil (requests_in old)) ∙ ap (λ (b : Bool). requests_in old ++ (if b then [] else v ∷ [])) (sym quiet),
          )
      | inr loud ↦
          let test : silent (number_of 4 (drop 4 m)) ≡ false = ap silent at.opcode ∙ loud in
          let one : messages_in new ≡ messages_in old ++ m ∷ [] = grown ∙ ap (λ (b : Bool). messages_in old ++ (if b then [] else m ∷ [])) test in
          let requests : requests_in new ≡ requests_in old ++ v ∷ [] =
          ap (map asked_at) one ∙ map-append asked_at (messages_in old) (m ∷ []) ∙ ap (λ (r : Asked). requests_in old ++ r ∷ []) says in
          let mine : IsOwed m = record {
            spells = subst (λ (r : Asked). Spells r m) (sym says) spells;
            canon_is = is ∙ ap canon (sym says);
            loud =
                ap is_silent says ∙ loud;
          } in
          let ids : request_ids (requests_in new) ≡ request_ids (requests_in old) ++ request_id v ∷ [] =
          ap request_ids requests ∙ map-append request_id (requests_in old) (v ∷ []) in (
            record {
              each = subst (All IsOwed) (sym one) (All-append IsOwed (messages_in old) (m ∷ []) p.each (All-from_recursion IsOwed (m ∷ []) (mine, tt)));
              once = subst NoneTwice (sym ids) (NoneTwice-append (request_ids (requests_in old)) (request_id v) p.once (may loud).1);
            },
            requests ∙ ap (λ (b : Bool). requests_in old ++ (if b then [] else v ∷ [])) (sym loud),
          )
    ]

-- ---- some are sent again

is_in-here : (xs : List ℕ) (i : ℕ) → is_in (xs ++ i ∷ []) i ≡ true
is_in-here [] i = rw same_id
is_in-here (x ∷ xs) i = elim (x == i) as (λ b. (b || is_in (xs ++ i ∷ []) i) ≡ true) [ true ↦ refl | false ↦ is_in-here xs i ]

is_in-other : (xs : List ℕ) (y i : ℕ) → (y == i) ≡ false → is_in (xs ++ y ∷ []) i ≡ is_in xs i
is_in-other [] y i isnt = rw isnt
is_in-other (x ∷ xs) y i isnt =
    elim (x == i) as (λ b. (b || is_in (xs ++ y ∷ []) i) ≡ (b || is_in xs i)) [ true ↦ refl | false ↦ is_in-other xs y i isnt ]

apart : (m n : ℕ) → m < n → (m == n) ≡ false
apart m n less = grind arith

again_past : (n m : ℕ) (places : List ℕ) (rs : List Asked) → m < n → again_from n (places ++ m ∷ []) rs ≡ again_from n places rs
again_past n m places [] less = refl
again_past n m places (r ∷ rs) less =
    rw (is_in-other places m n (apart m n less)) (ap (λ (x : List Asked). (if is_in places n then sent_again r else r) ∷ x)
    (again_past (suc n) m places rs (omega arith)))

again_by : (b : Bool) (r : Asked) → sent_again (if b then sent_again r else r) ≡ sent_again r
again_by true r = again_twice r
again_by false r = refl

-- one place more
again_step : (n k : ℕ) (places : List ℕ) (rs : List Asked) (d : Asked) → k < length rs
    → set (again_from n places rs) k (sent_again (get_or (again_from n places rs) k d)) ≡ again_from n (places ++ (n + k) ∷ []) rs
again_step n k places [] d less = absurd (omega arith)
again_step n zero places (r ∷ rs) d less =
    let here : n + 0 ≡ n = omega arith in
    rw (here, is_in-here places n) (
    ap (λ (x : Asked). x ∷ again_from (suc n) places rs) (again_by (is_in places n) r)
    ∙ ap (λ (x : List Asked). sent_again r ∷ x) (sym (again_past (suc n) n places rs (omega arith)))
    )
again_step n (suc k) places (r ∷ rs) d less =
    let next : n + suc k ≡ suc n + k = omega arith in
    let other : is_in (places ++ (suc n + k) ∷ []) n ≡ is_in places n = is_in-other places (suc n + k) n (grind arith) in
    rw (next, other) (ap (λ (x : List Asked). (if is_in places n then sent_again r else r) ∷ x) (again_step (suc n) k places rs d (omega arith)))

again_none : (n : ℕ) (rs : List Asked) → again_from n [] rs ≡ rs
again_none n [] = refl
again_none n (r ∷ rs) = ap (λ (x : List Asked). r ∷ x) (again_none (suc n) rs)

length-again : (n : ℕ) (places : List ℕ) (rs : List Asked) → length (again_from n places rs) ≡ length rs
length-again n places [] = refl
length-again n places (r ∷ rs) = omega (arith, length-again (suc n) places rs)

id_again : (b : Bool) (r : Asked) → request_id (if b then sent_again r else r) ≡ request_id r
id_again true r = same_request r
id_again false r = refl

pub ids_again : (n : ℕ) (places : List ℕ) (rs : List Asked) → request_ids (again_from n places rs) ≡ request_ids rs
ids_again n places [] = refl
ids_again n places (r ∷ rs) =
    ap (λ (i : ℕ). i ∷ request_ids (again_from (suc n) places rs)) (id_again (is_in places n) r)
    ∙ ap (λ (x : List ℕ). request_id r ∷ x) (ids_again (suc n) places rs)

length-requests : (pending : List (Vec ℕ Global)) → length (requests_in pending) ≡ length pending
length-requests pending = length-map (messages_in pending) asked_at ∙ length-map pending (λ (m : Vec ℕ Global). m.items)

message_at : (pending : List (Vec ℕ Global)) (i : ℕ) (d : Vec ℕ Global) → i < length pending → get_or (messages_in pending) i [] ≡ (get_or pending i d).items
message_at pending i d there = get_or-map (λ (m : Vec ℕ Global). m.items) pending i d [] there

request_at : (pending : List (Vec ℕ Global)) (i : ℕ) (d : Vec ℕ Global) → i < length pending
    → get_or (requests_in pending) i (asked_at []) ≡ asked_at (get_or pending i d).items
request_at pending i d there =
    let within : i < length (messages_in pending) = omega (arith, length-map pending (λ (m : Vec ℕ Global). m.items)) in
    get_or-map asked_at (messages_in pending) i [] (asked_at []) within ∙ ap asked_at (message_at pending i d there)

pub owed_at : (pending : List (Vec ℕ Global)) (i : ℕ) (d : Vec ℕ Global) → i < length pending → All IsOwed (messages_in pending)
    → IsOwed (get_or pending i d).items
owed_at pending i d there each =
    let within : i < length (messages_in pending) = omega (arith, length-map pending (λ (m : Vec ℕ Global). m.items)) in
    subst IsOwed (message_at pending i d there) (All-get_or IsOwed (messages_in pending) i [] within each)

pub found_at : (pending : List (Vec ℕ Global)) (i : ℕ) (d : Vec ℕ Global) → i < length pending
    → slice_get (requests_in pending) i ≡ Some (asked_at (get_or pending i d).items)
found_at pending i d there =
    slice_get-get_or (requests_in pending) i (asked_at []) (omega (arith, length-requests pending)) ∙ ap (λ (r : Asked). Some r) (request_at pending i d there)

-- one message more was marked
pub marked_more : (old pending : List (Vec ℕ Global)) (places : List ℕ) (i : ℕ) (d m : Vec ℕ Global) → i < length pending
    → requests_in pending ≡ all_again places (requests_in old)
    → asked_at m.items ≡ sent_again (asked_at (get_or pending i d).items) → requests_in (set pending i m) ≡ all_again (places ++ i ∷ []) (requests_in old)
marked_more old pending places i d m there so is =
    let rs : List Asked = requests_in old in
    let long : i < length rs = omega (arith, length-requests pending, length-again 0 places rs, ap length so) in
    let here : asked_at m.items ≡ sent_again (get_or (all_again places rs) i (asked_at [])) =
    is ∙ ap sent_again (sym (request_at pending i d there)) ∙ ap (λ (x : List Asked). sent_again (get_or x i (asked_at []))) so in
    ap (map asked_at) (map-set (λ (x : Vec ℕ Global). x.items) pending i m) ∙ map-set asked_at (messages_in pending) i m.items
    ∙ ap (λ (x : List Asked). set x i (asked_at m.items)) so ∙ ap (set (all_again places rs) i) here
    ∙ again_step 0 i places rs (asked_at []) long ∙ ap (λ (n : ℕ). all_again (places ++ n ∷ []) rs) (zero-add i)

pub marked_none : (pending : List (Vec ℕ Global)) → requests_in pending ≡ all_again [] (requests_in pending)
marked_none pending = sym (again_none 0 (requests_in pending))

pub owed_set : (pending : List (Vec ℕ Global)) (i : ℕ) (m : Vec ℕ Global) → IsOwed m.items → All IsOwed (messages_in pending)
    → All IsOwed (messages_in (set pending i m))
owed_set pending i m one each = subst (All IsOwed) (sym (map-set (λ (x : Vec ℕ Global). x.items) pending i m))
    (All-set IsOwed (messages_in pending) i m.items one each)

pub all_marked : (old new : List (Vec ℕ Global)) (places : List ℕ) → ArePending old → All IsOwed (messages_in new)
    → requests_in new ≡ all_again places (requests_in old) → ArePending new
all_marked old new places p each so = record { each = each; once = subst NoneTwice (sym (ap request_ids so ∙ ids_again 0 places (requests_in old))) p.once }

-- what sends a request again
abbrev sends_again : List (Vec ℕ Global) → ℕ → Option (List ℕ)
sends_again pending place = option_map (λ r. canon (sent_again r)) (slice_get (requests_in pending) place)

-- one message more was copied and marked
pub copied_more : (pending messages : List (Vec ℕ Global)) (places : List ℕ) (place : ℕ) (d m : Vec ℕ Global) → place < length pending → IsOwed m.items
    → asked_at m.items ≡ sent_again (asked_at (get_or pending place d).items)
    → map (λ x. Some x) (messages_in messages) ≡ map (sends_again pending) places
    → map (λ x. Some x) (messages_in (messages ++ m ∷ [])) ≡ map (sends_again pending) (places ++ place ∷ [])
copied_more pending messages places place d m there owed says so =
    let one : ◌≡◌ {A = Option (List ℕ)} (Some m.items) (sends_again pending place) =
    ap (λ (x : List ℕ). Some x) (owed.canon_is ∙ ap canon says) ∙ sym (ap (option_map (λ r. canon (sent_again r))) (found_at pending place d there)) in
    ap (map (λ (x : List ℕ). Some x)) (map-append (λ (x : Vec ℕ Global). x.items) messages (m ∷ []))
    ∙ map-append (λ (x : List ℕ). Some x) (messages_in messages) (m.items ∷ [])
    ∙ ap (λ (x : List (Option (List ℕ))). x ++ Some m.items ∷ []) so ∙ ap (λ (x : Option (List ℕ)). map (sends_again pending) places ++ x ∷ []) one
    ∙ sym (map-append (sends_again pending) places (place ∷ []))

-- ---- one is taken

owner-more : (unique : ℕ) (rs : List Asked) (r : Asked) → owner unique rs ≡ None → has_unique unique r ≡ false → owner unique (rs ++ r ∷ []) ≡ None
owner-more unique [] r none isnt = rw isnt
owner-more unique (x ∷ rs) r none isnt =
    elim (has_unique unique x) as (λ b. (if b then Some x else owner unique rs) ≡ None → (if b then Some x else owner unique (rs ++ r ∷ [])) ≡ None)
    [ true ↦ λ is. absurd (cc is) | false ↦ λ rest. owner-more unique rs r rest isnt ] none

-- the request at a place, and those before and after it
parted : (pending : List (Vec ℕ Global)) (place : ℕ) (d : Vec ℕ Global) → place < length pending
    → requests_in pending ≡ take place (requests_in pending) ++ asked_at (get_or pending place d).items ∷ drop (suc place) (requests_in pending)
parted pending place d there =
    let rs : List Asked = requests_in pending in
    let within : place < length rs = omega (arith, length-requests pending) in
    sym (take-append-drop place rs) ∙ ap (λ (x : List Asked). take place rs ++ x) (drop-cons rs place (asked_at []) within)
    ∙ ap (λ (r : Asked). take place rs ++ r ∷ drop (suc place) rs) (request_at pending place d there)

pub passed : (pending : List (Vec ℕ Global)) (unique place n : ℕ) (d : Vec ℕ Global) → place < length pending
    → owner unique (take place (requests_in pending)) ≡ None
    → n ≡ number_of 8 (drop 8 (get_or pending place d).items) → n ≢ unique → owner unique (take (place + 1) (requests_in pending)) ≡ None
passed pending unique place n d there before is isnt =
    let rs : List Asked = requests_in pending in
    let within : place < length rs = omega (arith, length-requests pending) in
    let other : has_unique unique (asked_at (get_or pending place d).items) ≡ false = ap (λ (x : ℕ). x == unique) (sym is) ∙ grind arith in
    ap (owner unique) (take_more rs place (asked_at []) within ∙ ap (λ (r : Asked). take place rs ++ r ∷ []) (request_at pending place d there))
    ∙ owner-more unique (take place rs) (asked_at (get_or pending place d).items) before other

pub stands_there : (pending : List (Vec ℕ Global)) (unique place n : ℕ) (d : Vec ℕ Global) → place < length pending
    → owner unique (take place (requests_in pending)) ≡ None
    → n ≡ number_of 8 (drop 8 (get_or pending place d).items) → n ≡ unique → StandsFirst unique (requests_in pending) (Some place)
stands_there pending unique place n d there before is same =
    let rs : List Asked = requests_in pending in (
      take place rs,
      asked_at (get_or pending place d).items,
      drop (suc place) rs,
      parted pending place d there,
      length-take-le place rs (omega (arith, length-requests pending)),
      before,
      ap (λ (x : ℕ). x == unique) (sym is ∙ same) ∙ same_id unique,
    )

remove_at : {A : Type 0} (before : List A) (one : A) (after : List A) (i : ℕ) → length before ≡ i → remove (before ++ one ∷ after) i ≡ before ++ after
remove_at before one after i long =
    ap (λ x. x ++ drop (suc i) (before ++ one ∷ after)) (take_at before (one ∷ after) i long)
    ∙ ap (λ x. before ++ x) (ap (λ x. drop (suc i) x) (sym (append_assoc before (one ∷ []) after)) ∙ drop_at (before ++ one ∷ []) after (suc i)
    (omega (arith, length-append before (one ∷ []), long)))

map-remove : {A B : Type 0} (f : A → B) (xs : List A) (i : ℕ) → map f (remove xs i) ≡ remove (map f xs) i
map-remove f xs i =
    map-append f (take i xs) (drop (suc i) xs) ∙ ap (λ x. x ++ map f (drop (suc i) xs)) (sym (take-map f i xs))
    ∙ ap (λ x. take i (map f xs) ++ x) (sym (drop-map f (suc i) xs))

is_in-less : (xs : List ℕ) (y : ℕ) (ys : List ℕ) (i : ℕ) → is_in (xs ++ y ∷ ys) i ≡ false → is_in (xs ++ ys) i ≡ false
is_in-less [] y ys i none = elim (y == i) as (λ b. (b || is_in ys i) ≡ false
    → is_in ys i ≡ false) [ true ↦ λ is. absurd (cc is) | false ↦ λ rest. rest ] none
is_in-less (x ∷ xs) y ys i none =
    elim (x == i) as (λ b. (b || is_in (xs ++ y ∷ ys) i) ≡ false → (b || is_in (xs ++ ys) i) ≡ false)
    [ true ↦ λ is. absurd (cc is) | false ↦ λ rest. is_in-less xs y ys i rest ] none

NoneTwice-less : (xs : List ℕ) (y : ℕ) (ys : List ℕ) → NoneTwice (xs ++ y ∷ ys) → NoneTwice (xs ++ ys) × (is_in ys y ≡ false)
NoneTwice-less [] y ys once = (once.1, once.0)
NoneTwice-less (x ∷ xs) y ys once = let rest = NoneTwice-less xs y ys once.1 in ((is_in-less xs y ys x once.0, rest.0), rest.1)

owner_of : (unique : ℕ) (before : List Asked) (one : Asked) (after : List Asked) → owner unique before ≡ None → has_unique unique one ≡ true
    → owner unique (before ++ one ∷ after) ≡ Some one
owner_of unique [] one after none is = rw is
owner_of unique (x ∷ before) one after none is =
    elim (has_unique unique x) as (λ b. (if b then Some x else owner unique before) ≡ None
    → (if b then Some x else owner unique (before ++ one ∷ after)) ≡ Some one)
    [ true ↦ λ found. absurd (cc found) | false ↦ λ rest. owner_of unique before one after rest is ] none

others_kept : (unique : ℕ) (r : Asked) (rs : List Asked) → has_unique unique r ≡ false → others unique rs ≡ rs → others unique (r ∷ rs) ≡ r ∷ rs
others_kept unique r rs isnt rest = rw isnt (ap (λ x. r ∷ x) rest)

others_before : (unique : ℕ) (rs : List Asked) → owner unique rs ≡ None → others unique rs ≡ rs
others_before unique [] none = refl
others_before unique (r ∷ rs) none = elim (cases_Bool (has_unique unique r)) [
  | inl is ↦ absurd (let found : owner unique (r ∷ rs) ≡ Some r = rw is in cc)
  | inr isnt ↦ let rest : owner unique (r ∷ rs) ≡ owner unique rs = rw isnt in others_kept unique r rs isnt (others_before unique rs (sym rest ∙ none))
]

-- two requests of one unique have one id
others_after : (unique : ℕ) (one : Asked) (rs : List Asked) → has_unique unique one ≡ true → is_in (request_ids rs) (request_id one) ≡ false
    → others unique rs ≡ rs
others_after unique one [] is none = refl
others_after unique one (r ∷ rs) is none =
    let apart = head_isnt (request_id r) (request_id one) (request_ids rs) none in
    elim (cases_Bool (has_unique unique r)) [
      | inl too ↦ absurd (let same : one.header.unique ≡ r.header.unique = eqb-true one.header.unique unique is ∙ sym (eqb-true r.header.unique unique too) in
          let equal : (request_id one == request_id r) ≡ true = eq-eqb (request_id one) (request_id r) (ap (λ (u : ℕ). id_of u) same) in cc)
      | inr isnt ↦ others_kept unique r rs isnt (others_after unique one rs is apart.1)
    ]

others_first : (unique : ℕ) (one : Asked) (rs : List Asked) → has_unique unique one ≡ true → others unique (one ∷ rs) ≡ others unique rs
others_first unique one rs is = rw is

get_or_after : {A : Type 0} (before : List A) (one : A) (after : List A) (d : A) → get_or (before ++ one ∷ after) (length before) d ≡ one
get_or_after [] one after d = refl
get_or_after (x ∷ before) one after d = get_or_after before one after d

-- a pending request, and what is pending without it
pub record Found (pending : List (Vec ℕ Global)) (unique place : ℕ) (m : List ℕ) : Type 0 where
  pub one : Asked
  pub there : place < length pending
  pub owner_is : owner unique (requests_in pending) ≡ Some one
  pub owed : IsOwed m
  pub is_one : asked_at m ≡ one
  pub left : requests_in (remove pending place) ≡ others unique (requests_in pending)
  pub others_pending : ArePending (remove pending place)

pub found : (pending : List (Vec ℕ Global)) (unique place : ℕ) (m : Vec ℕ Global) → ArePending pending
    → StandsFirst unique (requests_in pending) (Some place) → m ≡ get_or pending place m → Found pending unique place m.items
found pending unique place m p f here =
    let rs : List Asked = requests_in pending in
    let before = f.0 in let one = f.1 in let after = f.2 in
    let there : place < length pending =
    omega (arith, length-requests pending, ap length f.3, length-append before (one ∷ after), f.4) in
    let says : asked_at m.items ≡ one =
    ap (λ (x : Vec ℕ Global). asked_at x.items) here ∙ sym (request_at pending place m there)
    ∙ ap (λ (x : List Asked). get_or x place (asked_at [])) f.3 ∙ ap (λ (n : ℕ). get_or (before ++ one ∷ after) n (asked_at [])) (sym f.4)
    ∙ get_or_after before one after (asked_at []) in
    let owed = subst (λ (x : Vec ℕ Global). IsOwed x.items) (sym here) (owed_at pending place m there p.each) in
    let ids : request_ids rs ≡ request_ids before ++ request_id one ∷ request_ids after = ap request_ids f.3 ∙ map-append request_id before (one ∷ after) in
    let less = NoneTwice-less (request_ids before) (request_id one) (request_ids after) (subst NoneTwice ids p.once) in
    let left : requests_in (remove pending place) ≡ before ++ after =
    ap (map asked_at) (map-remove (λ (x : Vec ℕ Global). x.items) pending place) ∙ map-remove asked_at (messages_in pending) place
    ∙ ap (λ (x : List Asked). remove x place) f.3 ∙ remove_at before one after place f.4 in
    let kept : others unique rs ≡ before ++ after =
    ap (others unique) f.3 ∙ filter-append (λ r. not (has_unique unique r)) before (one ∷ after)
    ∙ ap (λ (x : List Asked). x ++ others unique (one ∷ after)) (others_before unique before f.5)
    ∙ ap (λ (x : List Asked). before ++ x) (others_first unique one after f.6 ∙ others_after unique one after f.6 less.1) in
    record {
      one = one;
      there = there;
      owner_is = ap (owner unique) f.3 ∙ owner_of unique before one after f.5 f.6;
      owed = owed;
      is_one = says;
      left = left ∙ sym kept;
      others_pending = record {
        each = subst (All IsOwed) (sym (map-remove (λ (x : Vec ℕ Global). x.items) pending place))
            (All-append IsOwed (take place (messages_in pending)) (drop (suc place) (messages_in pending)) (All-take IsOwed place (messages_in pending) p.each)
            (All-drop IsOwed (suc place) (messages_in pending) p.each));
        once = subst NoneTwice (sym (ap request_ids left ∙ map-append request_id before after)) less.0;
      };
    }

-- ---- whether an id is pending

is_in-among : (xs : List ℕ) (y : ℕ) (ys : List ℕ) (i : ℕ) → (y == i) ≡ true → is_in (xs ++ y ∷ ys) i ≡ true
is_in-among [] y ys i is = rw is
is_in-among (x ∷ xs) y ys i is = elim (x == i) as (λ b. (b || is_in (xs ++ y ∷ ys) i) ≡ true) [ true ↦ refl | false ↦ is_in-among xs y ys i is ]

pub id_passed : (pending : List (Vec ℕ Global)) (place id : ℕ) (m : Vec ℕ Global) → place < length pending → m ≡ get_or pending place m
    → is_in (request_ids (take place (requests_in pending))) id ≡ false
    → (id_of (number_of 8 (drop 8 m.items)) == id) ≡ false → is_in (request_ids (take (place + 1) (requests_in pending))) id ≡ false
id_passed pending place id m there here before isnt =
    let rs : List Asked = requests_in pending in
    let within : place < length rs = omega (arith, length-requests pending) in
    let one : get_or rs place (asked_at []) ≡ asked_at m.items = request_at pending place m there ∙ ap (λ (x : Vec ℕ Global). asked_at x.items) (sym here) in
    ap (λ (x : List ℕ). is_in x id)
    (ap request_ids (take_more rs place (asked_at []) within ∙ ap (λ (r : Asked). take place rs ++ r ∷ []) one)
    ∙ map-append request_id (take place rs) (asked_at m.items ∷ []))
    ∙ is_in-append (request_ids (take place rs)) (request_id (asked_at m.items)) id before isnt

pub id_here : (pending : List (Vec ℕ Global)) (place id : ℕ) (m : Vec ℕ Global) → place < length pending → m ≡ get_or pending place m
    → (id_of (number_of 8 (drop 8 m.items)) == id) ≡ true
    → is_in (request_ids (requests_in pending)) id ≡ true
id_here pending place id m there here is =
    let rs : List Asked = requests_in pending in
    let split : rs ≡ take place rs ++ asked_at m.items ∷ drop (suc place) rs = parted pending place m there
    ∙ ap (λ (x : Vec ℕ Global). take place rs ++ asked_at x.items ∷ drop (suc place) rs) (sym here) in
    ap (λ (x : List Asked). is_in (request_ids x) id) split ∙ ap (λ (x : List ℕ). is_in x id)
    (map-append request_id (take place rs) (asked_at m.items ∷ drop (suc place) rs))
    ∙ is_in-among (request_ids (take place rs)) (request_id (asked_at m.items)) (request_ids (drop (suc place) rs)) id is
