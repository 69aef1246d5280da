-- When a data file serves two lists of pieces, and how that goes on.
use Rattle.std.proofs.Common.{◌≡◌, ℕ, Bool, List, [], ◌∷◌, ◌++◌, sym, subst, inl, inr, arith}
use Rattle.std.specs.Prelude.{slice_index_or, Option, Some, None}
use Rattle.std.specs.Option.{option_to_list}
use Rattle.std.specs.List.{All, AllPairs}
use Rattle.std.specs.List.Sorted.{IsPermutation}
use Rattle.std.proofs.lemmas.List.Elements.{All-cons, All-nil, All-append, All-weaker, All-contains, Contains-append_left, Contains-append_right, Contains-append_cases, Contains-get_or}
use Rattle.std.proofs.lemmas.List.Sorted.{All-permutation, Contains-permutation, IsPermutation-sym}
use Rattle.std.proofs.lemmas.List.Kept.{AllPairs-cons}
use Rattle.sqlite_disk.specs.Disk.{Follows, Only}
use Rattle.fuse_data.specs.declared.extent.Extent.{Extent}
use Rattle.fuse_data.specs.declared.gaps.Gap.{Gap}
use Rattle.fuse_data.specs.Extents.{IsPlaced, AreDisjoint, IsWhole}
use Rattle.fuse_data.specs.Leaving.{KeepsInUse, AreSafe}
use Rattle.fuse_data.specs.Space.{InUse, AllInUse}
use Rattle.fuse_data.specs.State.{DataState}
use Rattle.guest_values.specs.declared.large_value.LargeValue.{LargeValue}
use Rattle.guest_values.specs.Serving.{ValuesState, AreListed, AreHeld, ServesPieces, RestsOn}
use Rattle.guest_values.specs.Space.{ShareNoBlock, FreesSome}
use Rattle.guest_values.specs.State.{GivesBack, HasWritten, KeepsUsed, ChangesSpace}
use Rattle.guest_values.specs.Values.{IsFitValue, HasRest, value_blocks, value_pieces}
use Rattle.guest_values.proofs.ByPlaces.{pairs_permuted}
use Rattle.guest_values.proofs.Keeping.{kept_same}
use Rattle.guest_values.proofs.Lists.{all_left, all_right, pairs_right, pairs_across, pairs_joined, listed_at, turned, free_apart, frees_used, apart_from}

abbrev pub over : DataState → List Extent → List Extent → ValuesState
over s put gone = record { contents = s; put = put; gone = gone }

-- ---- over a change in free blocks

whole_kept : (ps : List Extent) (gaps : List Gap) (a b : List ℕ) → KeepsInUse gaps a b → AllInUse gaps ps → All (IsWhole a) ps → All (IsWhole b) ps
whole_kept ps gaps a b kept used whole k d low = (kept.extents (slice_index_or ps k d) (used k d low) (whole k d low)).whole

module _ (s t : DataState) (others : (q : Extent) → InUse s.gaps q → InUse t.gaps q) (kept : KeepsInUse s.gaps s.seen t.seen) (crash : Follows (KeepsInUse s.gaps) s.may_leave t.may_leave) where
  pub listed_by : (ps : List Extent) → AreListed ps s → AreListed ps t
  listed_by ps l = record {
    whole = whole_kept ps s.gaps s.seen t.seen kept l.used l.whole;
    used = All-weaker (InUse s.gaps) (InUse t.gaps) others ps l.used;
    apart = l.apart;
  }

  pub held_by : (ps : List Extent) → AreHeld ps s → AreHeld ps t
  held_by ps h = record { placed = h.placed; used = All-weaker (InUse s.gaps) (InUse t.gaps) others ps h.used }

  pub safe_by : (ps : List Extent) → AllInUse s.gaps ps → AreSafe ps s.may_leave → AreSafe ps t.may_leave
  safe_by ps used safe c may =
      let (d, was, keeps) = crash c may in
      whole_kept ps s.gaps d c keeps used (safe d was)

  pub serves_by : (committed now put gone : List Extent) → ServesPieces committed now (over s put gone) → ServesPieces committed now (over t put gone)
  serves_by committed now put gone h = record {
    last = listed_by committed h.last;
    current = listed_by now h.current;
    safe = safe_by committed h.last.used h.safe;
    known = h.known;
    put = held_by put h.put;
    put_apart = h.put_apart;
    gone = held_by gone h.gone;
    gone_apart = h.gone_apart;
  }

  pub rests_by : (listed put gone : List Extent) → RestsOn listed (over s put gone) → RestsOn listed (over t put gone)
  rests_by listed put gone h = record { lists = listed_by listed h.lists; safe = safe_by listed h.lists.used h.safe; put = h.put; gone = h.gone }

pub serves_kept : (s t : DataState) → KeepsUsed s t → (committed now put gone : List Extent) → ServesPieces committed now (over s put gone) → ServesPieces committed now (over t put gone)
serves_kept s t keeps = serves_by s t keeps.others keeps.kept keeps.crash

-- the file and its free space are as they were, and a crash leaves no more
module _ (s t : DataState) (seen : t.seen ≡ s.seen) (gaps : t.gaps ≡ s.gaps) (fewer : (c : List ℕ) → t.may_leave c → s.may_leave c) where
  same_used : (q : Extent) → InUse s.gaps q → InUse t.gaps q
  same_used q used = subst (λ (g : List Gap). InUse g q) (sym gaps) used

  same_kept : KeepsInUse s.gaps s.seen t.seen
  same_kept = subst (KeepsInUse s.gaps s.seen) (sym seen) (kept_same s.gaps s.seen)

  same_crash : Follows (KeepsInUse s.gaps) s.may_leave t.may_leave
  same_crash c may = (c, fewer c may, kept_same s.gaps c)

  pub serves_same : (committed now put gone : List Extent) → ServesPieces committed now (over s put gone) → ServesPieces committed now (over t put gone)
  serves_same = serves_by s t same_used same_kept same_crash

  pub rests_same : (listed put gone : List Extent) → RestsOn listed (over s put gone) → RestsOn listed (over t put gone)
  rests_same = rests_by s t same_used same_kept same_crash

-- ---- a value is put

rest_apart : (first : Extent) (blocks : ℕ) (second : Option Extent) → HasRest first blocks second → AllPairs AreDisjoint (first ∷ option_to_list second)
rest_apart first blocks None rest = AllPairs-cons AreDisjoint first [] (All-nil (AreDisjoint first)) (λ i j d before low. absurd (omega (arith, low)))
rest_apart first blocks (Some second) rest =
    AllPairs-cons AreDisjoint first (second ∷ []) (All-cons (AreDisjoint first) second [] rest.2 (All-nil (AreDisjoint first)))
    (AllPairs-cons AreDisjoint second [] (All-nil (AreDisjoint second)) (λ i j d before low. absurd (omega (arith, low))))

pub pieces_apart : (v : LargeValue) → IsFitValue v → AllPairs AreDisjoint (value_pieces v)
pieces_apart v fit = rest_apart v.first (value_blocks v.len) v.second fit.rest

written_used : (ps : List Extent) (s t : DataState) → HasWritten ps s t → AllInUse t.gaps ps
written_used ps s t w k d low b block free = ((w.taken b).0 free).1 (listed_at ps k d b low block)

-- they share no block with what was in use
written_apart : (ps qs : List Extent) (s t : DataState) → HasWritten ps s t → All IsPlaced qs → AllInUse s.gaps qs → ShareNoBlock ps qs
written_apart ps qs s t w placed used k d low i e low' =
    free_apart s.gaps (slice_index_or ps k d) (slice_index_or qs i e) (w.whole k d low).placed.some (placed i e low').some (w.free k d low) (used i e low')

apart_turned : (ps qs : List Extent) → ShareNoBlock ps qs → ShareNoBlock qs ps
apart_turned ps qs apart i e low k d low' = turned (slice_index_or ps k d) (slice_index_or qs i e) (apart k d low' i e low)

placed_of : (file : List ℕ) (ps : List Extent) → All (IsWhole file) ps → All IsPlaced ps
placed_of file ps whole k d low = (whole k d low).placed

joined_listed : (ps qs : List Extent) (s : DataState) → AllPairs AreDisjoint ps → All (IsWhole s.seen) ps → AllInUse s.gaps ps → ShareNoBlock ps qs → AreListed qs s → AreListed (ps ++ qs) s
joined_listed ps qs s pairs whole used across l = record {
  whole = All-append (IsWhole s.seen) ps qs whole l.whole;
  used = All-append (InUse s.gaps) ps qs used l.used;
  apart = pairs_joined AreDisjoint ps qs pairs l.apart across;
}

pub serves_put : (s t : DataState) (ps committed now put gone : List Extent) → AllPairs AreDisjoint ps → KeepsUsed s t → HasWritten ps s t → ServesPieces committed now (over s put gone)
    → ServesPieces committed (ps ++ now) (over t (put ++ ps) gone)
serves_put s t ps committed now put gone pairs keeps w h =
    let was = serves_kept s t keeps committed now put gone h in
    let used = written_used ps s t w in
    let from_now = written_apart ps now s t w (placed_of s.seen now h.current.whole) h.current.used in
    let from_committed = written_apart ps committed s t w (placed_of s.seen committed h.last.whole) h.last.used in
    let from_gone = written_apart ps gone s t w h.gone.placed h.gone.used in
    record {
      last = was.last;
      current = joined_listed ps now t pairs w.whole used from_now was.current;
      safe = was.safe;
      known = λ p has. elim (Contains-append_cases ps now p has) [
        | inl mine ↦ inr (Contains-append_right put ps p mine)
        | inr old ↦ elim (h.known p old) [ inl there ↦ inl there | inr before ↦ inr (Contains-append_left put ps p before) ]
      ];
      put = record { placed = All-append IsPlaced put ps h.put.placed (placed_of t.seen ps w.whole); used = All-append (InUse t.gaps) put ps was.put.used used };
      put_apart = All-append (λ p. All (AreDisjoint p) committed) put ps h.put_apart from_committed;
      gone = was.gone;
      gone_apart = λ k d low. All-append (AreDisjoint (slice_index_or gone k d)) ps now (apart_turned ps gone from_gone k d low) (h.gone_apart k d low);
    }

-- ---- a value is taken away

pub serves_taken : (s : DataState) (ps committed now put gone : List Extent) → ServesPieces committed (ps ++ now) (over s put gone) → ServesPieces committed now (over s put (gone ++ ps))
serves_taken s ps committed now put gone h = record {
  last = h.last;
  current = record { whole = all_right (IsWhole s.seen) ps now h.current.whole; used = all_right (InUse s.gaps) ps now h.current.used; apart = pairs_right AreDisjoint ps now h.current.apart };
  safe = h.safe;
  known = λ p has. h.known p (Contains-append_right ps now p has);
  put = h.put;
  put_apart = h.put_apart;
  gone = record {
    placed = All-append IsPlaced gone ps h.gone.placed (λ k d low. (all_left (IsWhole s.seen) ps now h.current.whole k d low).placed);
    used = All-append (InUse s.gaps) gone ps h.gone.used (all_left (InUse s.gaps) ps now h.current.used);
  };
  gone_apart = All-append (λ p. All (AreDisjoint p) now) gone ps (λ k d low. all_right (AreDisjoint (slice_index_or gone k d)) ps now (h.gone_apart k d low))
      (pairs_across AreDisjoint ps now h.current.apart);
}

-- ---- before and after a commit

pub safe_synced : (s t : DataState) (ps : List Extent) → t.seen ≡ s.seen → Only s.seen t.may_leave → AreListed ps s → AreSafe ps t.may_leave
safe_synced s t ps same only l c may = subst (λ file. All (IsWhole file) ps) (sym (only c may)) l.whole

-- where nothing was put
pub safe_known : (committed now gone : List Extent) (s : DataState) → ServesPieces committed now (over s [] gone) → AreSafe now s.may_leave
safe_known committed now gone s h c may k d low =
    let p = slice_index_or now k d in
    elim (h.known p (Contains-get_or now k d low)) [
      | inl there ↦ All-contains (IsWhole c) committed p (h.safe c may) there
      | inr none ↦ absurd (omega (arith, none.1))
    ]

freed_listed : (gs ps : List Extent) (s t : DataState) → ChangesSpace s t → FreesSome gs s.gaps t.gaps → ShareNoBlock gs ps → AreListed ps s → AreListed ps t
freed_listed gs ps s t relists frees apart l = record {
  whole = subst (λ file. All (IsWhole file) ps) (sym relists.seen) l.whole;
  used = λ k d low. frees_used gs (slice_index_or ps k d) s.gaps t.gaps frees (apart_from gs ps (slice_index_or ps k d) apart (Contains-get_or ps k d low)) (l.used k d low);
  apart = l.apart;
}

pub rests_freed : (gs ps put gone : List Extent) (all : Bool) (s t : DataState) → GivesBack gs all s t → ShareNoBlock gs ps → put ≡ [] → gone ≡ [] → AreListed ps s → AreSafe ps s.may_leave
    → RestsOn ps (over t put gone)
rests_freed gs ps put gone all s t gives apart no_put no_gone l safe = record {
  lists = freed_listed gs ps s t gives.relists gives.frees apart l;
  safe = λ c may. safe c (gives.relists.crash c may);
  put = no_put;
  gone = no_gone;
}

-- ---- at rest

-- the free space was found anew, from the same pieces in another order
pub rests_found : (s t : DataState) (ps listed put gone : List Extent) → t.seen ≡ s.seen → ((c : List ℕ) → t.may_leave c → s.may_leave c) → AllInUse t.gaps listed → IsPermutation ps listed
    → RestsOn ps (over s put gone) → RestsOn ps (over t put gone)
rests_found s t ps listed put gone seen fewer used same h = record {
  lists = record {
    whole = subst (λ file. All (IsWhole file) ps) (sym seen) h.lists.whole;
    used = All-permutation (InUse t.gaps) listed ps (IsPermutation-sym ps listed same) used;
    apart = h.lists.apart;
  };
  safe = λ c may. h.safe c (fewer c may);
  put = h.put;
  gone = h.gone;
}

-- ---- laws

apart_none : (ps : List Extent) → ShareNoBlock [] ps
apart_none ps = All-nil (λ p. All (AreDisjoint p) ps)

held_none : (s : DataState) → AreHeld [] s
held_none s = record { placed = All-nil IsPlaced; used = All-nil (InUse s.gaps) }

pub serves_begun : (s : DataState) (listed put gone : List Extent) → RestsOn listed (over s put gone) → ServesPieces listed listed (over s put gone)
serves_begun s listed put gone h = record {
  last = h.lists;
  current = h.lists;
  safe = h.safe;
  known = λ p has. inl has;
  put = subst (λ ps. AreHeld ps s) (sym h.put) (held_none s);
  put_apart = subst (λ ps. ShareNoBlock ps listed) (sym h.put) (apart_none listed);
  gone = subst (λ ps. AreHeld ps s) (sym h.gone) (held_none s);
  gone_apart = subst (λ ps. ShareNoBlock ps listed) (sym h.gone) (apart_none listed);
}

pub serves_ordered : (s : DataState) (committed now others put gone : List Extent) → IsPermutation now others → ServesPieces committed now (over s put gone)
    → ServesPieces committed others (over s put gone)
serves_ordered s committed now others put gone same h = record {
  last = h.last;
  current = record {
    whole = All-permutation (IsWhole s.seen) now others same h.current.whole;
    used = All-permutation (InUse s.gaps) now others same h.current.used;
    apart = pairs_permuted AreDisjoint turned now others same h.current.apart;
  };
  safe = h.safe;
  known = λ p has. h.known p (Contains-permutation others now p (IsPermutation-sym now others same) has);
  put = h.put;
  put_apart = h.put_apart;
  gone = h.gone;
  gone_apart = λ k d low. All-permutation (AreDisjoint (slice_index_or gone k d)) now others same (h.gone_apart k d low);
}

-- ---- with what a call noted

pub put_served : (s t : DataState) (v : LargeValue) (committed now put more gone : List Extent) → more ≡ put ++ value_pieces v → IsFitValue v → KeepsUsed s t → HasWritten (value_pieces v) s t
    → ServesPieces committed now (over s put gone) → ServesPieces committed (value_pieces v ++ now) (over t more gone)
put_served s t v committed now put more gone is fit keeps w h =
    subst (λ (ps : List Extent). ServesPieces committed (value_pieces v ++ now) (over t ps gone)) (sym is) (serves_put s t (value_pieces v) committed now put gone (pieces_apart v fit) keeps w h)

pub put_unnoted : (s t : DataState) (committed now put same gone : List Extent) → same ≡ put → KeepsUsed s t → ServesPieces committed now (over s put gone) → ServesPieces committed now (over t same gone)
put_unnoted s t committed now put same gone is keeps h =
    subst (λ (ps : List Extent). ServesPieces committed now (over t ps gone)) (sym is) (serves_kept s t keeps committed now put gone h)

pub taken_served : (s : DataState) (ps committed now put gone more : List Extent) → more ≡ gone ++ ps → ServesPieces committed (ps ++ now) (over s put gone) → ServesPieces committed now (over s put more)
taken_served s ps committed now put gone more is h =
    subst (λ (gs : List Extent). ServesPieces committed now (over s put gs)) (sym is) (serves_taken s ps committed now put gone h)

pub untaken_served : (s : DataState) (committed now put gone same : List Extent) → same ≡ gone → ServesPieces committed now (over s put gone) → ServesPieces committed now (over s put same)
untaken_served s committed now put gone same is h = subst (λ (gs : List Extent). ServesPieces committed now (over s put gs)) (sym is) h

pub safe_unput : (committed now put gone : List Extent) (s : DataState) → put ≡ [] → ServesPieces committed now (over s put gone) → AreSafe now s.may_leave
safe_unput committed now put gone s is h = safe_known committed now gone s (subst (λ (ps : List Extent). ServesPieces committed now (over s ps gone)) is h)
