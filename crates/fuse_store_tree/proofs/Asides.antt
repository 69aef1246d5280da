-- What is written to the data file before a transaction, one extent after another.
use Rattle.std.proofs.Common.{◌≡◌, ◌≢◌, ◌⊎◌, ◌≤◌, ◌<◌, ◌+◌, ◌-◌, ◌*◌, ◌==◌, ◌&&◌, inl, inr, ℕ, zero, suc, List, [], ◌∷◌, ◌++◌, take, drop, length, not, nat_lt}
use Rattle.std.proofs.Common.{Bool, true, false, refl, sym, ap, subst, arith, ◌∙◌}
use Rattle.std.specs.Prelude.{◌||◌, nat_le, get_or, set, slice_index_or}
use Rattle.std.specs.List.{All, list_any}
use Rattle.std.proofs.lemmas.Bool.{cases_Bool, cases_lt}
use Rattle.std.proofs.lemmas.Bool.Decides.{nat_tests}
use Rattle.std.proofs.lemmas.List.{get_or_append_left, get_or_push, length-append, get_or-set_same, get_or-set_other, get_or_default, get_or-map, length-set, length-drop, length-take-le}
use Rattle.std.proofs.lemmas.List.Folds.{list_any_none}
use Rattle.std.proofs.lemmas.List.Elements.{All-push, All-weaker}
use Rattle.sqlite_disk.specs.Disk.{Follows}
use Rattle.fuse_rows.specs.Bounds.{block_bytes}
use Rattle.fuse_data.specs.declared.extent.Extent.{Extent}
use Rattle.fuse_data.specs.declared.gaps.Gap.{Gap}
use Rattle.fuse_data.specs.Extents.{past, IsBlockOf, IsPlaced, IsWhole, IsKept, AreDisjoint, bytes_of}
use Rattle.fuse_data.specs.Header.{HasHeader}
use Rattle.fuse_data.specs.Leaving.{KeepsInUse}
use Rattle.fuse_data.specs.Space.{IsFreeBlock, IsFreeExtent, InUse, TakesOut}
use Rattle.fuse_data.specs.State.{DataState}
use Rattle.fuse_request.specs.Act.{Act, Write}
use Rattle.fuse_wire.specs.declared.moment.Moment.{Moment}
use Rattle.fuse_request.specs.declared.request.Request.{Request}
use Rattle.fuse_keeper.specs.Group.{entry_of, entries_of}
use Rattle.fuse_keeper.specs.History.{Entry}
use Rattle.fuse_store_tree.specs.declared.store_data.Written.{Written}
use Rattle.fuse_store_tree.specs.declared.made.MadePiece.{MadePiece}
use Rattle.fuse_store_tree.specs.Viewing.{is_in_gap, is_block_of, is_unlisted_at, is_hidden, shown}
use Rattle.fuse_store_tree.specs.inner.Preparing.{HidesNone, ShareNone, IsHeldBack, WritesAside, IsAside, IsMade, IsMadeAside, IsPartOf, IsFor, AreForEach, made_part}
use Rattle.fuse_store_tree.proofs.Views.{IsOpen, bytes_len, whole_open, open_parts, open_of, unfound, unfree, view_kept, first_open, whole_view, open_same, low_of, high_of, both_of}

-- ---- blocks that are held back

any_more : {X : Type 0} (p : X → Bool) (xs : List X) (x : X) → list_any p (xs ++ x ∷ []) ≡ (list_any p xs || p x)
any_more p [] x = by (p x)
  where
    by : (b : Bool) → (b || false) ≡ (false || b)
    by true = refl
    by false = refl
any_more p (y ∷ xs) x = ap (λ t. p y || t) (any_more p xs x) ∙ by (p y) (list_any p xs) (p x)
  where
    by : (a b c : Bool) → (a || (b || c)) ≡ ((a || b) || c)
    by true b c = refl
    by false b c = refl

or_left : (x y : Bool) → x ≡ true → (x || y) ≡ true
or_left true y is = refl
or_left false y is = absurd cc

or_right : (x y : Bool) → y ≡ true → (x || y) ≡ true
or_right true y is = refl
or_right false y is = is

or_cases : (x y : Bool) → (x || y) ≡ true → (x ≡ true) ⊎ (y ≡ true)
or_cases true y is = inl refl
or_cases false y is = inr is

abbrev pub fresh : Extent → Written
fresh e = record { extent = e; listed = false }

pub not_true : (b : Bool) → not b ≡ true → b ≡ false
not_true true is = absurd cc
not_true false is = refl

pub not_false : (b : Bool) → not b ≡ false → b ≡ true
not_false true is = refl
not_false false is = absurd cc

-- of a place that isn't there
abbrev pub no_extent : Written
no_extent = record { extent = record { place = 0; count = 0; sum = 0 }; listed = false }

block_tests : (e : Extent) (b : ℕ) → is_block_of e b ≡ true → IsBlockOf e b
block_tests e b is = (low_of e.place b (nat_lt b (past e)) is, high_of b (past e) (nat_le e.place b) is)

block_is : (e : Extent) (b : ℕ) → IsBlockOf e b → is_block_of e b ≡ true
block_is e b at = both_of e.place b (past e) at.0 at.1

held_more : (ws : List Written) (e : Extent) (b : ℕ) → IsHeldBack (ws ++ fresh e ∷ []) b → IsHeldBack ws b ⊎ IsBlockOf e b
held_more ws e b is = elim (or_cases (list_any (is_unlisted_at b) ws) (is_block_of e b) (sym (any_more (is_unlisted_at b) ws (fresh e)) ∙ is)) [
  | inl before ↦ inl before
  | inr here ↦ inr (block_tests e b here)
]

held_before : (ws : List Written) (e : Extent) (b : ℕ) → IsHeldBack ws b → IsHeldBack (ws ++ fresh e ∷ []) b
held_before ws e b is = any_more (is_unlisted_at b) ws (fresh e) ∙ or_left (list_any (is_unlisted_at b) ws) (is_block_of e b) is

held_new : (ws : List Written) (e : Extent) (b : ℕ) → IsBlockOf e b → IsHeldBack (ws ++ fresh e ∷ []) b
held_new ws e b at = any_more (is_unlisted_at b) ws (fresh e) ∙ or_right (list_any (is_unlisted_at b) ws) (is_block_of e b) (block_is e b at)

-- ---- steps

pub kept_itself : (gaps : List Gap) (file : List ℕ) → KeepsInUse gaps file file
kept_itself gaps file = record { header = λ store had. had; extents = λ e used whole. record { whole = whole; same = refl } }

pub kept_then : (g h : List Gap) (a b d : List ℕ) → ((i : ℕ) → IsFreeBlock h i → IsFreeBlock g i) → KeepsInUse g a b → KeepsInUse h b d → KeepsInUse g a d
kept_then g h a b d free p q = record {
  header = λ store had. q.header store (p.header store had);
  extents = λ e used whole.
      let first = p.extents e used whole in
      let second = q.extents e (λ i block is. used i block (free i is)) first.whole in
      record { whole = second.whole; same = second.same ∙ first.same };
}

pub aside_still : (s : DataState) (ws : List Written) → WritesAside s s ws ws
aside_still s ws = record {
  kept = kept_itself s.gaps s.seen;
  crash = λ file may. (file, may, kept_itself s.gaps file);
  free = λ b is. is;
  held = λ b is. inl is;
  still = λ b is. is;
  grows = omega arith;
  clean = refl;
  usable = refl;
}

pub aside_then : (a b d : DataState) (ws us vs : List Written) → WritesAside a b ws us → WritesAside b d us vs → WritesAside a d ws vs
aside_then a b d ws us vs p q = record {
  kept = kept_then a.gaps b.gaps a.seen b.seen d.seen p.free p.kept q.kept;
  crash = λ file may.
      let mid = q.crash file may in
      let first = p.crash mid.0 mid.1 in
      (first.0, first.1, kept_then a.gaps b.gaps first.0 mid.0 file p.free first.2 mid.2);
  free = λ i is. p.free i (q.free i is);
  held = λ i is. elim (q.held i is) [ inl before ↦ p.held i before | inr free ↦ inr (p.free i free) ];
  still = λ i is. q.still i (p.still i is);
  grows = let one = p.grows in let two = q.grows in omega (arith, one, two);
  clean = q.clean ∙ p.clean;
  usable = q.usable ∙ p.usable;
}

-- an extent that was written aside stays so
pub aside_kept : (s t : DataState) (ws us : List Written) (e : Extent) (bytes : List ℕ) → WritesAside s t ws us → IsAside s ws e bytes → IsAside t us e bytes
aside_kept s t ws us e bytes p at =
    let now = p.kept.extents e at.in_use at.whole in
    record {
      whole = now.whole;
      same = now.same ∙ at.same;
      in_use = λ b block is. at.in_use b block (p.free b is);
      held = λ b block. p.still b (at.held b block);
    }

pub made_kept : (s t : DataState) (ws us : List Written) (at : ℕ) (bytes : List ℕ) (ps : List MadePiece) → WritesAside s t ws us
    → All (IsMadeAside s ws at bytes) ps → All (IsMadeAside t us at bytes) ps
made_kept s t ws us at bytes ps p all =
    All-weaker (IsMadeAside s ws at bytes) (IsMadeAside t us at bytes) (λ x is. record { part = is.part; aside = aside_kept s t ws us x.extent _ p is.aside }) ps all

-- one extent, whether the list of what was written could grow or not
pub aside_failed : (s t : DataState) (ws : List Written) → KeepsInUse s.gaps s.seen t.seen → Follows (KeepsInUse s.gaps) s.may_leave t.may_leave
    → ((b : ℕ) → IsFreeBlock t.gaps b → IsFreeBlock s.gaps b) → t.is_clean ≡ s.is_clean → t.is_usable ≡ s.is_usable → WritesAside s t ws ws
aside_failed s t ws kept crash free clean usable = record {
  kept = kept;
  crash = crash;
  free = free;
  held = λ b is. inl is;
  still = λ b is. is;
  grows = omega arith;
  clean = clean;
  usable = usable;
}

pub aside_made : (s t : DataState) (ws : List Written) (e : Extent) → KeepsInUse s.gaps s.seen t.seen → Follows (KeepsInUse s.gaps) s.may_leave t.may_leave
    → IsFreeExtent s.gaps e → TakesOut e s.gaps t.gaps → t.is_clean ≡ s.is_clean → t.is_usable ≡ s.is_usable → WritesAside s t ws (ws ++ fresh e ∷ [])
aside_made s t ws e kept crash free taken clean usable = record {
  kept = kept;
  crash = crash;
  free = λ b is. ((taken b).0 is).0;
  held = λ b is. elim (held_more ws e b is) [ inl before ↦ inl before | inr here ↦ inr (free b here) ];
  still = λ b is. held_before ws e b is;
  grows = omega (arith, length-append ws (fresh e ∷ []));
  clean = clean;
  usable = usable;
}

-- it was taken and isn't among what was written, or it is
pub aside_lost : (s t : DataState) (ws us : List Written) (e : Extent) → us ≡ ws → KeepsInUse s.gaps s.seen t.seen → Follows (KeepsInUse s.gaps) s.may_leave t.may_leave
    → TakesOut e s.gaps t.gaps → t.is_clean ≡ s.is_clean → t.is_usable ≡ s.is_usable → WritesAside s t ws us
aside_lost s t ws us e same kept crash taken clean usable =
    subst (WritesAside s t ws) (sym same) (aside_failed s t ws kept crash (λ b is. ((taken b).0 is).0) clean usable)

pub aside_more : (s t : DataState) (ws us : List Written) (e : Extent) → us ≡ ws ++ fresh e ∷ [] → KeepsInUse s.gaps s.seen t.seen
    → Follows (KeepsInUse s.gaps) s.may_leave t.may_leave → IsFreeExtent s.gaps e → TakesOut e s.gaps t.gaps → t.is_clean ≡ s.is_clean → t.is_usable ≡ s.is_usable
    → WritesAside s t ws us
aside_more s t ws us e same kept crash free taken clean usable = subst (WritesAside s t ws) (sym same) (aside_made s t ws e kept crash free taken clean usable)

pub never_empty : (ws us : List Written) (w : Written) → us ≡ ws ++ w ∷ [] → us ≢ []
never_empty [] us w same none = let e = sym same ∙ none in cc
never_empty (x ∷ ws) us w same none = let e = sym same ∙ none in cc

pub is_aside : (t : DataState) (ws : List Written) (e : Extent) (bytes : List ℕ) → IsWhole t.seen e → bytes_of t.seen e ≡ bytes → InUse t.gaps e
    → IsAside t (ws ++ fresh e ∷ []) e bytes
is_aside t ws e bytes whole same used = record { whole = whole; same = same; in_use = used; held = λ b block. held_new ws e b block }

-- the extent has as many blocks as the bytes
pub aside_count : (s : DataState) (ws : List Written) (e : Extent) (bytes : List ℕ) → IsAside s ws e bytes → e.count * block_bytes ≡ length bytes
aside_count s ws e bytes at = sym (bytes_len s.seen e at.whole.within) ∙ ap length at.same

pub no_items : (ws us : List Written) → length ws ≤ length us → us ≡ [] → ws ≡ []
no_items [] us few none = refl
no_items (w ∷ ws) us few none = absurd (let long = ap length none in omega (arith, few, long))

pub empty_by : (xs ys : List Written) → ys ≡ xs → nat_lt 0 (length ys) ≡ false → xs ≡ []
empty_by xs [] same none = sym same
empty_by xs (y ∷ ys) same none = absurd (positive (length ys) none)
  where
    positive : (n : ℕ) → nat_lt 0 (suc n) ≡ false → ⊥
    positive n is = grind (arith, nat_tests)

-- a piece of so many blocks
pub made_piece : (t : DataState) (us : List Written) (at : ℕ) (bytes : List ℕ) (e : Extent) (block count n : ℕ) → at ≤ block * block_bytes
    → block * block_bytes + count * block_bytes ≤ at + length bytes → n ≡ count * block_bytes → IsAside t us e (take n (drop (block * block_bytes - at) bytes))
    → IsMadeAside t us at bytes (record { first = block; extent = e })
made_piece t us at bytes e block count n begins ends is aside =
    let from : ℕ = block * block_bytes - at in
    let long : length (take n (drop from bytes)) ≡ n = length-take-le n (drop from bytes) (omega (arith, begins, ends, is, length-drop from bytes)) in
    let same : e.count * block_bytes ≡ n = aside_count t us e (take n (drop from bytes)) aside ∙ long in
    record {
      part = record { begins = begins; ends = omega (arith, ends, is, same) };
      aside = subst (IsAside t us e) (ap (λ k. take k (drop from bytes)) (sym same)) aside;
    }

-- ---- what may be listed

-- over what is written aside, whatever could be listed still can
pub aside_view : (s t : DataState) (ws us : List Written) → WritesAside s t ws us → KeepsInUse [] (shown s.gaps ws s.seen) (shown t.gaps us t.seen)
aside_view s t ws us p = view_kept (is_hidden s.gaps ws) (is_hidden t.gaps us) s.seen t.seen (first_open s.gaps ws) (first_open t.gaps us) opens
    (λ store had. p.kept.header store had) (λ e is whole. p.kept.extents e (used e is whole.placed.place) whole)
  where
    used : (e : Extent) → IsOpen (is_hidden s.gaps ws) e → 1 ≤ e.place → InUse s.gaps e
    used e is low b block = unfree s.gaps b (open_parts s.gaps ws b (omega (arith, low, block.0)) (is b block)).0

    no_more : (b : ℕ) → list_any (is_in_gap b) s.gaps ≡ false → list_any (is_unlisted_at b) ws ≡ false → list_any (is_unlisted_at b) us ≡ false
    no_more b free held = elim (cases_Bool (list_any (is_unlisted_at b) us)) [
      | inr is ↦ is
      | inl is ↦ elim (p.held b is) [ inl was ↦ absurd cc | inr was ↦ absurd (unfree s.gaps b free was) ]
    ]

    opens : (b : ℕ) → is_hidden s.gaps ws b ≡ false → is_hidden t.gaps us b ≡ false
    opens zero is = refl
    opens (suc b) is =
        let parts = open_parts s.gaps ws (suc b) (omega arith) is in
        open_of t.gaps us (suc b) (unfound t.gaps (suc b) (λ free. unfree s.gaps (suc b) parts.0 (p.free (suc b) free))) (no_more (suc b) parts.0 parts.1)

-- ---- a group

is_for_weaker : (P Q : ℕ → List ℕ → MadePiece → Type 0) → ((at : ℕ) (bytes : List ℕ) (p : MadePiece) → P at bytes p → Q at bytes p) → (act : Act) (ps : List MadePiece)
    → IsFor P act ps → IsFor Q act ps
is_for_weaker P Q f (Write fh offset write_flags lock_owner flags payload) ps all = All-weaker (P offset payload) (Q offset payload) (f offset payload) ps all
is_for_weaker P Q f act ps all = tt

pub each_weaker : (P Q : ℕ → List ℕ → MadePiece → Type 0) → ((at : ℕ) (bytes : List ℕ) (p : MadePiece) → P at bytes p → Q at bytes p) → (es : List Entry)
    (made : List (List MadePiece)) → AreForEach P es made → AreForEach Q es made
each_weaker P Q f es made all k e d low = is_for_weaker P Q f (slice_index_or es k e).asked.act (slice_index_or made k d) (all k e d low)

pub each_kept : (s t : DataState) (ws us : List Written) (es : List Entry) (made : List (List MadePiece)) → WritesAside s t ws us → AreForEach (IsMadeAside s ws) es made
    → AreForEach (IsMadeAside t us) es made
each_kept s t ws us es made p all = each_weaker (IsMadeAside s ws) (IsMadeAside t us)
    (λ at bytes x is. record { part = is.part; aside = aside_kept s t ws us x.extent _ p is.aside }) es made all

pub each_none : (P : ℕ → List ℕ → MadePiece → Type 0) (es : List Entry) → AreForEach P es []
each_none P es k e d low = absurd (omega (arith, low))

pub each_push : (P : ℕ → List ℕ → MadePiece → Type 0) (es : List Entry) (made : List (List MadePiece)) (ps : List MadePiece)
    → ((e : Entry) → IsFor P (slice_index_or es (length made) e).asked.act ps) → AreForEach P es made → AreForEach P es (made ++ ps ∷ [])
each_push P es made ps last all k e d low = elim (cases_lt k (length made)) [
  | inl before ↦ subst (IsFor P (slice_index_or es k e).asked.act) (sym (get_or_append_left made (ps ∷ []) d k before)) (all k e d before)
  | inr behind ↦
      let at : k ≡ length made = omega (arith, low, behind, length-append made (ps ∷ [])) in
      subst (λ n. IsFor P (slice_index_or es n e).asked.act (slice_index_or (made ++ ps ∷ []) n d)) (sym at)
      (subst (IsFor P (slice_index_or es (length made) e).asked.act) (sym (get_or_push made ps d (length made) refl)) (last e))
]

pub made_of_aside : (s : DataState) (ws : List Written) (at : ℕ) (bytes : List ℕ) (p : MadePiece) → IsMadeAside s ws at bytes p → IsMade s.seen at bytes p
made_of_aside s ws at bytes p is = record { part = is.part; whole = is.aside.whole; same = is.aside.same }

-- ---- which extents may be listed

any_set : {X : Type 0} (p : X → Bool) (xs : List X) (i : ℕ) (x : X) → list_any p xs ≡ false → p x ≡ false → list_any p (set xs i x) ≡ false
any_set p [] i x none off = none
any_set p (y ∷ xs) zero x none off = rw off (rest (p y) (list_any p xs) none)
  where
    rest : (a b : Bool) → (a || b) ≡ false → b ≡ false
    rest true b is = absurd cc
    rest false b is = is
any_set p (y ∷ xs) (suc i) x none off = by (p y) (list_any p xs) none (λ rest. any_set p xs i x rest off)
  where
    by : (a b : Bool) → (a || b) ≡ false → (b ≡ false → list_any p (set xs i x) ≡ false) → (a || list_any p (set xs i x)) ≡ false
    by true b is more = absurd cc
    by false b is more = more is

any_at : {X : Type 0} (p : X → Bool) (xs : List X) (i : ℕ) (d : X) → i < length xs → p (slice_index_or xs i d) ≡ true → list_any p xs ≡ true
any_at p [] i d low is = absurd (omega (arith, low))
any_at p (x ∷ xs) zero d low is = or_left (p x) (list_any p xs) is
any_at p (x ∷ xs) (suc i) d low is = or_right (p x) (list_any p xs) (any_at p xs i d (omega (arith, low)) is)

-- an extent that isn't listed yet hides its blocks
unlisted_held : (ws : List Written) (i : ℕ) (d : Written) (b : ℕ) → i < length ws → (slice_index_or ws i d).listed ≡ false → IsBlockOf (slice_index_or ws i d).extent b
    → IsHeldBack ws b
unlisted_held ws i d b low unlisted block = any_at (is_unlisted_at b) ws i d low (rw unlisted (block_is (slice_index_or ws i d).extent b block))

held_hidden : (gaps : List Gap) (ws : List Written) (b : ℕ) → 1 ≤ b → IsHeldBack ws b → is_hidden gaps ws b ≡ false → ⊥
held_hidden gaps ws b low held is = let parts = open_parts gaps ws b low is in let e = sym held ∙ parts.1 in cc

pub no_common : (p q : Extent) → 1 ≤ p.count → 1 ≤ q.count → ((b : ℕ) → IsBlockOf p b → ¬ IsBlockOf q b) → AreDisjoint p q
no_common p q some many apart = elim (cases_lt p.place q.place) [
  | inl first ↦ elim (cases_lt q.place (past p)) [
    | inr out ↦ inl out
    | inl both ↦ absurd (apart q.place (omega (arith, first), both) (omega arith, omega (arith, many)))
  ]
  | inr last ↦ elim (cases_lt p.place (past q)) [
    | inr out ↦ inr out
    | inl both ↦ absurd (apart p.place (omega arith, omega (arith, some)) (last, both))
  ]
]

-- what can be listed is in use, and shares no block with what can't
pub whole_shows : (s : DataState) (ws : List Written) (but : ℕ) (e : Extent) → IsWhole (shown s.gaps ws s.seen) e → HidesNone ws but e
whole_shows s ws but e whole j d low other unlisted b block there =
    held_hidden s.gaps ws b (omega (arith, whole.placed.place, block.0)) (unlisted_held ws j d b low unlisted there)
    (whole_open (is_hidden s.gaps ws) s.seen e whole b block)

-- one more of those that aren't listed yet
pub apart_more : (ws : List Written) (but : ℕ) (e : Extent) (i : ℕ) (x : Written) → i < length ws
    → ((j : ℕ) (d : Written) → j < i → j ≢ but → (slice_index_or ws j d).listed ≡ false → ShareNone e (slice_index_or ws j d).extent)
    → (i ≢ but → (slice_index_or ws i x).listed ≡ false → ShareNone e (slice_index_or ws i x).extent) → (j : ℕ) (d : Written) → j < i + 1 → j ≢ but
    → (slice_index_or ws j d).listed ≡ false → ShareNone e (slice_index_or ws j d).extent
apart_more ws but e i x low before here j d small off unlisted = elim (cases_lt j i) [
  | inl less ↦ before j d less off unlisted
  | inr high ↦
      let same : j ≡ i = omega (arith, small, high) in
      let at : slice_index_or ws j d ≡ slice_index_or ws i x = ap (λ n. slice_index_or ws n d) same ∙ get_or_default ws i d x low in
      subst (λ w. ShareNone e w.extent) (sym at) (here (λ is. off (same ∙ is)) (subst (λ (w : Written). w.listed ≡ false) at unlisted))
]

-- one that is in use and shares no block with these can be listed
shows_open : (gaps : List Gap) (ws : List Written) (e : Extent) → InUse gaps e → ((b : ℕ) → IsBlockOf e b → list_any (is_unlisted_at b) ws ≡ false) → IsOpen (is_hidden gaps ws) e
shows_open gaps ws e used none b block = open_of gaps ws b (unfound gaps b (used b block)) (none b block)

none_at : (ws : List Written) (e : Extent) (b : ℕ) → IsBlockOf e b → HidesNone ws (length ws) e → list_any (is_unlisted_at b) ws ≡ false
none_at ws e b block hides = list_any_none (is_unlisted_at b) ws (λ j d low. by (slice_index_or ws j d) (λ unlisted. hides j d low (λ same. omega (arith, low, same)) unlisted b block))
  where
    by : (w : Written) → (w.listed ≡ false → ¬ IsBlockOf w.extent b) → is_unlisted_at b w ≡ false
    by w apart = elim (cases_Bool w.listed) [
      | inl listed ↦ rw listed refl
      | inr unlisted ↦ rw unlisted (elim (cases_Bool (is_block_of w.extent b)) [
        | inr off ↦ off
        | inl here ↦ absurd (apart unlisted (block_tests w.extent b here))
      ])
    ]

pub view_read : (s : DataState) (ws : List Written) (e : Extent) → InUse s.gaps e → HidesNone ws (length ws) e → IsWhole s.seen e
    → bytes_of (shown s.gaps ws s.seen) e ≡ bytes_of s.seen e
view_read s ws e used hides whole = open_same (is_hidden s.gaps ws) s.seen e (shows_open s.gaps ws e used (λ b block. none_at ws e b block hides)) whole.within

-- once an extent that was written is listed
module _ (s : DataState) (ws : List Written) (i : ℕ) (e : Extent) (placed : IsPlaced e) (used : InUse s.gaps e) (hides : HidesNone ws i e) (low : i < length ws)
    (found : (d : Written) → (slice_index_or ws i d).extent ≡ e) (unlisted : (d : Written) → (slice_index_or ws i d).listed ≡ false) where
  abbrev after : List Written
  after = set ws i (record { extent = e; listed = true })

  opens : (b : ℕ) → is_hidden s.gaps ws b ≡ false → is_hidden s.gaps after b ≡ false
  opens zero is = refl
  opens (suc b) is =
      let parts = open_parts s.gaps ws (suc b) (omega arith) is in
      open_of s.gaps after (suc b) parts.0 (any_set (is_unlisted_at (suc b)) ws i (record { extent = e; listed = true }) parts.1 refl)

  none_after : (b : ℕ) → IsBlockOf e b → list_any (is_unlisted_at b) after ≡ false
  none_after b block = list_any_none (is_unlisted_at b) after (λ j d small. elim (cases_lt j i) [
    | inl before ↦ other j d small (λ same. omega (arith, before, same))
    | inr behind ↦ elim (cases_lt i j) [
      | inl beyond ↦ other j d small (λ same. omega (arith, beyond, same))
      | inr same ↦ here j d (omega (arith, behind, same))
    ]
  ])
    where
      here : (j : ℕ) (d : Written) → j ≡ i → is_unlisted_at b (slice_index_or after j d) ≡ false
      here j d same = ap (λ n. is_unlisted_at b (slice_index_or after n d)) same
          ∙ ap (is_unlisted_at b) (get_or-set_same ws i (record { extent = e; listed = true }) d low)

      by : (w : Written) → (w.listed ≡ false → ¬ IsBlockOf w.extent b) → is_unlisted_at b w ≡ false
      by w apart = elim (cases_Bool w.listed) [
        | inl listed ↦ rw listed refl
        | inr open_yet ↦ rw open_yet (elim (cases_Bool (is_block_of w.extent b)) [
          | inr off ↦ off
          | inl is_there ↦ absurd (apart open_yet (block_tests w.extent b is_there))
        ])
      ]

      other : (j : ℕ) (d : Written) → j < length after → j ≢ i → is_unlisted_at b (slice_index_or after j d) ≡ false
      other j d small off =
          ap (is_unlisted_at b) (get_or-set_other ws i j (record { extent = e; listed = true }) d off)
          ∙ by (slice_index_or ws j d) (λ free. hides j d (omega (arith, small, length-set ws i (record { extent = e; listed = true }))) off free b block)

  pub lists_widens : KeepsInUse [] (shown s.gaps ws s.seen) (shown s.gaps after s.seen)
  lists_widens = view_kept (is_hidden s.gaps ws) (is_hidden s.gaps after) s.seen s.seen (first_open s.gaps ws) (first_open s.gaps after) opens
      (λ store had. had) (λ q is whole. record { whole = whole; same = refl })

  reach : IsOpen (is_hidden s.gaps after) e
  reach = shows_open s.gaps after e used none_after

  pub lists_here : IsWhole s.seen e → IsWhole (shown s.gaps after s.seen) e
  lists_here whole = whole_view (is_hidden s.gaps after) s.seen e reach whole

  pub lists_same : IsWhole s.seen e → bytes_of (shown s.gaps after s.seen) e ≡ bytes_of s.seen e
  lists_same whole = open_same (is_hidden s.gaps after) s.seen e reach whole.within

  pub lists_apart : (q : Extent) → IsWhole (shown s.gaps ws s.seen) q → AreDisjoint e q
  lists_apart q whole = no_common e q placed.some whole.placed.some (λ b block there.
      held_hidden s.gaps ws b (omega (arith, whole.placed.place, there.0))
      (unlisted_held ws i none b low (unlisted none) (subst (λ p. IsBlockOf p b) (sym (found none)) block))
      (whole_open (is_hidden s.gaps ws) s.seen q whole b there))
    where
      none : Written
      none = record { extent = e; listed = false }

-- the pieces of one more request
pub made_more : (t : DataState) (us : List Written) (group : List (Request × Moment)) (made all : List (List MadePiece)) (ps : List MadePiece) (i : ℕ) (x : Request × Moment)
    → i < length group → length made ≡ i → all ≡ made ++ ps ∷ [] → AreForEach (IsMadeAside t us) (entries_of group) made
    → IsFor (IsMadeAside t us) (entry_of (get_or group i x)).asked.act ps → AreForEach (IsMadeAside t us) (entries_of group) all
made_more t us group made all ps i x low long is before this =
    subst (AreForEach (IsMadeAside t us) (entries_of group)) (sym is) (each_push (IsMadeAside t us) (entries_of group) made ps (λ e.
    subst (λ n. IsFor (IsMadeAside t us) (slice_index_or (entries_of group) n e).asked.act ps) (sym long)
    (subst (λ (w : Entry). IsFor (IsMadeAside t us) w.asked.act ps) (sym (get_or-map entry_of group i x e low)) this)) before)
