-- Texts that are written to a sink, one after the other.
use Rattle.std.proofs.Common.{◌≡◌, ◌<◌, ◌≤◌, ◌+◌, ◌-◌, ◌⊎◌, ℕ, Bool, true, false, zero, suc, List, [], ◌∷◌, ◌++◌, length, take, drop, get_or, inl, inr, refl, sym, ap, subst, ◌∙◌, arith, append_assoc, append-nil, Bor, decimal}
use Rattle.std.specs.Prelude.{Result, Ok, Err}
use Rattle.std.specs.List.{flat_map}
use Rattle.std.specs.declared.io.Error.{Error}
use Rattle.std.proofs.lemmas.List.{take_more, take_all, flat_map_more, take-append-drop, length-drop}
use Rattle.std.proofs.lemmas.Grind.{flat_map-append}
use Rattle.fuse_show.specs.declared.fault.ShowFault.{ShowFault}
use Rattle.fuse_show.specs.declared.fault.ShowFault.TheVariants.{Look, NotATree, NoSuchPath, NotDirectory, NotFile, Output}
use Rattle.fuse_show.specs.Looks.{is_output}
use Rattle.fuse_show.specs.Shown.{way_by, way_of, IsWritten}
use Rattle.fuse_show.specs.Sinks.{Wrote, TookBytes, WriteFails, LastCall, Outputs, IsPartOf, Failed, Flushed}
use Rattle.fuse_show.specs.inner.Finding.{is_of_finding}
use Rattle.fuse_show.specs.inner.Writing.{WritesOut, FailsBy, LastWrite, PutsOut, cuts_off}

-- ---- parts of a text

pub part_none : (text : List ℕ) → IsPartOf [] text
part_none text = (text, refl)

pub part_all : (text : List ℕ) → IsPartOf text text
part_all text = ([], sym (append-nil text))

pub part_of : (bytes text : List ℕ) → bytes ≡ text → IsPartOf bytes text
part_of bytes text same = subst (λ (x : List ℕ). IsPartOf x text) (sym same) (part_all text)

-- a part of a text with something before it and after it
pub part_in : (xs bytes t rest text : List ℕ) → text ≡ xs ++ (t ++ rest) → IsPartOf bytes t → IsPartOf (xs ++ bytes) text
part_in xs bytes t rest text same p = (
  p.0 ++ rest,
  same
      ∙ ap (λ (y : List ℕ). xs ++ (y ++ rest)) p.1
      ∙ ap (λ (y : List ℕ). xs ++ y) (append_assoc bytes p.0 rest)
      ∙ sym (append_assoc xs bytes (p.0 ++ rest)),
)

-- nothing is left
pub part_whole : (text bytes rest : List ℕ) → text ≡ bytes ++ rest → length rest ≡ 0 → bytes ≡ text
part_whole text bytes [] same none = sym (same ∙ append-nil bytes)
part_whole text bytes (x ∷ rest) same none = absurd (omega arith)

-- some of what is left
pub part_more : (text bytes rest : List ℕ) (n : ℕ) → text ≡ bytes ++ rest → text ≡ (bytes ++ take n rest) ++ take (length rest - n) (drop n rest)
part_more text bytes rest n same =
    let left : take (length rest - n) (drop n rest) ≡ drop n rest = take_all (length rest - n) (drop n rest) (omega (arith, length-drop n rest)) in
    same
    ∙ ap (λ (y : List ℕ). bytes ++ y) (sym (take-append-drop n rest) ∙ ap (λ (y : List ℕ). take n rest ++ y) (sym left))
    ∙ sym (append_assoc bytes (take n rest) (take (length rest - n) (drop n rest)))

-- the text of one more element
pub each_more : {A : Type 0} (f : A → List ℕ) (xs : List A) (i : ℕ) (x low : A) → i < length xs → get_or xs i low ≡ x
    → flat_map f (take i xs) ++ f x ≡ flat_map f (take (i + 1) xs)
each_more f xs i x low there is =
    let more : take (i + 1) xs ≡ take i xs ++ x ∷ [] = take_more xs i low there ∙ ap (λ y. take i xs ++ y ∷ []) is in
    flat_map_more f [] (take i xs) x ∙ ap (flat_map f) (sym more)

-- the texts before an element, its text, and those after it
pub each_in : {A : Type 0} (f : A → List ℕ) (xs : List A) (i : ℕ) (x low : A) → i < length xs → get_or xs i low ≡ x
    → flat_map f xs ≡ flat_map f (take i xs) ++ (f x ++ flat_map f (drop (i + 1) xs))
each_in f xs i x low there is =
    ap (flat_map f) (sym (take-append-drop (i + 1) xs))
    ∙ flat_map-append f (take (i + 1) xs) (drop (i + 1) xs)
    ∙ ap (λ (y : List ℕ). y ++ flat_map f (drop (i + 1) xs)) (sym (each_more f xs i x low there is))
    ∙ append_assoc (flat_map f (take i xs)) (f x) (flat_map f (drop (i + 1) xs))

pub each_all : {A : Type 0} (f : A → List ℕ) (xs : List A) (i : ℕ) → length xs ≤ i → flat_map f (take i xs) ≡ flat_map f xs
each_all f xs i all = ap (flat_map f) (take_all i xs all)

-- a field, by its number
pub field_is : (f : Bor (List ℕ) × ℕ) (n : ℕ) → n ≡ f.1 → f.0.now ++ decimal n ≡ f.0.now ++ decimal f.1
field_is f n same = ap (λ (k : ℕ). f.0.now ++ decimal k) same

-- ---- writes

module _ {W : Type 0} (written : W → W → Result ℕ Error → List ℕ → Type 0) where
  pub takes_none : (a : W) → TookBytes written a a []
  takes_none a = record { writes = []; calls = refl; taken = refl }

  wrote_then : (a b c : W) (ws vs : List (List ℕ × ℕ)) → Wrote written a b ws → Wrote written b c vs → Wrote written a c (ws ++ vs)
  wrote_then a b c [] vs p q = subst (λ (x : W). Wrote written x c vs) p q
  wrote_then a b c (w ∷ ws) vs p q = (p.0, p.1, wrote_then p.0 b c ws vs p.2 q)

  pub takes_then : (a b c : W) (xs ys : List ℕ) → TookBytes written a b xs → TookBytes written b c ys → TookBytes written a c (xs ++ ys)
  takes_then a b c xs ys p q = record {
    writes = p.writes ++ q.writes;
    calls = wrote_then a b c p.writes q.writes p.calls q.calls;
    taken = flat_map-append (λ (w : List ℕ × ℕ). take w.1 w.0) p.writes q.writes
        ∙ ap (λ (x : List ℕ). x ++ flat_map (λ (w : List ℕ × ℕ). take w.1 w.0) q.writes) p.taken
        ∙ ap (λ (y : List ℕ). xs ++ y) q.taken;
  }

  pub takes_one : (a b c : W) (n : ℕ) (xs slice : List ℕ) → TookBytes written a b xs → written b c (Ok n) slice → TookBytes written a c (xs ++ take n slice)
  takes_one a b c n xs slice p was =
      takes_then a b c xs (take n slice) p
      (record { writes = (slice, n) ∷ []; calls = (c, was, refl); taken = append-nil (take n slice) })

  pub takes_as : (a b : W) (xs ys : List ℕ) → xs ≡ ys → TookBytes written a b xs → TookBytes written a b ys
  takes_as a b xs ys same p = subst (TookBytes written a b) same p

  -- bytes of which this is so were taken
  pub record Took (a b : W) (P : List ℕ → Type 0) : Type 0 where
    pub bytes : List ℕ
    pub takes : TookBytes written a b bytes
    pub so : P bytes

  -- ---- texts, without a flush

  -- what was put, of which this is so
  pub puts_all : {X : Type 0} (a b : W) (x : X) (P : List ℕ → Type 0) (xs : List ℕ) → TookBytes written a b xs → P xs → PutsOut written a b (Ok x) P
  puts_all a b x P xs p so = record { bytes = xs; mid = b; takes = p; last = refl; so = so }

  -- nothing
  pub puts_none : {X : Type 0} (a : W) (f : ShowFault) (P : List ℕ → Type 0) → is_output f ≡ false → P [] → PutsOut {X = X} written a a (Err f) P
  puts_none a f P quiet so =
      record { bytes = []; mid = a; takes = takes_none a; last = subst (FailsBy written a a) (sym quiet) refl; so = so }

  -- a write failed
  pub puts_refused : {X : Type 0} (a b c : W) (P : List ℕ → Type 0) (xs : List ℕ) → TookBytes written a b xs → WriteFails written b c → P xs
      → PutsOut {X = X} written a c (Err Output) P
  puts_refused a b c P xs p refused so = record { bytes = xs; mid = b; takes = p; last = refused; so = so }

  pub puts_taken : {X : Type 0} (a b : W) (x : X) (P : List ℕ → Type 0) → (p : PutsOut written a b (Ok x) P) → TookBytes written a b p.bytes
  puts_taken a b x P p = subst (λ (y : W). TookBytes written a y p.bytes) (sym p.last) p.takes

  -- an error after what was taken
  pub puts_stop : {X Y : Type 0} (a b c : W) (f : ShowFault) (P Q : List ℕ → Type 0) (xs : List ℕ) → TookBytes written a b xs → PutsOut {X = X} written b c (Err f) P
      → ((ys : List ℕ) → P ys → Q (xs ++ ys)) → PutsOut {X = Y} written a c (Err f) Q
  puts_stop a b c f P Q xs before p so =
      record { bytes = xs ++ p.bytes; mid = p.mid; takes = takes_then a b p.mid xs p.bytes before p.takes; last = p.last; so = so p.bytes p.so }

  -- a text of which a part was written after others
  pub text_stop : {X Y : Type 0} (a b c : W) (f : ShowFault) (text xs t rest : List ℕ) → TookBytes written a b xs → text ≡ xs ++ (t ++ rest)
      → PutsOut {X = X} written b c (Err f) (λ bytes. WritesOut {X = X} t bytes (Err f)) → PutsOut {X = Y} written a c (Err f) (λ bytes. WritesOut {X = Y} text bytes (Err f))
  text_stop {X = X} {Y = Y} a b c f text xs t rest before same p =
      puts_stop {X = X} {Y = Y} a b c f (λ bytes. WritesOut {X = X} t bytes (Err f)) (λ bytes. WritesOut {X = Y} text bytes (Err f)) xs before p
      (λ ys so. (part_in xs ys t rest text same so.0, so.1))

  -- one more text was written
  pub text_then : {X : Type 0} (a b c : W) (x : X) (xs t : List ℕ) → TookBytes written a b xs → PutsOut written b c (Ok x) (λ bytes. WritesOut {X = X} t bytes (Ok x))
      → TookBytes written a c (xs ++ t)
  text_then {X = X} a b c x xs t before p =
      takes_then a b c xs t before (takes_as b c p.bytes t p.so (puts_taken b c x (λ bytes. WritesOut {X = X} t bytes (Ok x)) p))

  -- the last text was written, or a part of it
  pub text_ends : {X : Type 0} (a b c : W) (r : Result X ShowFault) (text xs t : List ℕ) → TookBytes written a b xs → text ≡ xs ++ t
      → PutsOut written b c r (λ bytes. WritesOut t bytes r) → PutsOut written a c r (λ bytes. WritesOut text bytes r)
  text_ends a b c (Ok x) text xs t before same p =
      puts_all a c x (λ bytes. WritesOut text bytes (Ok x)) (xs ++ t) (text_then a b c x xs t before p) (sym same)
  text_ends {X = X} a b c (Err f) text xs t before same p =
      text_stop {X = X} {Y = X} a b c f text xs t [] before (same ∙ ap (λ (y : List ℕ). xs ++ y) (sym (append-nil t))) p

  pub took_more : {X : Type 0} (a b c : W) (x : X) (P Q R : List ℕ → Type 0) → Took a b P → PutsOut written b c (Ok x) Q
      → ((xs ys : List ℕ) → P xs → Q ys → R (xs ++ ys)) → Took a c R
  took_more a b c x P Q R p q so = record {
    bytes = p.bytes ++ q.bytes;
    takes = takes_then a b c p.bytes q.bytes p.takes (puts_taken b c x Q q);
    so = so p.bytes q.bytes p.so q.so;
  }

  pub took_stop : {X Y : Type 0} (a b c : W) (f : ShowFault) (P Q R : List ℕ → Type 0) → Took a b P → PutsOut {X = X} written b c (Err f) Q
      → ((xs ys : List ℕ) → P xs → Q ys → R (xs ++ ys)) → PutsOut {X = Y} written a c (Err f) R
  took_stop {X = X} {Y = Y} a b c f P Q R p q so = puts_stop {X = X} {Y = Y} a b c f Q R p.bytes p.takes q (λ ys is. so p.bytes ys p.so is)

  pub took_all : {X : Type 0} (a b : W) (x : X) (P R : List ℕ → Type 0) → Took a b P → ((xs : List ℕ) → P xs → R xs) → PutsOut written a b (Ok x) R
  took_all a b x P R p so = puts_all a b x R p.bytes p.takes (so p.bytes p.so)

  -- an error that isn't of the output
  pub took_cut : {X : Type 0} (a b : W) (f : ShowFault) (P R : List ℕ → Type 0) → Took a b P → is_output f ≡ false → ((xs : List ℕ) → P xs → R xs)
      → PutsOut {X = X} written a b (Err f) R
  took_cut a b f P R p quiet so = record {
    bytes = p.bytes;
    mid = b;
    takes = p.takes;
    last = subst (FailsBy written b b) (sym quiet) refl;
    so = so p.bytes p.so;
  }

  -- the same bytes, of which more is said
  pub puts_ok : {X Y : Type 0} (a b : W) (x : X) (y : Y) (P Q : List ℕ → Type 0) → PutsOut written a b (Ok x) P → ((ys : List ℕ) → P ys → Q ys)
      → PutsOut written a b (Ok y) Q
  puts_ok a b x y P Q p so = record { bytes = p.bytes; mid = p.mid; takes = p.takes; last = p.last; so = so p.bytes p.so }

  pub puts_err : {X Y : Type 0} (a b : W) (f : ShowFault) (P Q : List ℕ → Type 0) → PutsOut {X = X} written a b (Err f) P → ((ys : List ℕ) → P ys → Q ys)
      → PutsOut {X = Y} written a b (Err f) Q
  puts_err a b f P Q p so = record { bytes = p.bytes; mid = p.mid; takes = p.takes; last = p.last; so = so p.bytes p.so }

  -- the text of one more element was written
  pub each_then : {A X : Type 0} (a b c : W) (r : X) (f : A → List ℕ) (xs : List A) (i : ℕ) (x low : A) (t : List ℕ) → i < length xs → get_or xs i low ≡ x → t ≡ f x
      → TookBytes written a b (flat_map f (take i xs)) → PutsOut written b c (Ok r) (λ bytes. WritesOut {X = X} t bytes (Ok r))
      → TookBytes written a c (flat_map f (take (i + 1) xs))
  each_then a b c r f xs i x low t there is same before p =
      takes_as a c (flat_map f (take i xs) ++ t) (flat_map f (take (i + 1) xs))
      (ap (λ (y : List ℕ). flat_map f (take i xs) ++ y) same ∙ each_more f xs i x low there is)
      (text_then a b c r (flat_map f (take i xs)) t before p)

  -- a part of it
  pub each_stop : {A X Y : Type 0} (a b c : W) (e : ShowFault) (f : A → List ℕ) (xs : List A) (i : ℕ) (x low : A) (t : List ℕ) → i < length xs → get_or xs i low ≡ x
      → t ≡ f x → TookBytes written a b (flat_map f (take i xs)) → PutsOut {X = X} written b c (Err e) (λ bytes. WritesOut {X = X} t bytes (Err e))
      → PutsOut {X = Y} written a c (Err e) (λ bytes. WritesOut {X = Y} (flat_map f xs) bytes (Err e))
  each_stop {X = X} {Y = Y} a b c e f xs i x low t there is same before p =
      text_stop {X = X} {Y = Y} a b c e (flat_map f xs) (flat_map f (take i xs)) t (flat_map f (drop (i + 1) xs)) before
      (each_in f xs i x low there is ∙ ap (λ (y : List ℕ). flat_map f (take i xs) ++ (y ++ flat_map f (drop (i + 1) xs))) (sym same)) p

  -- with all of them
  pub each_ends : {A X : Type 0} (a b : W) (r : X) (f : A → List ℕ) (xs : List A) (i : ℕ) → length xs ≤ i → TookBytes written a b (flat_map f (take i xs))
      → PutsOut written a b (Ok r) (λ bytes. WritesOut {X = X} (flat_map f xs) bytes (Ok r))
  each_ends {X = X} a b r f xs i all before =
      puts_all a b r (λ bytes. WritesOut {X = X} (flat_map f xs) bytes (Ok r)) (flat_map f (take i xs)) before (each_all f xs i all)

  -- ---- with a flush

  module _ (flushed : W → W → Result (Unit {0}) Error → Type 0) where
    fails_by : (a b : W) (fails : Bool) → FailsBy written a b fails → LastCall written flushed a b (way_by fails)
    fails_by a b true p = inl p
    fails_by a b false p = p

    -- what was put before an error
    pub outputs_stop : {X : Type 0} (a b c : W) (f : ShowFault) (P Q : List ℕ → Type 0) (xs : List ℕ) → TookBytes written a b xs
        → PutsOut {X = X} written b c (Err f) P → ((ys : List ℕ) → P ys → Q (xs ++ ys)) → Outputs written flushed a c (way_of {X = Unit {0}} (Err f)) Q
    outputs_stop a b c f P Q xs before p so = record {
      bytes = xs ++ p.bytes;
      mid = p.mid;
      takes = takes_then a b p.mid xs p.bytes before p.takes;
      last = fails_by p.mid c (is_output f) p.last;
      so = so p.bytes p.so;
    }

    -- nothing was put
    pub outputs_none : (a : W) (f : ShowFault) (P : List ℕ → Type 0) → is_output f ≡ false → P []
        → Outputs written flushed a a (way_of {X = Unit {0}} (Err f)) P
    outputs_none a f P quiet so = record {
      bytes = [];
      mid = a;
      takes = takes_none a;
      last = fails_by a a (is_output f) (subst (FailsBy written a a) (sym quiet) refl);
      so = so;
    }

    -- all was put, and flushed
    pub outputs_all : (a b c : W) (P : List ℕ → Type 0) (xs : List ℕ) → TookBytes written a b xs → flushed b c (Ok tt) → P xs
        → Outputs written flushed a c (way_of {X = Unit {0}} (Ok tt)) P
    outputs_all a b c P xs p was so = record { bytes = xs; mid = b; takes = p; last = was; so = so }

    -- all was put, and the flush failed
    pub outputs_unflushed : (a b c : W) (e : Error) (P : List ℕ → Type 0) (xs : List ℕ) → TookBytes written a b xs → flushed b c (Err e) → P xs
        → Outputs written flushed a c (way_of {X = Unit {0}} (Err Output)) P
    outputs_unflushed a b c e P xs p was so = record { bytes = xs; mid = b; takes = p; last = inr (e, was); so = so }

    -- a text of which a part was written after others
    pub written_stop : {X : Type 0} (a b c : W) (f : ShowFault) (text xs t rest : List ℕ) → TookBytes written a b xs → text ≡ xs ++ (t ++ rest)
        → PutsOut {X = X} written b c (Err f) (λ bytes. WritesOut {X = X} t bytes (Err f))
        → Outputs written flushed a c (way_of {X = Unit {0}} (Err f)) (λ bytes. IsWritten text bytes (Err f))
    written_stop {X = X} a b c f text xs t rest before same p =
        outputs_stop {X = X} a b c f (λ bytes. WritesOut {X = X} t bytes (Err f)) (λ bytes. IsWritten text bytes (Err f)) xs before p
        (λ ys so. part_in xs ys t rest text same so.0)

    -- the last text was written and flushed, or a part of it
    pub written_ends : (a b c : W) (r : Result (Unit {0}) ShowFault) (text xs t : List ℕ) → TookBytes written a b xs → text ≡ xs ++ t
        → Outputs written flushed b c (way_of r) (λ bytes. IsWritten t bytes r) → Outputs written flushed a c (way_of r) (λ bytes. IsWritten text bytes r)
    written_ends a b c r text xs t before same p = record {
      bytes = xs ++ p.bytes;
      mid = p.mid;
      takes = takes_then a b p.mid xs p.bytes before p.takes;
      last = p.last;
      so = so r p.so;
    }
      where
        so : (r : Result (Unit {0}) ShowFault) → IsWritten t p.bytes r → IsWritten text (xs ++ p.bytes) r
        so (Ok done) is = ap (λ (y : List ℕ). xs ++ y) is ∙ sym same
        so (Err f) is = part_in xs p.bytes t [] text (same ∙ ap (λ (y : List ℕ). xs ++ y) (sym (append-nil t))) is

-- a fault of a lookup isn't one of the output
pub finding_quiet : (f : ShowFault) → is_of_finding f ≡ true → is_output f ≡ false
finding_quiet (Look f) is = refl
finding_quiet NotATree is = refl
finding_quiet NoSuchPath is = refl
finding_quiet NotDirectory is = refl
finding_quiet NotFile is = refl
finding_quiet Output is = absurd cc
