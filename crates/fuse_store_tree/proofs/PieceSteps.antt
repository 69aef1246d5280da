-- Steps that take blocks out of pieces, one after the other.
use Rattle.std.proofs.Common.{◌≡◌, ◌≤◌, ◌<◌, ◌+◌, ◌-◌, ◌^◌, ◌==◌, ◌&&◌, ℕ, zero, suc, List, [], ◌∷◌, nat_lt, map, take, filter}
use Rattle.std.proofs.Common.{Bool, true, false, cond, Option, None, Ok, Err, Result, OnErr, IfErr, refl, sym, ap, subst, arith, ◌∙◌}
use Rattle.std.specs.Prelude.{nat_le, IsTrue}
use Rattle.std.specs.List.{AllByRecursion}
use Rattle.std.proofs.lemmas.Bool.Decides.{nat_tests}
use Rattle.sqlite.specs.Order.{Row}
use Rattle.sqlite.specs.State.{State, HasCleanDisk}
use Rattle.sqlite.specs.declared.error.Error.{Error}
use Rattle.fuse_keeper.specs.declared.fault.StoreFault.{StoreFault}
use Rattle.fuse_store_tables.specs.declared.pieces.PieceRow.{PieceRow}
use Rattle.fuse_store_tables.specs.declared.version.Layout.TheVariants.{Second, Third}
use Rattle.fuse_store_tables.specs.Pieces.{Piece, shown_piece, begins_between, ShowsInOrder}
use Rattle.fuse_store_tables.specs.Ranges.{row_of}
use Rattle.fuse_store_tables.specs.Content.{Content, HoldsIn, without_pieces_between}
use Rattle.fuse_store_tables.specs.Faults.{IsOutside}
use Rattle.fuse_store_tables.specs.Moves.{Inside, InsideAs, Stays, Takes}
use Rattle.fuse_store_tables.specs.inner.Following.{earlier, inside_then, stays_then}
use Rattle.fuse_store_tree.specs.Pieces.{File, ReadsFile, end_of}
use Rattle.fuse_store_tree.specs.declared.piece_cuts.Gone.{Gone}
use Rattle.fuse_store_tree.specs.inner.Reading.{IsSound}
use Rattle.fuse_store_tree.specs.inner.Relisting.{is_between, is_from_on, no_block, piece_block, IsPartOfOne, TakenOut, TakenOff, AreCut, IsThird, IsAny, Remembers, rows_extents, Relists, Split, IsEndOf, EndsWithin}
use Rattle.fuse_store_tree.specs.inner.Laws.{looked_still}
use Rattle.fuse_store_tree.proofs.Slices.{slice, slice_known, slice_ends, slice_off}
use Rattle.fuse_store_tree.proofs.Outs.{out_then, out_none, out_same, gives_then, gives_same, SameListed, gives_listed, cut_parts, cut_on, cut_top, cut_first, out_rest, the_layout, third_in, third_out}

-- ---- steps

pub relists_then : (t : Bool) (file : List ℕ) (P : Content → Type 0) (Q : Content → Content → Type 0) (R : Content → Type 0) (S T : Content → Content → Type 0) (a b d : State)
    → Relists t file P Q a b → Relists t file R S b d → ((c k : Content) → IsSound file c → P c → Q c k → IsSound file k × R k)
    → ((c k m : Content) → IsSound file c → Q c k → S k m → T c m) → Relists t file P T a d
relists_then t file P Q R S T a b d p q on both = record {
  stays = stays_then a b d p.stays p.within q.stays;
  within = inside_then a b d p.within q.stays.survives q.within;
  turns = λ read clean c sound so at.
      let mid = p.turns read (earlier b d _ q.stays.survives clean) c sound so at in
      let ready = on c mid.0 sound so mid.2 in
      let last = q.turns read clean mid.0 ready.0 ready.1 mid.1 in
      (last.0, last.1, both c mid.0 last.0 sound mid.2 last.2);
}

-- a fault after a step: it begins with what the step makes
pub relists_fault : (t : Bool) (file : List ℕ) (P : Content → Type 0) (Q : Content → Content → Type 0) (R : Content → Type 0) (a b d : State) (e : StoreFault)
    → Relists t file P Q a b → Stays b d → ((c k : Content) → IsSound file c → P c → Q c k → IsSound file k × R k)
    → (HasCleanDisk d → (k : Content) → IsSound file k → R k → Inside k b → IsOutside e) → IsTrue t → HasCleanDisk d
    → (c : Content) → IsSound file c → P c → Inside c a → IsOutside e
relists_fault t file P Q R a b d e p stays on sure read clean c sound so at =
    let mid = p.turns read (earlier b d _ stays.survives clean) c sound so at in
    let ready = on c mid.0 sound so mid.2 in
    sure clean mid.0 ready.0 ready.1 mid.1

pub relists_fails : (t : Bool) (file : List ℕ) (P : Content → Type 0) (Q : Content → Content → Type 0) (a b d : State) → Relists t file P Q a b → Stays b d → Stays a d
relists_fails t file P Q a b d p q = stays_then a b d p.stays p.within q

-- of a step that reads nothing of the data file
pub of_clean : (t : Bool) (file : List ℕ) (P : Content → Type 0) (Q : Content → Content → Type 0) (a b : State) → Relists true file P Q a b → Relists t file P Q a b
of_clean t file P Q a b p = record { stays = p.stays; within = p.within; turns = λ read. p.turns refl }

-- what every content within the transaction is
pub of_any : (t : Bool) (file : List ℕ) (P : Content → Type 0) (Q : Content → Content → Type 0) (a b : State) → ((c : Content) → Inside c a → P c) → Relists t file P Q a b → Relists t file IsAny Q a b
of_any t file P Q a b is p = record {
  stays = p.stays;
  within = p.within;
  turns = λ read clean c sound so at. p.turns read clean c sound (is c at) at;
}

-- ---- a slice

taken_shown : (n : ℕ) (ps : List Piece) → take n (map shown_piece ps) ≡ map shown_piece (take n ps)
taken_shown zero ps = refl
taken_shown (suc n) [] = refl
taken_shown (suc n) (p ∷ ps) = ap (λ l. shown_piece p ∷ l) (taken_shown n ps)

module _ (t : Bool) (file : List ℕ) (node from to : ℕ) (order : from < to) (rows : List Row) (pieces : List PieceRow) where
  abbrev Found : State → State → Type 0
  Found a b = HasCleanDisk b → (c : Content) → InsideAs (HoldsIn Third c) a → ShowsInOrder 1024 (filter (begins_between node from to) c.pieces) rows

  abbrev Read : Type 0
  Read = (ps : List Piece) → AllByRecursion (λ (p : Piece). (p.node ≡ node) × (p.sum < 2 ^ 64)) ps → rows ≡ map shown_piece ps → pieces ≡ map row_of ps

  -- the slice goes
  pub slice_taken : {X Y : Type 0} (next : ℕ) (was is : Gone) (a b d : State) (x : X) (y : Y) → from < next → next ≤ to
      → Takes {X = X} {E = Error} (HoldsIn Third) (HoldsIn Third) a b (Ok x) → Found a b → Read → IsEndOf pieces to next → Remembers (rows_extents pieces) was is
      → Takes {X = Y} {E = Error} (HoldsIn Third) (λ c. HoldsIn Third (without_pieces_between node from next c)) b d (Ok y)
      → Relists t file (AreCut node from to) (TakenOff file (is_between node from next) was is) a d
  slice_taken next was is a b d x y low high p found read ends told q = record {
    stays = stays_then a b d p.stays p.within q.stays;
    within = inside_then a b d p.within q.stays.survives q.within;
    turns = λ clean_file clean c sound cut at.
        let mid = earlier b d _ q.stays.survives clean in
        let here = third_in c a cut.third at in
        let shows = found mid c here in
        let slice_is = slice file c sound node from to order cut shows.ordered shows.same shows.rise in
        let are : pieces ≡ map row_of slice_is = read slice_is (slice_known file c sound node from to order cut shows.ordered shows.same shows.rise)
        (shows.shown ∙ taken_shown 1024 shows.ordered) in
        let now = q.turns clean c (p.turns mid c here) in (
          without_pieces_between node from next c,
          third_out (without_pieces_between node from next c) d now,
          slice_off file c sound node from to order cut shows.ordered shows.same shows.rise next low high (subst (λ xs. IsEndOf xs to next) are ends) was is
              (subst (λ xs. Remembers (rows_extents xs) was is) are told),
        );
  }

  -- its rows can be read
  pub slice_read : (b : State) (a : State) (e : StoreFault) → HasCleanDisk b → Found a b → ((ps : List Piece) → rows ≡ map shown_piece ps → IsOutside e)
      → (c : Content) → AreCut node from to c → Inside c a → IsOutside e
  slice_read b a e clean found sure c cut at =
      let shows = found clean c (third_in c a cut.third at) in
      sure (take 1024 shows.ordered) (shows.shown ∙ taken_shown 1024 shows.ordered)

  pub slice_within : (b : State) (a : State) (e : StoreFault) → HasCleanDisk b → Found a b → Read → (EndsWithin pieces from to → IsOutside e)
      → (c : Content) → IsSound file c → AreCut node from to c → Inside c a → IsOutside e
  slice_within b a e clean found read sure c sound cut at =
      let shows = found clean c (third_in c a cut.third at) in
      let slice_is = slice file c sound node from to order cut shows.ordered shows.same shows.rise in
      let are : pieces ≡ map row_of slice_is = read slice_is (slice_known file c sound node from to order cut shows.ordered shows.same shows.rise)
      (shows.shown ∙ taken_shown 1024 shows.ordered) in
      sure (subst (λ xs. EndsWithin xs from to) (sym are) (slice_ends file c sound node from to order cut shows.ordered shows.same shows.rise))

-- ---- slice by slice

module _ (t : Bool) (file : List ℕ) (node from to : ℕ) where
  abbrev UpTo : ℕ → Gone → Gone → State → State → Type 0
  UpTo at w i = Relists t file (AreCut node from to) (TakenOff file (is_between node from at) w i)

  pub none_yet : (w : Gone) (a : State) → Relists t file (AreCut node from to) (TakenOff file (is_between node from from) w w) a a
  none_yet w a = record {
    stays = (looked_still a).stays;
    within = (looked_still a).within;
    turns = λ read clean c sound cut at. (
      c,
      at,
      record {
        out = out_same file no_block (is_between node from from) c c (λ n k. sym (empty (n == node) k)) (out_none file c sound);
        gone = gives_same w c.pieces;
      },
    );
  }
    where
      empty : (t : Bool) (k : ℕ) → (t && (nat_le from k && nat_lt k from)) ≡ false
      empty t k = grind (arith, nat_tests)

  cut_then : (at : ℕ) → from ≤ at → (w i : Gone) (c k : Content) → IsSound file c → AreCut node from to c → TakenOff file (is_between node from at) w i c k
      → IsSound file k × AreCut node at to k
  cut_then at low w i c k sound cut off = (
    off.out.sound,
    record {
      third = the_layout file (is_between node from at) c k off.out ∙ cut.third;
      begin = cut_on file node from at c k low off.out cut.begin;
      end = cut_parts node to c.pieces k.pieces off.out.parts cut.end;
    },
  )

  pub more_taken : (at next : ℕ) (w i j : Gone) (a b d : State) → from ≤ at → at < next
      → Relists t file (AreCut node from to) (TakenOff file (is_between node from at) w i) a b
      → Relists t file (AreCut node at to) (TakenOff file (is_between node at next) i j) b d
      → Relists t file (AreCut node from to) (TakenOff file (is_between node from next) w j) a d
  more_taken at next w i j a b d low less p q =
      relists_then t file (AreCut node from to) (TakenOff file (is_between node from at) w i) (AreCut node at to) (TakenOff file (is_between node at next) i j)
      (TakenOff file (is_between node from next) w j) a b d p q (cut_then at low w i)
      (λ c k m sound first second. record {
        out = out_then file (is_between node from at) (is_between node at next) (is_between node from next) c k m first.out second.out (λ n k. joined (n == node) k);
        gone = gives_then w i j c.pieces k.pieces m.pieces first.gone second.gone;
      })
    where
      joined : (t : Bool) (k : ℕ) → cond (t && (nat_le at k && nat_lt k next)) true (t && (nat_le from k && nat_lt k at)) ≡ (t && (nat_le from k && nat_lt k next))
      joined true k = grind (arith, nat_tests)
      joined false k = refl

  pub later_fault : (at : ℕ) (w i : Gone) (a b d : State) (e : StoreFault) → from ≤ at
      → Relists t file (AreCut node from to) (TakenOff file (is_between node from at) w i) a b → Stays b d
      → (HasCleanDisk d → (k : Content) → IsSound file k → AreCut node at to k → Inside k b → IsOutside e) → IsTrue t → HasCleanDisk d
      → (c : Content) → IsSound file c → AreCut node from to c → Inside c a → IsOutside e
  later_fault at w i a b d e low p stays sure =
      relists_fault t file (AreCut node from to) (TakenOff file (is_between node from at) w i) (AreCut node at to) a b d e p stays (cut_then at low w i) sure

-- the end of the range is reached
pub up_to : (t : Bool) (file : List ℕ) (node from to at : ℕ) (w i : Gone) (a b : State) → at ≤ to → to ≤ at
    → Relists t file (AreCut node from to) (TakenOff file (is_between node from at) w i) a b
    → Relists t file (AreCut node from to) (TakenOff file (is_between node from to) w i) a b
up_to t file node from to at w i a b high low p =
    let same : at ≡ to = omega (arith, high, low) in
    subst (λ n. Relists t file (AreCut node from to) (TakenOff file (is_between node from n) w i) a b) same p

-- for a row that isn't there
abbrev pub no_piece : Piece
no_piece = record { slot = 0; node = 0; first = 0; count = 0; place = 0; sum = 0 }

-- ---- all of a node

pub are_cut_all : (file : List ℕ) (node top : ℕ) (c : Content) → 2 ^ 63 ≤ top + 1 → c.layout ≡ Third → IsSound file c → AreCut node 0 top c
are_cut_all file node top c high third sound = record { third = third; begin = cut_first node c.pieces; end = cut_top node top c.pieces high sound.0.pieces }

pub all_taken : (t : Bool) (file : List ℕ) (node top : ℕ) (w i : Gone) (a b : State) → 2 ^ 63 ≤ top + 1 → ((c : Content) → Inside c a → c.layout ≡ Third)
    → Relists t file (AreCut node 0 top) (TakenOff file (is_between node 0 top) w i) a b → Relists t file IsAny (TakenOff file (is_from_on node 0) w i) a b
all_taken t file node top w i a b high third p = record {
  stays = p.stays;
  within = p.within;
  turns = λ read clean c sound so at.
      let made = p.turns read clean c sound (are_cut_all file node top c high (third c at) sound) at in
      (made.0, made.1, record { out = out_rest file node 0 top c made.0 high sound.0.pieces made.2.out; gone = made.2.gone });
}

-- in version 2 there is none
pub none_second : (t : Bool) (file : List ℕ) (is_out : ℕ → ℕ → Bool) (w : Gone) (a : State) → ((c : Content) → Inside c a → c.layout ≡ Second) → Relists t file IsAny (TakenOff file is_out w w) a a
none_second t file is_out w a second = record {
  stays = (looked_still a).stays;
  within = (looked_still a).within;
  turns = λ read clean c sound so at. (c, at, record { out = by c sound (sound.0.no_pieces (second c at)); gone = gives_same w c.pieces });
}
  where
    either : (t : Bool) → ◌≡◌ {A = Option (List ℕ)} None (cond t None None)
    either true = refl
    either false = refl

    by : (c : Content) → IsSound file c → c.pieces ≡ [] → TakenOut file is_out c c
    by c sound none = record {
      blocks = λ n k. subst (λ ps. piece_block file ps n k ≡ cond (is_out n k) None (piece_block file ps n k)) (sym none) (either (is_out n k));
      lasts = subst (λ ps. AllByRecursion (λ q. is_out q.node (end_of q - 1) ≡ false) ps) (sym none) tt;
      parts = subst (λ ps. AllByRecursion (IsPartOfOne c.pieces) ps) (sym none) tt;
      others = refl;
      sound = sound;
    }

pub all_sure : {X : Type 0} (node top : ℕ) (a : State) (r : Result X StoreFault) → 2 ^ 63 ≤ top + 1 → ((c : Content) → Inside c a → c.layout ≡ Third)
    → IfErr r (λ e. (file : List ℕ) (c : Content) → IsSound file c → AreCut node 0 top c → Inside c a → IsOutside e)
    → IfErr r (λ e. (file : List ℕ) (c : Content) → Inside c a → IsSound file c → IsOutside e)
all_sure node top a (Ok x) high third sure = tt
all_sure node top a (Err e) high third sure = λ file c at sound. sure file c sound (are_cut_all file node top c high (third c at) sound) at

pub third_sure : {X : Type 0} (file : List ℕ) (a : State) (r : Result X StoreFault) → ((c : Content) → Inside c a → c.layout ≡ Third)
    → IfErr r (λ e. (c : Content) → Inside c a → IsSound file c → IsThird c → IsOutside e)
    → IfErr r (λ e. (c : Content) → Inside c a → IsSound file c → IsOutside e)
third_sure file a (Ok x) third sure = tt
third_sure file a (Err e) third sure = λ c at sound. sure c at sound (third c at)

-- ---- a split, and then the rest

module _ (t : Bool) (file : List ℕ) (node from top : ℕ) (high : 2 ^ 63 ≤ top + 1) where
  cut_rest : (c k : Content) → IsSound file c → IsThird c → Split file node from c k → IsSound file k × AreCut node from top k
  cut_rest c k sound third split = (
    split.same.sound,
    record {
      third = the_layout file no_block c k split.same ∙ third;
      begin = split.cut;
      end = cut_top node top k.pieces high split.same.sound.0.pieces;
    },
  )

  third_split : (a b : State) → Relists t file IsAny (Split file node from) a b → Relists t file IsThird (Split file node from) a b
  third_split a b p = record { stays = p.stays; within = p.within; turns = λ read clean c sound so at. p.turns read clean c sound tt at }

  pub rest_taken : (w i : Gone) (a b d : State) → Relists t file IsAny (Split file node from) a b
      → Relists t file (AreCut node from top) (TakenOff file (is_between node from top) w i) b d
      → Relists t file IsThird (TakenOff file (is_from_on node from) w i) a d
  rest_taken w i a b d p q =
      relists_then t file IsThird (Split file node from) (AreCut node from top) (TakenOff file (is_between node from top) w i)
      (TakenOff file (is_from_on node from) w i) a b d (third_split a b p) q cut_rest
      (λ c k m sound first second. record {
        out = out_rest file node from top c m high sound.0.pieces
            (out_then file no_block (is_between node from top) (is_between node from top) c k m first.same second.out (λ n j. same (is_between node from top n j)));
        gone = gives_listed w i c.pieces k.pieces m.pieces first.listed second.gone;
      })
    where
      same : (t : Bool) → cond t true false ≡ t
      same true = refl
      same false = refl

  pub rest_fault : (a b d : State) (e : StoreFault) → Relists t file IsAny (Split file node from) a b → Stays b d
      → (HasCleanDisk d → (k : Content) → IsSound file k → AreCut node from top k → Inside k b → IsOutside e) → IsTrue t → HasCleanDisk d
      → (c : Content) → IsSound file c → IsThird c → Inside c a → IsOutside e
  rest_fault a b d e p stays sure =
      relists_fault t file IsThird (Split file node from) (AreCut node from top) a b d e (third_split a b p) stays cut_rest sure

  -- the same of a call
  pub rest_sure : {X : Type 0} (a b d : State) (r : Result X StoreFault) → Relists t file IsAny (Split file node from) a b → OnErr r (Stays b d)
      → (HasCleanDisk d → IfErr r (λ e. (bytes : List ℕ) (k : Content) → IsSound bytes k → AreCut node from top k → Inside k b → IsOutside e))
      → IsTrue t → HasCleanDisk d → IfErr r (λ e. (c : Content) → Inside c a → IsSound file c → IsThird c → IsOutside e)
  rest_sure a b d (Ok x) p stays sure read clean = tt
  rest_sure a b d (Err e) p stays sure read clean =
      λ c at sound third. rest_fault a b d e p stays (λ now k is cut inside. sure now file k is cut inside) read clean c sound third at

-- ---- a range

-- what was read first is read still
pub relists_later : (v f : File) (P : Content → Type 0) (Q : List ℕ → Content → Content → Type 0) (a b : State) → ReadsFile v f
    → Relists v.is_clean v.bytes P (Q v.bytes) a b → Relists f.is_clean f.bytes P (Q f.bytes) a b
relists_later v f P Q a b on p = record {
  stays = p.stays;
  within = p.within;
  turns = λ read. subst (λ bytes. HasCleanDisk b → (c : Content) → IsSound bytes c → P c → Inside c a → (k : Content) × Inside k b × Q bytes c k)
      (sym on.same) (p.turns (on.clean read));
}

-- no piece reaches over either end then
record SplitTwice (file : List ℕ) (node from to : ℕ) (old new : Content) : Type 0 where
  same : TakenOut file no_block old new
  listed : SameListed old.pieces new.pieces
  cut : AreCut node from to new

module _ (t : Bool) (file : List ℕ) (node from to : ℕ) where
  none_twice : (n k : ℕ) → cond (no_block n k) true (no_block n k) ≡ no_block n k
  none_twice n k = refl

  both_split : (a b d : State) → Relists t file IsAny (Split file node from) a b → Relists t file IsAny (Split file node to) b d
      → Relists t file IsThird (SplitTwice file node from to) a d
  both_split a b d p q = record {
    stays = stays_then a b d p.stays p.within q.stays;
    within = inside_then a b d p.within q.stays.survives q.within;
    turns = λ read clean c sound third at.
        let one = p.turns read (earlier b d _ q.stays.survives clean) c sound tt at in
        let two = q.turns read clean one.0 one.2.same.sound tt one.1 in
        let first = one.2 in
        let second = two.2 in (
          two.0,
          two.1,
          record {
            same = out_then file no_block no_block no_block c one.0 two.0 first.same second.same none_twice;
            listed = λ b. (λ at. (first.listed b).0 ((second.listed b).0 at), λ at. (second.listed b).1 ((first.listed b).1 at));
            cut = record {
              third = the_layout file no_block one.0 two.0 second.same ∙ the_layout file no_block c one.0 first.same ∙ third;
              begin = cut_parts node from one.0.pieces two.0.pieces second.same.parts first.cut;
              end = second.cut;
            };
          },
        );
  }

  pub range_taken : (w i : Gone) (a b d e : State) → Relists t file IsAny (Split file node from) a b → Relists t file IsAny (Split file node to) b d
      → Relists t file (AreCut node from to) (TakenOff file (is_between node from to) w i) d e
      → Relists t file IsThird (TakenOff file (is_between node from to) w i) a e
  range_taken w i a b d e p q r =
      relists_then t file IsThird (SplitTwice file node from to) (AreCut node from to) (TakenOff file (is_between node from to) w i)
      (TakenOff file (is_between node from to) w i) a d e (both_split a b d p q) r (λ c k sound third two. (two.same.sound, two.cut))
      (λ c k m sound first second. record {
        out = out_then file no_block (is_between node from to) (is_between node from to) c k m first.same second.out (λ n j. same (is_between node from to n j));
        gone = gives_listed w i c.pieces k.pieces m.pieces first.listed second.gone;
      })
    where
      same : (t : Bool) → cond t true false ≡ t
      same true = refl
      same false = refl

  pub range_fault : (a b d e : State) (f : StoreFault) → Relists t file IsAny (Split file node from) a b → Relists t file IsAny (Split file node to) b d → Stays d e
      → (HasCleanDisk e → (k : Content) → IsSound file k → AreCut node from to k → Inside k d → IsOutside f) → IsTrue t → HasCleanDisk e
      → (c : Content) → IsSound file c → IsThird c → Inside c a → IsOutside f
  range_fault a b d e f p q stays sure =
      relists_fault t file IsThird (SplitTwice file node from to) (AreCut node from to) a d e f (both_split a b d p q) stays (λ c k sound third two. (two.same.sound, two.cut)) sure

  pub range_sure : {X : Type 0} (a b d e : State) (r : Result X StoreFault) → Relists t file IsAny (Split file node from) a b
      → Relists t file IsAny (Split file node to) b d → OnErr r (Stays d e)
      → (HasCleanDisk e → IfErr r (λ f. (bytes : List ℕ) (k : Content) → IsSound bytes k → AreCut node from to k → Inside k d → IsOutside f))
      → IsTrue t → HasCleanDisk e → IfErr r (λ f. (c : Content) → Inside c a → IsSound file c → IsThird c → IsOutside f)
  range_sure a b d e (Ok x) p q stays sure read clean = tt
  range_sure a b d e (Err f) p q stays sure read clean =
      λ c at sound third. range_fault a b d e f p q stays (λ now k is cut inside. sure now file k is cut inside) read clean c sound third at
