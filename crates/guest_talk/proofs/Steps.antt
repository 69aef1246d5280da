-- Steps of a talk, one after the other.
use Rattle.std.proofs.Common.{◌≡◌, ◌+◌, ℕ, true, List, [], ◌∷◌, ◌++◌, refl, ap, sym, ◌∙◌, append_assoc}
use Rattle.std.specs.List.{flat_map, AllByRecursion}
use Rattle.std.proofs.lemmas.List.{append-nil, length-append}
use Rattle.std.proofs.lemmas.List.Concat.{flat_map-append}
use Rattle.guest_frames.specs.Frames.{Frame, frame_bytes}
use Rattle.fuse_guest.specs.Pairs.{Pairs}
use Rattle.fuse_guest.specs.Talk.{Says}
use Rattle.fuse_guest.specs.Conversations.{Trip, asks_more}
use Rattle.guest_talk.specs.Asking.{Ask}
use Rattle.guest_talk.specs.Events.{Event, frame_event, trip_events, IsWholeTrip}
use Rattle.guest_talk.specs.TalkState.{TalkState}
use Rattle.guest_talk.specs.inner.Turns.{Notes, Moves, Begins, Hears, Tells, Going, asking_frame, events_so_far, told_so_far, asked_so_far}
use Rattle.std.proofs.KnownBytes.{Appends-trans, Consumes-trans}

-- ---- notes and bytes

pub notes_more : (a b d : TalkState) (x y : List Event) → Notes a b x → Notes b d y → Notes a d (x ++ y)
notes_more a b d x y h k = record {
  ready = k.ready ∙ h.ready;
  noted = k.noted ∙ ap (λ (l : List Event). l ++ y) h.noted ∙ append_assoc a.events x y;
}

pub moves_more : (a b d : TalkState) (x y : List Event) (w v r s : List ℕ) → Moves a b x w r → Moves b d y v s → Moves a d (x ++ y) (w ++ v) (r ++ s)
moves_more a b d x y w v r s h k = record {
  notes = notes_more a b d x y h.notes k.notes;
  sent = Appends-trans a.sent b.sent d.sent w v h.sent k.sent;
  came = Consumes-trans a.coming b.coming d.coming r s h.came k.came;
}

-- ---- lists of trips

pub each_more : (P : Trip → Type 0) (ts : List Trip) (t : Trip) → AllByRecursion P ts → P t → AllByRecursion P (ts ++ t ∷ [])
each_more P [] t all one = (one, tt)
each_more P (x ∷ ts) t all one = (all.0, each_more P ts t all.1 one)

pub flat_more : {A : Type 0} (f : Trip → List A) (before : List A) (ts : List Trip) (t : Trip)
    → (before ++ flat_map f ts) ++ f t ≡ before ++ flat_map f (ts ++ t ∷ [])
flat_more f before ts t =
    append_assoc before (flat_map f ts) (f t)
    ∙ ap (λ l. before ++ l) (ap (λ l. flat_map f ts ++ l) (sym (append-nil (f t))) ∙ sym (flat_map-append f ts (t ∷ [])))

-- ---- while a talk goes on

pub begun : (old now : TalkState) (ask : Ask) (shown : Pairs → Type 0) → Begins old now ask → Going old now ask shown 0
begun old now ask shown b = record {
  trips = [];
  many = refl;
  says = b.says;
  whole = tt;
  told = λ ps are. tt;
  moves = record {
    notes = b.sends.moves.notes;
    sent = rw (append-nil (frame_bytes (asking_frame ask))) b.sends.moves.sent;
    came = b.sends.moves.came;
  };
}

-- where less is known to be shown
pub fewer : (old now : TalkState) (ask : Ask) (more less : Pairs → Type 0) (n : ℕ) → ((ps : Pairs) → less ps → more ps)
    → Going old now ask more n → Going old now ask less n
fewer old now ask more less n shown going = record {
  trips = going.trips;
  many = going.many;
  says = going.says;
  whole = going.whole;
  told = λ ps are. going.told ps (shown ps are);
  moves = going.moves;
}

-- a query came and got its frame
pub next_trip : (old now heard new : TalkState) (ask : Ask) (shown : Pairs → Type 0) (n : ℕ) (query : Frame)
    → Going old now ask shown n → Hears now heard query → asks_more (Says query) ≡ true → Tells heard new shown query → Going old new ask shown (n + 1)
next_trip old now heard new ask shown n query going h asks t =
    let trip : Trip = record { query = query; told = t.told } in
    let moved = moves_more old now heard _ _ _ _ _ _ going.moves h.moves in
    let all = moves_more old heard new _ _ _ _ _ _ moved t.sends.moves in
    record {
      trips = going.trips ++ trip ∷ [];
      many = length-append going.trips (trip ∷ []) ∙ ap (λ k. k + 1) going.many;
      says = going.says;
      whole = each_more IsWholeTrip going.trips trip going.whole
          (record { query = h.whole; asks = asks; told = t.is.whole; kind = t.is.kind });
      told = λ ps are. each_more _ going.trips trip (going.told ps are) (t.is.shows ps are);
      moves = record {
        notes = record {
          ready = all.notes.ready;
          noted = all.notes.noted ∙ ap (λ (l : List Event). old.events ++ l) (both_events ask going.trips trip);
        };
        sent = rw (sym (both_told ask going.trips trip)) all.sent;
        came = rw (sym (both_asked going.trips trip)) all.came;
      };
    }
  where
    both_events : (ask : Ask) (ts : List Trip) (t : Trip)
        → (events_so_far ask ts ++ frame_event t.query ∷ []) ++ frame_event t.told ∷ [] ≡ events_so_far ask (ts ++ t ∷ [])
    both_events ask ts t =
        append_assoc (events_so_far ask ts) (frame_event t.query ∷ []) (frame_event t.told ∷ [])
        ∙ flat_more trip_events (frame_event (asking_frame ask) ∷ []) ts t

    both_told : (ask : Ask) (ts : List Trip) (t : Trip) → (told_so_far ask ts ++ []) ++ frame_bytes t.told ≡ told_so_far ask (ts ++ t ∷ [])
    both_told ask ts t =
        ap (λ (l : List ℕ). l ++ frame_bytes t.told) (append-nil (told_so_far ask ts)) ∙ flat_more (λ x. frame_bytes x.told) (frame_bytes (asking_frame ask)) ts t

    both_asked : (ts : List Trip) (t : Trip) → (asked_so_far ts ++ frame_bytes t.query) ++ [] ≡ asked_so_far (ts ++ t ∷ [])
    both_asked ts t = append-nil (asked_so_far ts ++ frame_bytes t.query) ∙ flat_more (λ x. frame_bytes x.query) [] ts t
