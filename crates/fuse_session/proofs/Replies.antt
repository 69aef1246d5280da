-- Answers that were sent, one after another, and the places that a port reports.
use Rattle.std.proofs.Common.{◌≡◌, ℕ, Bool, true, false, List, [], ◌∷◌, ◌++◌, length, Option, Some, None, refl, sym, ap, subst, ◌∙◌, append_assoc}
use Rattle.std.specs.Prelude.{IfSome}
use Rattle.std.proofs.lemmas.List.{append-nil, map-append}
use Rattle.std.proofs.lemmas.List.Concat.{flat_map-append}
use Rattle.std.specs.Io.KnownBytes.{Appends, append_known}
use Rattle.fuse_request.specs.Stream.{joined}
use Rattle.fuse_session.specs.Port.{PortState, MoreGone, SentWhole, SentPart}
use Rattle.fuse_session.specs.Settling.{Mark, replies, PlaceFirst, Places, GoneHaveBytes, Replied}
use Rattle.fuse_session.proofs.Bytes.{appends_none, appends_more}

pub joined-append : (xs ys : List (List ℕ)) → joined (xs ++ ys) ≡ joined xs ++ joined ys
joined-append xs ys = flat_map-append (λ (m : List ℕ). m) xs ys

pub replies-append : (ms ns : List Mark) → replies (ms ++ ns) ≡ replies ms ++ replies ns
replies-append ms ns = map-append (λ (m : Mark). m.reply) ms ns

pub joined_replies : (ms ns : List Mark) → joined (replies (ms ++ ns)) ≡ joined (replies ms) ++ joined (replies ns)
joined_replies ms ns = ap joined (replies-append ms ns) ∙ joined-append (replies ms) (replies ns)

-- ---- places

first_unknown : (b : Bool) (sent : Option (List ℕ)) (L L' : List ℕ → Type 0) (ps : List ℕ) → ((q : List ℕ) → L q → L' q) → PlaceFirst b sent L ps
    → PlaceFirst b None L' ps
first_unknown true sent L L' ps f p = (p.0, p.1, p.2, tt, f p.1 p.4)
first_unknown false sent L L' ps f p = f ps p

places_unknown : (o : Option (List ℕ)) (ms : List Mark) (ps : List ℕ) → Places o ms ps → Places None ms ps
places_unknown o [] ps p = p
places_unknown o (m ∷ ms) ps p = first_unknown m.gone (append_known o m.reply) (Places (append_known o m.reply) ms) (Places None ms) ps
    (λ q l. places_unknown (append_known o m.reply) ms q l) p

first_append : (b : Bool) (sent : Option (List ℕ)) (L L' : List ℕ → Type 0) (ps qs : List ℕ) → ((p : List ℕ) → L p → L' (p ++ qs)) → PlaceFirst b sent L ps
    → PlaceFirst b sent L' (ps ++ qs)
first_append true sent L L' ps qs f p = (p.0, p.1 ++ qs, ap (λ (r : List ℕ). r ++ qs) p.2, p.3, f p.1 p.4)
first_append false sent L L' ps qs f p = f ps p

appends_shift : (o mid : Option (List ℕ)) (reply rest : List ℕ) → Appends o mid (reply ++ rest) → Appends (append_known o reply) mid rest
appends_shift None mid reply rest a = tt
appends_shift (Some p) None reply rest a = absurd a
appends_shift (Some p) (Some q) reply rest a = a ∙ sym (append_assoc p reply rest)

places_from : (o mid : Option (List ℕ)) (ys : List Mark) (qs : List ℕ) → Appends o mid [] → Places mid ys qs → Places o ys qs
places_from None mid ys qs a p = places_unknown mid ys qs p
places_from (Some p) None ys qs a l = absurd a
places_from (Some p) (Some q) ys qs a l = subst (λ x. Places (Some x) ys qs) (a ∙ append-nil p) l

places-append : (o mid : Option (List ℕ)) (xs ys : List Mark) (ps qs : List ℕ) → Appends o mid (joined (replies xs)) → Places o xs ps → Places mid ys qs
    → Places o (xs ++ ys) (ps ++ qs)
places-append o mid [] ys ps qs a none p = subst (λ r. Places o ys (r ++ qs)) (sym none) (places_from o mid ys qs a p)
places-append o mid (x ∷ xs) ys ps qs a one two =
    let o' = append_known o x.reply in
    first_append x.gone o' (Places o' xs) (Places o' (xs ++ ys)) ps qs
    (λ p l. places-append o' mid xs ys p qs (appends_shift o mid x.reply (joined (replies xs)) a) l two) one

known_place : (o mid : Option (List ℕ)) (reply : List ℕ) (place : ℕ) → Appends o mid reply → IfSome mid (λ bytes. place ≡ length bytes)
    → IfSome (append_known o reply) (λ bytes. place ≡ length bytes)
known_place None mid reply place a at = tt
known_place (Some p) None reply place a at = absurd a
known_place (Some p) (Some q) reply place a at = at ∙ ap length a

-- ---- answers

gone-append : (ms ns : List Mark) → GoneHaveBytes ms → GoneHaveBytes ns → GoneHaveBytes (ms ++ ns)
gone-append [] ns one two = two
gone-append (m ∷ ms) ns one two = (one.0, gone-append ms ns one.1 two)

pub replied_none : (p : PortState) → Replied p p [] []
replied_none p = record { sent = appends_none p.sent; some = tt; places = []; gone = sym (append-nil p.gone); placed = refl; confirms = refl }

pub replied_more : (a b c : PortState) (ms ns : List Mark) (part : List ℕ) → Replied a b ms [] → Replied b c ns part → Replied a c (ms ++ ns) part
replied_more a b c ms ns part one two = record {
  sent = subst (Appends a.sent c.sent)
      (ap (λ (r : List ℕ). r ++ (joined (replies ns) ++ part)) (append-nil (joined (replies ms)))
      ∙ sym (append_assoc (joined (replies ms)) (joined (replies ns)) part)
      ∙ ap (λ (r : List ℕ). r ++ part) (sym (joined_replies ms ns)))
      (appends_more a.sent b.sent c.sent (joined (replies ms) ++ []) (joined (replies ns) ++ part) one.sent two.sent);
  some = gone-append ms ns one.some two.some;
  places = one.places ++ two.places;
  gone = two.gone ∙ ap (λ (g : List ℕ). g ++ two.places) one.gone ∙ append_assoc a.gone one.places two.places;
  placed = places-append a.sent b.sent ms ns one.places two.places (subst (Appends a.sent b.sent) (append-nil (joined (replies ms))) one.sent) one.placed
      two.placed;
  confirms = two.confirms ∙ one.confirms;
}

one_place : (old new : PortState) (reply : List ℕ) (b : Bool) → Appends old.sent new.sent reply → MoreGone b old.gone new.gone new.sent
    → (places : List ℕ) × (new.gone ≡ old.gone ++ places) × PlaceFirst b (append_known old.sent reply) (λ q. q ≡ []) places
one_place old new reply true sent g = (g.0 ∷ [], g.1, (g.0, [], refl, known_place old.sent new.sent reply g.0 sent g.2, refl))
one_place old new reply false sent g = ([], g ∙ sym (append-nil old.gone), refl)

-- one answer
pub replied_one : (old new : PortState) (mark : Mark) → SentWhole old new mark.reply mark.gone → Replied old new (mark ∷ []) []
replied_one old new mark s =
    let p = one_place old new mark.reply mark.gone s.sent s.gone in
    record {
      sent = subst (Appends old.sent new.sent) (sym (append-nil mark.reply) ∙ sym (append-nil (mark.reply ++ []))) s.sent;
      some = (s.some, tt);
      places = p.0;
      gone = p.1;
      placed = p.2;
      confirms = s.quiet.confirms;
    }

-- a part of one
pub replied_part : (old new : PortState) (bytes : List ℕ) → (s : SentPart old new bytes) → Replied old new [] s.part
replied_part old new bytes s = record {
  sent = s.sent;
  some = tt;
  places = [];
  gone = s.gone ∙ sym (append-nil old.gone);
  placed = refl;
  confirms =
      s.quiet.confirms;
}
