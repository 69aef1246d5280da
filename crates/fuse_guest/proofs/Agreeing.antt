-- Conversations have the reply of the model, and some guest agrees with all of them.
use Rattle.std.proofs.Common.{◌≡◌, ◌<◌, ◌+◌, ◌⊎◌, inl, inr, ℕ, zero, suc, Bool, true, false, List, [], ◌∷◌, ◌++◌, length, Some, Err, refl, ap, ◌∙◌, subst, arith}
use Rattle.std.specs.Prelude.{◌==◌, ◌&&◌, if◌then◌else◌}
use Rattle.std.specs.List.{AllByRecursion}
use Rattle.std.proofs.lemmas.Bool.{and_from, eq-eqb}
use Rattle.fuse_wire.specs.declared.moment.Moment.{Moment}
use Rattle.fuse_request.specs.Act.{Asked}
use Rattle.guest_frames.specs.Frames.{Frame, of_get, of_scan, HasRightParts}
use Rattle.fuse_guest.specs.declared.fault.TalkFault.TheVariants.{Ended, TooManyFrames}
use Rattle.fuse_guest.specs.Pairs.{Pairs}
use Rattle.fuse_guest.specs.Talk.{Turn, Says, Fails, IsRightTurn, Ending, handed, max_frames, after_turn, ending, checked_answer, talk_end}
use Rattle.fuse_guest.specs.Telling.{told_for}
use Rattle.fuse_guest.specs.Conversations.{Trip, Conversation, AreToldOf, asks_more, SaysAll, ending_by, HasReply, IsRightConversation, is_about, AreSeparate, OneGuest}

-- ---- the reply of the model

abbrev GoesOn : Type 0
GoesOn = Frame → Ending

same_told : (f g : Frame) → Some f ≡ Some g → f ≡ g
same_told f g same = cc

-- a query gets its frame, and the talk goes on
goes_on : (ps : Pairs) (go_on : GoesOn) (q told : Frame) → told_for ps q ≡ Some told → after_turn ps go_on (Says q) ≡ go_on told
goes_on ps go_on (of_get keys) told is = ap go_on (same_told _ told is)
goes_on ps go_on (of_scan s) told is = ap go_on (same_told _ told is)
goes_on ps go_on _ told is = absurd cc

-- a turn that asks for nothing ends it
ends : (ps : Pairs) (go_on : GoesOn) (last : Turn) → asks_more last ≡ false → after_turn ps go_on last ≡ ending_by last
ends ps go_on (Fails fault) silent = refl
ends ps go_on (Says (of_get keys)) silent = absurd cc
ends ps go_on (Says (of_scan s)) silent = absurd cc
ends ps go_on (Says _) silent = refl

-- and so does a turn after which nothing may come
ends_last : (ps : Pairs) (last : Turn) → after_turn ps (λ told. Err TooManyFrames) last ≡ ending_by last
ends_last ps (Fails fault) = refl
ends_last ps (Says _) = refl

no_frames : (says : List Frame → Turn) (ps : Pairs) (n : ℕ) (told : List Frame) → n ≡ zero → ending says ps n told ≡ Err TooManyFrames
unfolding ending
no_frames says ps n told none = ap (λ m. ending says ps m told) none

replies : (says : List Frame → Turn) (ps : Pairs) (n : ℕ) (told : List Frame) (trips : List Trip) (last : Turn) → AreToldOf ps trips
    → SaysAll says told trips last → length trips < n → (asks_more last ≡ false) ⊎ (length trips + 1 ≡ n) → ending says ps n told ≡ ending_by last
unfolding ending
replies says ps zero told trips last told_right says_all few over = absurd (omega (arith, few))
replies says ps (suc n) told [] last told_right says_all few (inl silent) =
    ap (after_turn ps (λ f. ending says ps n (told ++ f ∷ []))) says_all ∙ ends ps (λ f. ending says ps n (told ++ f ∷ [])) last silent
replies says ps (suc n) told [] last told_right says_all few (inr all) =
    ap (after_turn ps (λ f. ending says ps n (told ++ f ∷ []))) says_all
    ∙ ap (λ (go_on : GoesOn). after_turn ps go_on last) (λ i f. no_frames says ps n (told ++ f ∷ []) (omega (arith, all)) i)
    ∙ ends_last ps last
replies says ps (suc n) told (t ∷ ts) last told_right says_all few over =
    ap (after_turn ps (λ f. ending says ps n (told ++ f ∷ []))) says_all.0
    ∙ goes_on ps (λ f. ending says ps n (told ++ f ∷ [])) t.query t.told told_right.0
    ∙ replies says ps n (told ++ t.told ∷ []) ts last told_right.1 says_all.1 (omega (arith, few)) (one_less n ts last over)
  where
    one_less : (n : ℕ) (ts : List Trip) (last : Turn) → (asks_more last ≡ false) ⊎ (suc (length ts) + 1 ≡ suc n) → (asks_more last ≡ false) ⊎ (length ts + 1 ≡ n)
    one_less n ts last (inl silent) = inl silent
    one_less n ts last (inr all) = inr (omega (arith, all))

pub has_reply : HasReply
unfolding talk_end
has_reply G ps a c is told_right whole agrees =
    let says_all = subst (λ (asked : Asked). SaysAll (G.says asked c.now) [] c.trips c.last) is agrees in
    ap (checked_answer G.ready a.act) (replies (G.says (handed a) c.now) ps max_frames [] c.trips c.last told_right says_all whole.few whole.over)

-- ---- one guest

-- what was said after so much
abbrev said_in : List Trip → Turn → List Frame → Turn
said_in [] last told = last
said_in (t ∷ ts) last [] = Says t.query
said_in (t ∷ ts) last (f ∷ told) = said_in ts last told

abbrev said_by : List Conversation → Asked → Moment → List Frame → Turn
said_by [] asked now told = Fails Ended
said_by (c ∷ cs) asked now told = if is_about asked now c then said_in c.trips c.last told else said_by cs asked now told

turn_right : (trips : List Trip) (last : Turn) → AllByRecursion (λ (t : Trip). HasRightParts t.query) trips → IsRightTurn last → (told : List Frame)
    → IsRightTurn (said_in trips last told)
turn_right [] last each right told = right
turn_right (t ∷ ts) last each right [] = each.0
turn_right (t ∷ ts) last each right (f ∷ told) = turn_right ts last each.1 right told

if_right : (b : Bool) (one two : Turn) → IsRightTurn one → IsRightTurn two → IsRightTurn (if b then one else two)
if_right true one two first second = first
if_right false one two first second = second

all_right : (cs : List Conversation) → AllByRecursion IsRightConversation cs → (asked : Asked) (now : Moment) (told : List Frame)
    → IsRightTurn (said_by cs asked now told)
all_right [] each asked now told = tt
all_right (c ∷ cs) each asked now told =
    if_right (is_about asked now c) (said_in c.trips c.last told) (said_by cs asked now told) (turn_right c.trips c.last each.0.0 each.0.1 told)
    (all_right cs each.1 asked now told)

-- ---- it says all of one conversation

append_assoc_one : (before told : List Frame) (f : Frame) → (before ++ f ∷ []) ++ told ≡ before ++ f ∷ told
append_assoc_one [] told f = refl
append_assoc_one (g ∷ before) told f = ap (λ l. g ∷ l) (append_assoc_one before told f)

-- a guest that after `before` says what is left of the conversation
abbrev GoesBy : (List Frame → Turn) → List Frame → List Trip → Turn → Type 0
GoesBy says before rest last = (told : List Frame) → says (before ++ told) ≡ said_in rest last told

no_more : (before : List Frame) → before ≡ before ++ []
no_more [] = refl
no_more (f ∷ before) = ap (λ l. f ∷ l) (no_more before)

says_rest : (says : List Frame → Turn) (before : List Frame) (rest : List Trip) (last : Turn) → GoesBy says before rest last → SaysAll says before rest last
says_rest says before [] last goes = ap says (no_more before) ∙ goes []
says_rest says before (t ∷ ts) last goes = (
  ap says (no_more before) ∙ goes [],
  says_rest says (before ++ t.told ∷ []) ts last (λ told. ap says (append_assoc_one before told t.told) ∙ goes (t.told ∷ told)),
)

about_itself : (c : Conversation) → is_about c.asked c.now c ≡ true
about_itself c =
    and_from (c.asked.header.unique == c.asked.header.unique) (c.now.secs == c.now.secs && c.now.nanos == c.now.nanos)
    (eq-eqb c.asked.header.unique c.asked.header.unique refl)
    (and_from (c.now.secs == c.now.secs) (c.now.nanos == c.now.nanos) (eq-eqb c.now.secs c.now.secs refl) (eq-eqb c.now.nanos c.now.nanos refl))

at_first : (c : Conversation) (cs : List Conversation) → SaysAll (said_by (c ∷ cs) c.asked c.now) [] c.trips c.last
at_first c cs =
    says_rest (said_by (c ∷ cs) c.asked c.now) [] c.trips c.last
    (λ told. ap (λ (b : Bool). if b then said_in c.trips c.last told else said_by cs c.asked c.now told) (about_itself c))

-- what says the same as another one says all that it says
says_same : (f g : List Frame → Turn) → ((told : List Frame) → f told ≡ g told) → (before : List Frame) (trips : List Trip) (last : Turn)
    → SaysAll g before trips last → SaysAll f before trips last
says_same f g same before [] last says_all = same before ∙ says_all
says_same f g same before (t ∷ ts) last says_all = (same before ∙ says_all.0, says_same f g same (before ++ t.told ∷ []) ts last says_all.1)

abbrev SaidBy : List Conversation → Conversation → Type 0
SaidBy cs d = SaysAll (said_by cs d.asked d.now) [] d.trips d.last

past_first : (c : Conversation) (cs ds : List Conversation) → AllByRecursion (λ (d : Conversation). is_about d.asked d.now c ≡ false) ds
    → AllByRecursion (SaidBy cs) ds → AllByRecursion (SaidBy (c ∷ cs)) ds
past_first c cs [] apart said = tt
past_first c cs (d ∷ ds) apart said = (
  says_same (said_by (c ∷ cs) d.asked d.now) (said_by cs d.asked d.now)
      (λ told. ap (λ (b : Bool). if b then said_in c.trips c.last told else said_by cs d.asked d.now told) apart.0) [] d.trips d.last said.0,
  past_first c cs ds apart.1 said.1,
)

all_said : (cs : List Conversation) → AreSeparate cs → AllByRecursion (SaidBy cs) cs
all_said [] apart = tt
all_said (c ∷ cs) apart = (at_first c cs, past_first c cs cs apart.0 (all_said cs apart.1))

pub one_guest : OneGuest
one_guest r cs each apart = (record { ready = r; says = said_by cs; right = all_right cs each }, refl, all_said cs apart)
