-- The output of a replay: a line for each answer.
use Rattle.std.proofs.Common.{◌≡◌, ◌==◌, ℕ, Bool, true, List, [], ◌∷◌, Option, Some, None, refl, subst, arith}
use Rattle.std.specs.List.{AllByRecursion}
use Rattle.fuse_wire.specs.declared.moment.Moment.{Moment}
use Rattle.fuse_request.specs.declared.class.Class.{Class}
use Rattle.fuse_request.specs.declared.class.Class.TheVariants.{Silent, Bare, Kept, Seen}
use Rattle.fuse_request.specs.Stream.{joined}
use Rattle.fuse_request.specs.Classes.{class_for}
use Rattle.fuse_answer.specs.Said.{Said, FitsAnswer}
use Rattle.fuse_answer.specs.Laws.{BeginsWithLen, LenStandsFirst}
use Rattle.fuse_keeper.specs.Model.{Model}
use Rattle.fuse_keeper.specs.History.{Entry, entry_id, History, answer_to, after, grown, said, SaidFits}
use Rattle.fuse_keeper.specs.KeeperState.{KeeperState}
use Rattle.fuse_session.specs.declared.counts.SessionCounts.{SessionCounts}
use Rattle.fuse_session.specs.Processed.{Timed, kept_in, entries_at, answers_to, own_answers, answer_by, timed_entry, unique_of, message_id}
use Rattle.fuse_commands.specs.declared.ending.Ending.{Ending}
use Rattle.fuse_commands.specs.Replaying.{Replayed, Faulted, Prints, PrintsAnswers}
use Rattle.fuse_commands.specs.inner.Sending.{IsAnswer, SendsAnswers}

begins_answer : (a : List ℕ) → BeginsWithLen a → IsAnswer a
begins_answer [] b = tt
begins_answer (x ∷ xs) b = b

answer_begins : LenStandsFirst → (class : Class) (o : Option Said) (seen : Said) (unique : ℕ) → ((a : Said) → o ≡ Some a → FitsAnswer a) → FitsAnswer seen
    → IsAnswer (answer_by class o seen unique)
answer_begins len Silent o seen unique fits fit = tt
answer_begins len (Bare errno) o seen unique fits fit = begins_answer _ (len errno.0 [] unique (omega arith))
answer_begins len Kept None seen unique fits fit = tt
answer_begins len Kept (Some a) seen unique fits fit = begins_answer _ (len a.errno a.body unique (fits a refl).short)
answer_begins len Seen o seen unique fits fit = begins_answer _ (len seen.errno seen.body unique fit.short)

same_id : (n : ℕ) → (n == n) ≡ true
same_id n = grind arith

-- the answer of a state is said of a history of one entry
said_alone : (M : Model) → (s : M.State) (e : Entry) → said M s (e ∷ []) (entry_id e) ≡ Some (answer_to M s e)
unfolding said
said_alone M s e = rw (same_id (entry_id e)) refl

state_fits : (M : Model) → SaidFits M → (s : M.State) (e : Entry) → FitsAnswer (answer_to M s e)
state_fits M fits s e = fits s (e ∷ []) (entry_id e) (answer_to M s e) (said_alone M s e)

answers_begin : (M : Model) → LenStandsFirst → SaidFits M → (s : M.State) (g h : History) (timed : List Timed)
    → AllByRecursion IsAnswer (answers_to M s g h timed)
answers_begin M len fits s g h [] = tt
answers_begin M len fits s g h (t ∷ timed) = (
  answer_begins len (class_for M.service t.bytes) (said M s g (message_id t.bytes)) (answer_to M (after M s h) (timed_entry t)) (unique_of t.bytes)
      (fits s g (message_id t.bytes)) (state_fits M fits (after M s h) (timed_entry t)),
  answers_begin M len fits s g (grown h (entries_at M.service t)) timed,
)

pub printed : {M : Model} → LenStandsFirst → SaidFits M
    → (k k' : KeeperState M) (moment : Moment) (input sent : List ℕ) (counts : SessionCounts) (ending : Ending) (shows : Bool)
    (written written' : Option (List ℕ))
    → ((answers : List (List ℕ)) → AllByRecursion IsAnswer answers → sent ≡ joined answers → Prints shows written written' answers counts)
    → Replayed k k' moment input ending (SendsAnswers sent counts) → Replayed k k' moment input ending (Prints shows written written')
printed {M} len fits k k' moment input sent counts ending shows written written' prints r = record {
  parts = r.parts;
  are = r.are;
  processed = λ honest s h t so may.
      let d = r.processed honest s h t so may in
      let timed = r.parts.timed in
      let answers = own_answers M s h timed in
      let begin = answers_begin M len fits s (grown h (kept_in M.service timed)) h timed in
      record {
        works = d.works;
        stood = d.stood;
        gave = subst (Prints shows written written' answers) d.gave.1 (prints answers begin d.gave.0);
      };
  ends = r.ends;
}

pub fault_printed : {M : Model} → LenStandsFirst → SaidFits M
    → (k k' : KeeperState M) (moment : Moment) (input sent : List ℕ) (ending : Ending) (written written' : Option (List ℕ))
    → ((answers : List (List ℕ)) → AllByRecursion IsAnswer answers → sent ≡ joined answers → PrintsAnswers written written' answers)
    → Faulted k k' moment input ending (λ answers. sent ≡ joined answers) → Faulted k k' moment input ending (PrintsAnswers written written')
fault_printed {M} len fits k k' moment input sent ending written written' prints f = record {
  fault = f.fault;
  ending_is = f.ending_is;
  parts = f.parts;
  are = f.are;
  processed = λ clean s h t so may.
      let d = f.processed clean s h t so may in
      record {
        prefix = d.prefix;
        unprocessed = d.unprocessed;
        parts = d.parts;
        processed = record {
          works = d.processed.works;
          stood = d.processed.stood;
          gave =
              prints (own_answers M s h d.prefix) (answers_begin M len fits s (grown h (kept_in M.service d.prefix)) h d.prefix) d.processed.gave;
        };
      };
  may = f.may;
}
