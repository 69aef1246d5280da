-- What is said of the very deeds of a session, said of what is known of them (defined by this project).
use Rattle.std.specs.Prelude.{ℕ, List}
use Rattle.std.proofs.Common.{sym, subst}
use Rattle.fuse_keeper.specs.Model.{Model}
use Rattle.fuse_session.specs.declared.ended.Ended.{Ended}
use Rattle.fuse_session.specs.declared.ended.Served.{Served}
use Rattle.fuse_session.specs.Deeds.{Deeds, Hears}
use Rattle.fuse_session.specs.Passage.{Passage, doing, hearing}
use Rattle.fuse_session.specs.Serving.{Waiting, nothing_waits, Broken, Run}
use Rattle.fuse_session.specs.Session.{Session}

-- the same is said of other deeds, if these are among them
abbrev pub broken_did : {M : Model} → (p : Passage M) (did : Deeds → Type 0) (pending : List ℕ) (messages : List (List ℕ)) (ended : Ended)
    → (b : Broken p pending messages ended) → did b.work.deeds → Broken (record p { did = did }) pending messages ended
broken_did p did pending messages ended b done = record {
  work = record {
    timed = b.work.timed;
    marks = b.work.marks;
    deeds = b.work.deeds;
    done = done;
    batches = b.work.batches;
    are = b.work.are;
    asked = b.work.asked;
    first = b.work.first;
  };
  others = b.others;
  answer = b.answer;
  part = b.part;
  prefix = b.prefix;
  moments = b.moments;
  answered = b.answered;
  slices = b.slices;
  replied = b.replied;
  exactly = λ between. record {
    no_part = (b.exactly between).no_part;
    slices = (b.exactly between).slices;
    exact = (b.exactly between).exact;
  };
  life = b.life;
  crash = b.crash;
  few = b.few;
  looked = b.looked;
}

abbrev pub run_did : {M : Model} → (p : Passage M) (deeds : Deeds) (before : Waiting) (ended : Ended) → p.did deeds → Run (doing p deeds) before ended
    → Run p before ended
run_did p deeds before ended done run = record {
  received = run.received;
  came = run.came;
  broken = broken_did (hearing (doing p deeds) run.received) (Hears p.did run.received) before.pending _ ended run.broken
      (subst p.did (sym run.broken.work.done.0) done, run.broken.work.done.1);
}

-- the life of a session
abbrev pub life_of : {M : Model} → {p : Passage M} {turns : ℕ} {served : Served} → Session p turns served → Run p nothing_waits served.ended
life_of {p = p} {served = served} x = run_did p x.deeds nothing_waits served.ended x.done x.life
