-- A whole session: all that `serve` promises, over the keeper and the port before and after it (defined by this project).
use Rattle.std.specs.Prelude.{◌≡◌, ◌↔◌, ◌<◌, ◌≤◌, ◌+◌, ℕ, true, false}
use Rattle.fuse_keeper.specs.Model.{Model}
use Rattle.fuse_keeper.specs.KeeperState.{AnswersNoMore}
use Rattle.fuse_session.specs.declared.ended.Ended.TheVariants.{PortFailed}
use Rattle.fuse_session.specs.declared.ended.Served.{Served}
use Rattle.fuse_session.specs.Deeds.{Deeds}
use Rattle.fuse_session.specs.Passage.{Passage, doing}
use Rattle.fuse_session.specs.Ended.{ended_store, IsIntact}
use Rattle.fuse_session.specs.Starts.{AddsFew}
use Rattle.fuse_session.specs.Serving.{nothing_waits, Run, KeepsFirm}
use Rattle.fuse_session.specs.Prompt.{Prompt}
use Rattle.fuse_session.specs.Ends.{SessionEnds}
use Rattle.fuse_session.specs.Grouping.{AsksGroups}

-- a session that received at most so often, and how it was served: the clauses of `serve`
pub record Session {M : Model} (p : Passage M) (turns : ℕ) (served : Served) : Type 0 where
  -- what it did: `ends`, `life`, `prompt` and `groups` speak of this, and so of the same bytes that came
  pub deeds : Deeds
  pub done : p.did deeds
  -- the messages that were processed and answered at each of the ends, and their counts; what the keeper was asked to perform, batch
  -- by batch, with which settled ids; and the slices that the port was handed, each all that is left of one answer
  pub ends : SessionEnds (doing p deeds) turns served
  -- however it ended: the bytes sent are a prefix of the answers to messages that the keeper stands for, and that whatever a crash
  -- leaves stands for; each slice that the port was handed is of the next of these, that of a write that failed too; and few of the
  -- ids that the answers settled have a record. Where the store or a lack of memory ended it, exactly the answers to some of the
  -- messages were sent. Up to the first message that comes again, each answer is the one to be sent. If no message is kept, the
  -- keeper holds what it held, no lot is taken, and a crash leaves no more than before
  pub life : Run (doing p deeds) nothing_waits served.ended
  -- before more is received, all that came is answered, and nothing ended the session; where nothing more comes, it stops
  pub prompt : Prompt p deeds
  -- the keeper was asked to perform the groups of what came: of the messages that are whole after a receive, 16 kept and seen ones
  -- at once, fewer only where a kept DESTROY ends them, a zero one follows, or no more are whole
  pub groups : AsksGroups M.service deeds
  -- on a port that confirms, the records are some of those of before and at most 16 more, which are under one lot
  pub lots : p.port.confirms ≡ true → IsIntact p.keeper' served.ended
      → AddsFew p.keeper p.keeper'
  -- it received no more often than it may, and ended by the port and by the store exactly where they failed
  pub receives : p.port'.receives ≤ p.port.receives + turns
  pub failed : (served.ended ≡ PortFailed) ↔ (p.port.failures < p.port'.failures)
  pub store : p.keeper'.has_failed ≡ ended_store served.ended
  -- the keeper and its medium afterwards: unless the store ended it, a crash leaves no more than is held, if so it was before
  pub firm : ended_store served.ended ≡ false → KeepsFirm p.keeper p.keeper'
  pub honest : p.keeper'.is_honest → p.keeper.is_honest
  pub medium : p.keeper.in_memory → p.keeper'.in_memory
  pub service : p.keeper'.service ≡ p.keeper.service
  pub may : AnswersNoMore p.keeper p.keeper'
