-- A slice that a port takes is one answer.
use Rattle.std.proofs.Common.{◌≡◌, ℕ, List, [], ◌∷◌, ◌++◌, refl, sym, ap, subst, ◌∙◌}
use Rattle.std.proofs.lemmas.List.{append-nil}
use Rattle.fuse_session.specs.declared.port.Received.{Received as Receipt}
use Rattle.fuse_session.specs.declared.port.Sent.{Sent}
use Rattle.fuse_session.specs.declared.port.Sent.TheVariants.{Took, Gone, Failed}
use Rattle.fuse_session.specs.Port.{Receives, Sends}
use Rattle.fuse_session.specs.Transcript.{one_receive, one_send}
use Rattle.lossy_port.specs.declared.line.Line.{Line}
use Rattle.lossy_port.specs.declared.port.LossyPort.{LossyPort}
use Rattle.lossy_port.specs.Losing.{through_of, Delivers}
use Rattle.lossy_port.specs.inner.OneAnswer.{Takes}
use Rattle.lossy_port.specs.Lossy.{lossy_told, Passes, Delivered}
use Rattle.lossy_port.specs.inner.Laws.{delivers_none}

pub one_taken : (a b : Line) (bytes : List ℕ) → Takes a b bytes → Delivers a b (bytes ∷ [])
one_taken a b bytes takes = record {
  sent = takes.sent ∙ ap (λ r. a.sent.items ++ r) (sym (append-nil bytes));
  delivered = takes.delivered ∙ ap (λ r. a.delivered.items ++ r) (sym (append-nil (through_of a.left bytes)));
  every = takes.every;
  left = takes.left;
}

pub none_taken : (a b : Line) → b ≡ a → Delivers a b []
none_taken a b same = subst (λ l. Delivers a l []) (sym same) (delivers_none a a (record { sent = refl; delivered = refl; every = refl; left = refl }))

-- a receive leaves the line alone
pub one_received : (a b : LossyPort) (result : Receipt) (buffer : List ℕ) → Receives (lossy_told a) (lossy_told b) result buffer → b.line ≡ a.line
    → Delivered a b (one_receive result buffer)
one_received a b result buffer receives same = record {
  steps = (lossy_told b, record { buffer = buffer; came = refl; receives = receives }, refl);
  delivers = none_taken a.line b.line same;
}

pub one_sent : (a b : LossyPort) (slice : List ℕ) (result : Sent) → Sends (lossy_told a) (lossy_told b) result slice → Passes a b slice result
    → Delivered a b (one_send slice result)
one_sent a b slice (Took n) sends passes = record { steps = (lossy_told b, sends, refl); delivers = passes.1 }
one_sent a b slice Gone sends passes = absurd passes
one_sent a b slice Failed sends passes = record { steps = (lossy_told b, sends, refl); delivers = passes.0 }
