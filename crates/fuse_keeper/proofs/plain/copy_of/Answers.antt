use Rattle.std.proofs.Common.{subst, ap, cond, nat_eq, Some, ◌∙◌}
use Rattle.fuse_keeper.specs.Plain.{mapped}
use Rattle.fuse_keeper.proofs.Copying.{AreAmong, AreCopied, among_rest, one_copied}
use Rattle.fuse_keeper.proofs.plain.copy_of.Goals as goal

pub loop-id-preserved-in_ok-insert : goal.loop-id-preserved-in_ok-insert
loop-id-preserved-in_ok-insert c =
    let records = mapped c.args.records.now in
    let among = subst (AreAmong records) c.in-Some.ensures.steps c.loop-id.invariant.among in
    record {
      among = among_rest records _ _ among;
      copied = one_copied records (c.in-Some.id.now, c.in-Some.answer.now) c.next.new.self (mapped c.loop-id.copy) (mapped c.insert.new.self) among
          (subst (λ left. AreCopied records left (mapped c.loop-id.copy)) c.in-Some.ensures.steps c.loop-id.invariant.copied)
          (λ i. c.in_ok-insert.ensures.updates.0 i ∙ ap (λ a. cond (nat_eq c.in-Some.id.now i) (Some a) (mapped c.loop-id.copy i)) c.in_ok-to_copy.ensures);
    }

pub loop-id-preserved : goal.loop-id-preserved
loop-id-preserved c =
    let records = mapped c.args.records.now in
    let among = subst (AreAmong records) c.in-Some.ensures.steps c.loop-id.invariant.among in
    record {
      among = among_rest records _ _ among;
      copied = one_copied records (c.in-Some.id.now, c.in-Some.answer.now) c.next.new.self (mapped c.loop-id.copy) (mapped c.insert.new.self) among
          (subst (λ left. AreCopied records left (mapped c.loop-id.copy)) c.in-Some.ensures.steps c.loop-id.invariant.copied)
          (λ i. c.in_ok-insert.ensures.updates.0 i ∙ ap (λ a. cond (nat_eq c.in-Some.id.now i) (Some a) (mapped c.loop-id.copy i)) c.in_ok-to_copy.ensures);
    }
