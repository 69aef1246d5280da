use Rattle.std.proofs.Common.{ap, ◌≤◌, ◌-◌, length, arith}
use Rattle.fuse_session.specs.Port.{PortState}
use Rattle.fuse_session.proofs.Pieces.{piece_from, copied_is, copied_length, room}
use Rattle.fuse_session.proofs.Transcripts.{one_received}
use Rattle.fuse_session.proofs.memory.MemoryPortPort.receive.Goals as goal

pub returns-clause-received : goal.returns-clause-received
returns-clause-received c =
    let p = c.next_arrival.new.self in
    let same = c.next_arrival.ensures.told in
    let n = c.min-n.result in
    let copied = copied_is p.input.items c.copy_from_slice.new.self c.deref.result.now p.at n c.copy_from_slice.ensures.after c.deref.ensures.value in
    let fits : n ≤ length p.input.items - p.at = omega (arith, c.min.ensures, c.min-n.ensures, c.len.ensures, p.input.ok.0) in
    let len = copied_length p.input.items c.copy_from_slice.new.self p.at n copied fits in
    record {
      bytes = (
        room c.copy_from_slice.new.self _ n len,
        piece_from _ p.input.items c.copy_from_slice.new.self _ p.at n
            (ap (λ (t : PortState). t.coming) same) len copied,
      );
      sent = ap (λ (t : PortState). t.sent) same;
      receives = ap (λ (t : PortState). t.receives) same;
      has_ended = ap (λ (t : PortState). t.has_ended) same;
      ends = omega (arith, ap (λ (t : PortState). t.ends) same);
      failures = omega (arith, ap (λ (t : PortState). t.failures) same);
      receive_failures = omega (arith, ap (λ (t : PortState). t.receive_failures) same);
      confirms = ap (λ (t : PortState). t.confirms) same;
      gone = ap (λ (t : PortState). t.gone) same;
    }

pub returns-clause-same : goal.returns-clause-same
returns-clause-same c = one_received _ _ _ _ (returns-clause-received c)
