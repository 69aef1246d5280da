-- The state of a port over a reader and a writer (defined by this project).
use Rattle.std.specs.Prelude.{ℕ, nat_lt, List, [], Option}
use Rattle.fuse_session.specs.declared.stream.StreamPort.{StreamPort}
use Rattle.fuse_session.specs.Port.{PortState}

-- the bytes that are to come from the reader, and those that the writer holds
abbrev pub stream_told : {R W : Type 0} → (R → Option (List ℕ)) → (W → Option (List ℕ)) → StreamPort R W → PortState
stream_told remaining contents p = record {
  coming = remaining p.reader;
  sent = contents p.writer;
  receives = p.receives;
  has_ended = nat_lt 0 p.ends;
  ends = p.ends;
  failures = p.failures;
  receive_failures = p.receive_failures;
  confirms = p.confirms;
  gone = [];
}
