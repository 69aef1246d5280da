-- What the frames of the engine say (defined by this project: the guest protocol, 'Frames').
use Rattle.std.specs.Prelude.{ℕ, List, map, Option, Some, None}
use Rattle.std.specs.Borrow.{Bor}
use Rattle.guest_frames.specs.declared.engine_frame.EngineFrame.{EngineFrame}
use Rattle.guest_frames.specs.declared.engine_frame.EngineFrame.TheVariants as frames
use Rattle.guest_frames.specs.declared.engine_frame.Pair.{Pair}
use Rattle.guest_frames.specs.declared.engine_frame.Request.{Request}
use Rattle.guest_frames.specs.Frames.{PairContent, RequestContent, Frame, of_hello, of_request, of_values, of_pairs}

abbrev pub request_content : Request → RequestContent
request_content r = record { secs = r.secs; nanos = r.nanos; count = r.count; message = r.message.now }

abbrev pub value_content : Option (Bor (List ℕ)) → Option (List ℕ)
value_content None = None
value_content (Some v) = Some v.now

abbrev pub pair_content : Pair → PairContent
pair_content p = record { key = p.key.now; value = p.value.now }

abbrev pub engine_content : EngineFrame → Frame
engine_content (frames.Hello h) = of_hello h
engine_content (frames.Request r) = of_request (request_content r)
engine_content (frames.Values values) = of_values (map value_content values.now)
engine_content (frames.Pairs pairs more) = of_pairs (map pair_content pairs.now) more
