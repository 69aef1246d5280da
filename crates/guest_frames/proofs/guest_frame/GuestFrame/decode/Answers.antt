use Rattle.std.proofs.Common.{arith}
use Rattle.guest_frames.proofs.Decoded.{decoded, decoded_kind, decoded_only}
use Rattle.guest_frames.proofs.guest_frame.GuestFrame.decode.Goals as goal

pub returns-clause-found : goal.returns-clause-found
returns-clause-found c =
    decoded c.numbers_read.ensures c.layouts_stand.ensures c.args.kind c.args.payload.now c.payload_of.result (λ i. omega (arith, c.type_inv.payload i)) c.payload_of.ensures

pub returns-clause-kind : goal.returns-clause-kind
returns-clause-kind c =
    decoded_kind c.numbers_read.ensures c.layouts_stand.ensures c.args.kind c.args.payload.now c.payload_of.result (λ i. omega (arith, c.type_inv.payload i)) c.payload_of.ensures

pub returns-clause-only : goal.returns-clause-only
returns-clause-only c =
    λ f of_kind s. decoded_only c.numbers_read.ensures c.layouts_stand.ensures c.args.kind c.args.payload.now f c.payload_of.result of_kind s c.payload_of.ensures
