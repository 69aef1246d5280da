-- Notes for the record, as steps of a talk.
use Rattle.std.proofs.Common.{◌≡◌, ℕ, List, [], ◌∷◌, ◌++◌, drop, refl, sym, ap, ◌∙◌, append_assoc}
use Rattle.std.specs.Io.KnownBytes.{Appends}
use Rattle.std.proofs.KnownBytes.{Consumes-nil}
use Rattle.std.proofs.lemmas.List.{append-nil}
use Rattle.guest_frames.specs.Frames.{Frame, frame_kind}
use Rattle.fuse_guest.specs.declared.fault.TalkFault.{TalkFault}
use Rattle.guest_talk.specs.declared.outgoing.Outgoing.{Outgoing}
use Rattle.guest_talk.specs.Events.{Event, event_of, frame_event, fault_event}
use Rattle.guest_talk.specs.TalkState.{TalkState}
use Rattle.guest_talk.specs.inner.Pipes.{IsPipeFault}
use Rattle.guest_talk.specs.inner.Writes.{IsWritten}
use Rattle.guest_talk.specs.inner.Turns.{Notes, Sends, SendsNot}

pub no_notes : (s : TalkState) → Notes s s []
no_notes s = record { ready = refl; noted = sym (append-nil s.events) }

pub written_event : (f : Frame) (out : Outgoing) → IsWritten f out → event_of (out.kind ∷ []) (drop 8 out.bytes.items) ≡ frame_event f
written_event f out w = ap (λ (k : ℕ). event_of (k ∷ []) (drop 8 out.bytes.items)) w.kind ∙ ap (λ (b : List ℕ). event_of (frame_kind f ∷ []) (drop 8 b)) w.bytes

pub sent_well : (old new : TalkState) (f : Frame) (out : Outgoing) → IsWritten f out → new.ready ≡ old.ready
    → new.events ≡ old.events ++ event_of (out.kind ∷ []) (drop 8 out.bytes.items) ∷ [] → Appends old.sent new.sent out.bytes.items
    → new.coming ≡ old.coming → Sends old new f
sent_well old new f out w ready noted sent coming = record {
  moves = record {
    notes = record { ready = ready; noted = noted ∙ ap (λ (e : Event). old.events ++ e ∷ []) (written_event f out w) };
    sent = rw w.bytes at sent;
    came = rw coming (Consumes-nil old.coming);
  };
}

pub sent_ill : (old mid new : TalkState) (f : Frame) (out : Outgoing) (fault : TalkFault) → IsWritten f out → new.ready ≡ old.ready
    → mid.events ≡ old.events ++ event_of (out.kind ∷ []) (drop 8 out.bytes.items) ∷ [] → new.events ≡ mid.events ++ fault_event fault ∷ []
    → IsPipeFault fault → SendsNot old new f fault
sent_ill old mid new f out fault w ready first second pipe = record {
  pipe = pipe;
  notes = record {
    ready = ready;
    noted = second
        ∙ ap (λ (l : List Event). l ++ fault_event fault ∷ []) (first ∙ ap (λ (e : Event). old.events ++ e ∷ []) (written_event f out w))
        ∙ append_assoc old.events (frame_event f ∷ []) (fault_event fault ∷ []);
  };
}
