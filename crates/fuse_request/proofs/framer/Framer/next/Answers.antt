use Rattle.std.proofs.Common.{◌+◌, None, Some, Ok, Err, List, ℕ, refl, subst, ap, ◌∙◌}
use Rattle.fuse_request.specs.declared.framer.FrameFault.TheVariants.{Memory}
use Rattle.fuse_request.specs.Framing.{HeldBytes, bad_length, Gives, GivesNext}
use Rattle.fuse_request.proofs.Framing.{IsLeading, gives_fault, gives_none, gives_first, gives_memory}
use Rattle.fuse_request.proofs.framer.Framer.next.Goals as goal

pub returns-in-Some-clause-next : goal.returns-in-Some-clause-next
returns-in-Some-clause-next c =
    let old : HeldBytes = record { bytes = c.self.inside.held.items; at = c.self.inside.at; fault = c.self.inside.fault } in
    let new : HeldBytes = record old { fault = Some c.in-Some.fault } in
    subst (λ (h : HeldBytes). GivesNext h new (Err c.in-Some.fault)) c.self.view_is
    (gives_fault c.numbers_read.ensures old new c.in-Some.fault (c.in-Some.ensures ∙ ap (bad_length c.self.inside.at) c.deref.ensures) refl)

pub returns-in_default-whole_len-clause-next : goal.returns-in_default-whole_len-clause-next
returns-in_default-whole_len-clause-next c =
    let old : HeldBytes = record { bytes = c.self.inside.held.items; at = c.self.inside.at; fault = c.self.inside.fault } in
    subst (λ (h : HeldBytes). GivesNext h h (Ok None)) c.self.view_is (gives_none c.numbers_read.ensures old old
    (c.in_default.ensures ∙ ap (bad_length c.self.inside.at) c.deref.ensures)
    (subst (λ (w : List ℕ). IsLeading None w) c.deref-2.ensures c.in_default-whole_len.ensures) refl)

pub returns-in-Ok-clause-next : goal.returns-in-Ok-clause-next
returns-in-Ok-clause-next c =
    let old : HeldBytes = record { bytes = c.self.inside.held.items; at = c.self.inside.at; fault = c.self.inside.fault } in
    let len = c.in-Some-whole_len.len in
    let new : HeldBytes = record { bytes = c.freeze_to.new.self.items; at = c.self.inside.at + len; fault = c.self.inside.fault } in
    let rest = c.in-Ok.ensures.rest in
    subst (λ (h : HeldBytes). Gives h new c.in-Ok.message) c.self.view_is
    (gives_first c.numbers_read.ensures old new len c.in-Ok.message
    (subst (λ (w : List ℕ). IsLeading (Some len) w) c.deref-2.ensures c.in-Some-whole_len.ensures) c.in-Ok.ensures.front (rw rest.0 refl))

pub returns-in-Err-clause-next : goal.returns-in-Err-clause-next
returns-in-Err-clause-next c =
    let old : HeldBytes = record { bytes = c.self.inside.held.items; at = c.self.inside.at; fault = c.self.inside.fault } in
    let len = c.in-Some-whole_len.len in
    let new : HeldBytes = record { bytes = c.freeze_to.new.self.items; at = c.self.inside.at; fault = c.self.inside.fault } in
    subst (λ (h : HeldBytes). GivesNext h new (Err Memory)) c.self.view_is
    (gives_memory c.numbers_read.ensures old new len (subst (λ (w : List ℕ). IsLeading (Some len) w) c.deref-2.ensures c.in-Some-whole_len.ensures)
    (rw c.in-Err.ensures.err refl))
