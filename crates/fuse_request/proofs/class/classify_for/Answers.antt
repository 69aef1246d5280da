use Rattle.std.proofs.Common.{true, false, sym, ap, ◌∙◌}
use Rattle.fuse_wire.specs.Opcodes.{silent}
use Rattle.fuse_request.specs.Act.{asked}
use Rattle.fuse_request.proofs.Classes.{silent_class, fault_class, no_spelling, unserved_class, is_unserved, served_class, is_of_kept, is_of_seen}
use Rattle.fuse_request.proofs.class.classify_for.Goals as goal

pub returns-then-is_silent-clause-class : goal.returns-then-is_silent-clause-class
returns-then-is_silent-clause-class c = λ V is seen.
    silent_class V c.args.message.now (sym (c.is_silent.ensures ∙ ap silent c.u32_at-opcode.ensures) ∙ c.if-is_silent.true)

pub returns-then-is_silent-clause-spells : goal.returns-then-is_silent-clause-spells
returns-then-is_silent-clause-spells c = λ V is seen. sym (c.is_silent.ensures ∙ ap silent c.u32_at-opcode.ensures) ∙ c.if-is_silent.true

pub returns-in_default-clause-class : goal.returns-in_default-clause-class
returns-in_default-clause-class c = λ V is seen.
    fault_class V c.args.message.now c.in_default.field-0
    (sym (c.is_silent.ensures ∙ ap silent c.u32_at-opcode.ensures) ∙ c.if-is_silent.false) (sym c.in_default.ensures.fault)

pub returns-in_default-clause-spells : goal.returns-in_default-clause-spells
returns-in_default-clause-spells c = λ V is seen.
    no_spelling (c.layouts_stand.ensures, c.names_end.ensures) V c.args.message.now c.in_default.field-0
    (sym (c.is_silent.ensures ∙ ap silent c.u32_at-opcode.ensures) ∙ c.if-is_silent.false) (sym c.in_default.ensures.fault)

pub returns-then-not-is_served-clause-class : goal.returns-then-not-is_served-clause-class
returns-then-not-is_served-clause-class c = λ V is seen.
    unserved_class (c.layouts_stand.ensures, c.names_end.ensures) V c.args.message.now (asked c.in-Ok._request)
    (sym (c.is_silent.ensures ∙ ap silent c.u32_at-opcode.ensures) ∙ c.if-is_silent.false) c.in-Ok.ensures.found
    (rw (is, sym c.u32_at-opcode.ensures) (sym c.is_served.ensures ∙ c.if-not-is_served.true))

pub returns-then-not-is_served-clause-spells : goal.returns-then-not-is_served-clause-spells
returns-then-not-is_served-clause-spells c = λ V is seen.
    is_unserved (c.layouts_stand.ensures, c.names_end.ensures) V c.args.message.now (asked c.in-Ok._request)
    (sym (c.is_silent.ensures ∙ ap silent c.u32_at-opcode.ensures) ∙ c.if-is_silent.false) c.in-Ok.ensures.found
    (rw (is, sym c.u32_at-opcode.ensures) (sym c.is_served.ensures ∙ c.if-not-is_served.true))

pub returns-then-seen-clause-class : goal.returns-then-seen-clause-class
returns-then-seen-clause-class c = λ V is seen.
    served_class (c.layouts_stand.ensures, c.names_end.ensures) V c.args.message.now (asked c.in-Ok._request) true
    (sym (c.is_silent.ensures ∙ ap silent c.u32_at-opcode.ensures) ∙ c.if-is_silent.false) c.in-Ok.ensures.found
    (rw (is, sym c.u32_at-opcode.ensures) (sym c.is_served.ensures ∙ c.if-not-is_served.false)) (seen ∙ c.if-seen.true)

pub returns-then-seen-clause-spells : goal.returns-then-seen-clause-spells
returns-then-seen-clause-spells c = λ V is seen.
    is_of_seen (c.layouts_stand.ensures, c.names_end.ensures) V c.args.message.now (asked c.in-Ok._request)
    (sym (c.is_silent.ensures ∙ ap silent c.u32_at-opcode.ensures) ∙ c.if-is_silent.false) c.in-Ok.ensures.found
    (rw (is, sym c.u32_at-opcode.ensures) (sym c.is_served.ensures ∙ c.if-not-is_served.false)) (seen ∙ c.if-seen.true)

pub returns-clause-class : goal.returns-clause-class
returns-clause-class c = λ V is seen.
    served_class (c.layouts_stand.ensures, c.names_end.ensures) V c.args.message.now (asked c.in-Ok._request) false
    (sym (c.is_silent.ensures ∙ ap silent c.u32_at-opcode.ensures) ∙ c.if-is_silent.false) c.in-Ok.ensures.found
    (rw (is, sym c.u32_at-opcode.ensures) (sym c.is_served.ensures ∙ c.if-not-is_served.false)) (seen ∙ c.if-seen.false)

pub returns-clause-spells : goal.returns-clause-spells
returns-clause-spells c = λ V is seen.
    is_of_kept (c.layouts_stand.ensures, c.names_end.ensures) V c.args.message.now (asked c.in-Ok._request)
    (sym (c.is_silent.ensures ∙ ap silent c.u32_at-opcode.ensures) ∙ c.if-is_silent.false) c.in-Ok.ensures.found
    (rw (is, sym c.u32_at-opcode.ensures) (sym c.is_served.ensures ∙ c.if-not-is_served.false)) (seen ∙ c.if-seen.false)
