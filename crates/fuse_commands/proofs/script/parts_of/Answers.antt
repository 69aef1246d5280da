use Rattle.std.proofs.Common.{◌≡◌, Some, sym, subst, ◌∙◌}
use Rattle.fuse_commands.specs.Scripts.{IsDecimal}
use Rattle.fuse_commands.proofs.Scripted.{first_space, second_space, no_space}
use Rattle.fuse_commands.proofs.script.parts_of.Goals as goal

pub returns-in_err-word-clause-only : goal.returns-in_err-word-clause-only
returns-in_err-word-clause-only c = λ fate secs text p. absurd (no_space c.args.line.now _ _ (c.split_at.ensures.none c.in_err-word.was) p.parts)

pub returns-in_err-digits-clause-only : goal.returns-in_err-digits-clause-only
returns-in_err-digits-clause-only c = λ fate secs text p.
    let one = c.in_ok-word.ensures.some in
    let first = first_space c.args.line.now fate secs text c.in_ok-word.word.now c.in_ok-word.rest.now p one.0 one.1 in
    absurd (no_space c.in_ok-word.rest.now _ _ (c.split_at-2.ensures.none c.in_err-digits.was) first.1)

pub returns-in_err-fate_of-clause-only : goal.returns-in_err-fate_of-clause-only
returns-in_err-fate_of-clause-only c = λ fate secs text p.
    let one = c.in_ok-word.ensures.some in
    let first = first_space c.args.line.now fate secs text c.in_ok-word.word.now c.in_ok-word.rest.now p one.0 one.1 in
    absurd (let some = sym c.in_err-fate_of.was ∙ c.fate_of.ensures.only fate first.0 in cc)

pub returns-in_err-number_of-clause-only : goal.returns-in_err-number_of-clause-only
returns-in_err-number_of-clause-only c = λ fate secs text p.
    let one = c.in_ok-word.ensures.some in
    let two = c.in_ok-digits.ensures.some in
    let first = first_space c.args.line.now fate secs text c.in_ok-word.word.now c.in_ok-word.rest.now p one.0 one.1 in
    let second = second_space c.args.line.now fate secs text c.in_ok-word.rest.now c.in_ok-digits.digits.now c.in_ok-digits.text.now p first.1 two.0 two.1 in
    absurd (let some = sym c.in_err-number_of.was ∙ c.number_of.ensures.only secs (subst (λ d. IsDecimal d secs) (sym second.0) p.seconds) in cc)

pub returns-clause-only : goal.returns-clause-only
returns-clause-only c = λ fate secs text p.
    let one = c.in_ok-word.ensures.some in
    let two = c.in_ok-digits.ensures.some in
    let first = first_space c.args.line.now fate secs text c.in_ok-word.word.now c.in_ok-word.rest.now p one.0 one.1 in
    let second = second_space c.args.line.now fate secs text c.in_ok-word.rest.now c.in_ok-digits.digits.now c.in_ok-digits.text.now p first.1 two.0 two.1 in
    let same_fate : ◌≡◌ (Some c.in_ok-fate_of.field-0) (Some fate) = sym c.in_ok-fate_of.was ∙ c.fate_of.ensures.only fate first.0 in
    let same_secs : ◌≡◌ (Some c.in_ok-number_of.field-0) (Some secs) =
    sym c.in_ok-number_of.was ∙ c.number_of.ensures.only secs (subst (λ d. IsDecimal d secs) (sym second.0) p.seconds) in
    (cc same_fate, cc same_secs, second.1)
