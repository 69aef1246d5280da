use Rattle.std.proofs.Common.{◌≡◌, ◌∷◌, [], sym, ap, subst, ◌∙◌}
use Rattle.fuse_request.specs.Classes.{is_zero}
use Rattle.fuse_request.specs.Stream.{cut}
use Rattle.fuse_sim.proofs.group.test_event.Goals as goal

pub returns-then-has_zero_unique-clause-caused : goal.returns-then-has_zero_unique-clause-caused
returns-then-has_zero_unique-clause-caused c = (
  subst (λ b. cut b ≡ (b ∷ [], [])) c.as_slice-bytes.ensures (c.is_message.ensures.alone.0 c.if-not-is_message.false),
  sym (ap is_zero c.as_slice-bytes.ensures) ∙ (sym c.has_zero_unique.ensures ∙ c.if-has_zero_unique.true),
)

pub returns-clause-fit : goal.returns-clause-fit
returns-clause-fit c = record {
  message = subst (λ b. cut b ≡ (b ∷ [], [])) c.as_slice-bytes.ensures (c.is_message.ensures.alone.0 c.if-not-is_message.false);
  named = sym (ap is_zero c.as_slice-bytes.ensures) ∙ (sym c.has_zero_unique.ensures ∙ c.if-has_zero_unique.false);
}
