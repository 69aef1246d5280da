use Rattle.std.proofs.Common.{◌≡◌, ℕ, List, [], Option, Some, None, refl, ap, ◌∙◌}
use Rattle.std.specs.Io.KnownBytes.{prepend_known}
use Rattle.fuse_request.specs.Framing.{HeldBytes}
use Rattle.fuse_commands.proofs.messages.Messages.new.Goals as goal

none_held : (rest : Option (List ℕ)) → prepend_known [] rest ≡ rest
none_held None = refl
none_held (Some r) = refl

pub returns-clause-ok : goal.returns-clause-ok
returns-clause-ok g c = (
  ap (λ (h : HeldBytes). prepend_known h.bytes (g.R.Read.remaining c.in_ok-new.field-0.reader)) c.new-2.ensures
      ∙ none_held (g.R.Read.remaining c.in_ok-new.field-0.reader) ∙ c.in_ok-new.ensures.ok,
  ap (λ (h : HeldBytes). h.at) c.new-2.ensures,
)
