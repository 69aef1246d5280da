use Rattle.std.proofs.Common.{◌≡◌, Option, Some, None, refl, sym, ap, ◌∙◌}
use Rattle.std.specs.Prelude.{is_some}
use Rattle.std.specs.Option.{option_map}
use Rattle.fuse_request.specs.Opcodes.{profile, find}
use Rattle.fuse_request.proofs.opcode.is_in_profile.Goals as goal

is_some-map : {A B : Type 0} (f : A → B) (o : Option A) → is_some (option_map f o) ≡ is_some o
is_some-map f None = refl
is_some-map f (Some x) = refl

pub returns : goal.returns
returns c =
    let named = c.name_of.ensures in
    c.is_some.ensures ∙ sym (is_some-map _ c.name_of.result) ∙ ap is_some named ∙ is_some-map (λ o. o.name) (find c.args.opcode profile)
