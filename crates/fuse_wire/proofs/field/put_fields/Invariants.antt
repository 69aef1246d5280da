use Rattle.std.specs.Prelude.{◌≡◌, ◌++◌, ℕ, List, drop}
use Rattle.fuse_wire.specs.Layout.{form}
use Rattle.fuse_wire.specs.Written.{AllFit, laid}
use Rattle.fuse_wire.proofs.field.put_fields.Given as goal

abbrev pub invariant-loop-field : goal.invariant-loop-field
invariant-loop-field l = record {
  rest : l.out.items ++ form (laid (drop l.field-index l.fields)) ≡ l.initial.out.items ++ form (laid l.fields);
  fits : AllFit (laid (drop l.field-index l.fields)) → AllFit (laid l.fields);
  more : (more : List ℕ) × (l.out.items ≡ l.initial.out.items ++ more);
}
