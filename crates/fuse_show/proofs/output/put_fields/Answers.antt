use Rattle.std.proofs.Common.{Bor, ℕ, List, [], ◌++◌, decimal, get_or, refl}
use Rattle.fuse_show.proofs.Sinking.{each_then, each_stop, field_is}
use Rattle.fuse_show.proofs.output.put_fields.Goals as goal

abbrev none : Bor (List ℕ) × ℕ
none = (record { ref_ptr = (0, 0); now = [] }, 0)

pub loop-field-preserved : goal.loop-field-preserved
loop-field-preserved g c =
    let i = c.loop-field.field-index in
    each_then g.W.Sink.was_written _ _ _ _ (λ (f : Bor (List ℕ) × ℕ). f.0.now ++ decimal f.1) c.args.fields.now i (get_or c.args.fields.now i none) none _
    c.loop-field-test.true refl (field_is (get_or c.args.fields.now i none) c.from.result c.from.ensures) c.loop-field.invariant c.in-Ok.ensures.put

pub returns-in-Err-clause-put : goal.returns-in-Err-clause-put
returns-in-Err-clause-put g c =
    let i = c.loop-field.field-index in
    each_stop g.W.Sink.was_written _ _ _ c.in-Err.fault (λ (f : Bor (List ℕ) × ℕ). f.0.now ++ decimal f.1) c.args.fields.now i (get_or c.args.fields.now i none)
    none _ c.loop-field-test.true refl (field_is (get_or c.args.fields.now i none) c.from.result c.from.ensures) c.loop-field.invariant c.in-Err.ensures.put
