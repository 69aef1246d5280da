use Rattle.std.proofs.Common.{◌++◌, ◌∙◌, ℕ, ap, arith}
use Rattle.fuse_wire.specs.Bytes.{le, number_of}
use Rattle.guest_values.proofs.RowColumns.{read_back}
use Rattle.guest_values.proofs.columns.second_in.Goals as goal

pub returns-clause-bytes : goal.returns-clause-bytes
returns-clause-bytes c =
    ap (λ (n : ℕ). le 8 n ++ le 8 c.u64_at-2.result) c.u64_at.ensures ∙ ap (λ (n : ℕ). le 8 (number_of 8 c.args.bytes.now) ++ le 8 n) c.u64_at-2.ensures
    ∙ read_back c.numbers_read.ensures c.args.bytes.now c.requires (λ i. omega (arith, c.type_inv.bytes i))
