use Rattle.std.proofs.Common.{List, [], ◌∷◌, ◌++◌, drop, refl, arith}
use Rattle.fuse_wire.specs.Layout.{Part, Placed, bytes}
use Rattle.fuse_request.specs.declared.header.RawHeader.{RawHeader}
use Rattle.fuse_request.specs.Header.{raw_parts}
use Rattle.fuse_request.proofs.Laid.{bytes_laid}
use Rattle.fuse_request.proofs.header.header_of.Goals as goal

pub returns-clause-laid : goal.returns-clause-laid
returns-clause-laid c =
    let m = c.args.message.now in
    let laws = c.layouts_stand.ensures in
    let raw : RawHeader = record {
      len = c.u32_at.result;
      opcode = c.u32_at-2.result;
      unique = c.u64_at.result;
      nodeid = c.u64_at-2.result;
      uid = c.u32_at-3.result;
      gid = c.u32_at-4.result;
      pid = c.u32_at-5.result;
      total_extlen = c.u16_at.result;
      padding = c.u16_at-2.result;
    } in
    let rest : List Part = bytes (drop 40 m) ∷ [] in
    let low : Placed 0 (raw_parts raw ++ rest) m = (
      c.u32_at.ensures,
      (
        c.u32_at-2.ensures,
        (
          c.u64_at.ensures,
          (
            c.u64_at-2.ensures,
            (
              c.u32_at-3.ensures,
              (
                c.u32_at-4.ensures,
                (
                  c.u32_at-5.ensures,
                  (c.u16_at.ensures, (c.u16_at-2.ensures, (c.if-message-lt-MIN_MESSAGE.false, bytes_laid (drop 40 m) (drop 40 m) refl))),
                ),
              ),
            ),
          ),
        ),
      ),
    ) in
    (laws.parted (raw_parts raw) rest m (laws.placed (raw_parts raw ++ rest) m (λ i. omega (arith, c.type_inv.message i)) low)).0
