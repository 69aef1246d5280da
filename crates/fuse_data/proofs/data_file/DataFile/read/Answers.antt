use Rattle.std.proofs.Common.{length, ap, arith, subst, sym, ◌∙◌, ◌≡◌, ◌*◌}
use Rattle.sqlite_disk.specs.Disk.{Holds}
use Rattle.fuse_data.specs.declared.extent.TheConstants.{BLOCK}
use Rattle.fuse_data.specs.Extents.{IsPlaced}
use Rattle.fuse_data.proofs.Keepings.{held_whole}
use Rattle.fuse_data.proofs.Openings.{read_counts}
use Rattle.fuse_data.proofs.data_file.DataFile.read.Goals as goal

pub returns-in-Err-read_at-clause-faults : goal.returns-in-Err-read_at-clause-faults
returns-in-Err-read_at-clause-faults g c =
    read_counts _ _ _ _ c.in-Ok.ensures.faults c.in-Err-read_at.ensures.faults (λ clean.
    let size = c.in-Ok.ensures.len clean in
    let seen = ap length c.in-Ok.ensures.seen in
    omega (arith, size, seen, c.if-len-extent.false, c.if-buf-extent.false))

pub returns-clause-whole : goal.returns-clause-whole
returns-clause-whole g c clean =
    let bytes = c.read_at.new.buf in
    let placed : IsPlaced c.args.extent = c.is_placed.ensures.0 c.if-not-is_placed.false in
    let size : length bytes ≡ c.args.extent.count * BLOCK = omega (arith, c.read_at.auto.buf, c.if-buf-extent.false) in
    let some = placed.some in
    let read = c.in_default.ensures.read clean (omega (arith, c.if-buf-extent.false, some)) in
    let here : Holds (g.D.Disk.seen c.args.self.now.disk) (c.args.extent.place * BLOCK) bytes =
    subst (λ file. Holds file (c.args.extent.place * BLOCK) bytes) c.in-Ok.ensures.seen read in
    held_whole (g.D.Disk.seen c.args.self.now.disk) bytes c.args.extent placed size c.law_of_bytes.ensures
    (sym c.sum_of_bytes.ensures ∙ c.if-sum_of_bytes-extent.false) here
