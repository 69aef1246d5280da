use Rattle.fuse_commands.proofs.Decodings.{none_decoded, leads, some_decoded}
use Rattle.fuse_commands.proofs.decode.print_lines.Goals as goal

pub loop-len-init : goal.loop-len-init
loop-len-init g c = none_decoded (g.W.Write.contents c.args.writer.now) c.args.stream.now

pub loop-len-preserved : goal.loop-len-preserved
loop-len-preserved g c =
    some_decoded _ _ _ _ c.loop-len.rest.now _ _ c.loop-len.at c.in-Some.len (leads c.in-Some.len c.loop-len.rest.now c.in-Some.ensures)
    c.split_at.ensures.front c.split_at.ensures.back c.loop-len.invariant c.in_ok-write_line.ensures.ok
