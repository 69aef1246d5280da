use Rattle.std.proofs.Common.{ap, subst, ◌∙◌}
use Rattle.std.proofs.lemmas.Result.{on_ok_weaker}
use Rattle.fuse_rows.specs.Rows.{written}
use Rattle.fuse_rows.specs.inner.ChunkBytes.{joined_chunks, CutsAt}
use Rattle.fuse_rows.proofs.Joined.{write_joined}
use Rattle.fuse_rows.proofs.chunks.Chunks.write.Goals as goal

pub returns-clause-ok : goal.returns-clause-ok
returns-clause-ok c =
    let cs = c.self.inside.chunks.items in
    let ds = c.cut_at.new.chunks.items in
    let es = c.cut_at-2.new.chunks.items in
    let last = c.in_ok-last.last in
    let last_is = subst (λ n. CutsAt cs ds n c.in_ok-end.end last) (c.len-len.ensures ∙ c.self.inside.chunks.ok.0) c.in_ok-last.ensures.at in
    on_ok_weaker c.replace.result
    (λ is. ap joined_chunks is
    ∙ write_joined cs ds es c.args.offset c.in_ok-end.end c.args.bytes.now last c.in_ok-first.first c.in_ok-fresh.fresh.items last_is c.cut_at.ensures.same
    c.in_ok-first.ensures.at c.in_ok-fresh.ensures c.in_ok-end.ensures ∙ ap (written c.args.offset c.args.bytes.now) c.self.view_is)
    c.replace.ensures.ok
