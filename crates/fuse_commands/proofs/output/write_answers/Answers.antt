use Rattle.std.proofs.Common.{sym, ◌∙◌}
use Rattle.fuse_commands.proofs.Lines.{written_none, written_more, written_all, is_none, isnt_none}
use Rattle.fuse_commands.proofs.output.write_answers.Goals as goal

pub loop-rest-init : goal.loop-rest-init
loop-rest-init g c = λ answers each is. written_none _ answers _ each is

pub returns-clause-ok : goal.returns-clause-ok
returns-clause-ok g c =
    λ answers each is. written_all _ _ answers c.loop-rest.rest.now (is_none c.loop-rest.rest.now (sym c.loop-rest-test.false ∙ c.is_empty.ensures))
    (c.loop-rest.invariant answers each is)

pub loop-rest-preserved : goal.loop-rest-preserved
loop-rest-preserved g c = λ answers each is.
    written_more _ _ _ answers c.loop-rest.rest.now c.split_at.result.0.now c.split_at.result.1.now c.answer_len.result
    (isnt_none c.loop-rest.rest.now (sym c.loop-rest-test.true ∙ c.is_empty.ensures)) c.split_at.ensures.front c.split_at.ensures.back
    c.answer_len.ensures.first (c.loop-rest.invariant answers each is) c.in_ok-write_hex_line.ensures.ok
