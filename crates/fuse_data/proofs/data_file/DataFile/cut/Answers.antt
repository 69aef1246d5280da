use Rattle.std.proofs.Common.{ℕ, ◌*◌, ap, ◌∙◌}
use Rattle.fuse_data.specs.declared.extent.TheConstants.{BLOCK}
use Rattle.fuse_data.proofs.Keepings.{cut_kept, cut_kept_after}
use Rattle.fuse_data.proofs.Tails.{one_tail}
use Rattle.fuse_data.proofs.data_file.DataFile.cut.Goals as goal

pub returns-in-Err-clause-kept : goal.returns-in-Err-clause-kept
returns-in-Err-clause-kept g c = cut_kept c.args.self.now.space c.tail-from.result _ _ c.tail-from.ensures.some c.tail-from.ensures.free c.set_len.ensures.others

pub returns-in-Err-clause-crash : goal.returns-in-Err-clause-crash
returns-in-Err-clause-crash g c = cut_kept_after c.args.self.now.space c.tail-from.result _ _ c.tail-from.ensures.some c.tail-from.ensures.free c.set_len.ensures.crash

pub returns-clause-kept : goal.returns-clause-kept
returns-clause-kept g c = cut_kept c.args.self.now.space c.tail-from.result _ _ c.tail-from.ensures.some c.tail-from.ensures.free c.set_len.ensures.others

pub returns-clause-crash : goal.returns-clause-crash
returns-clause-crash g c = cut_kept_after c.args.self.now.space c.tail-from.result _ _ c.tail-from.ensures.some c.tail-from.ensures.free c.set_len.ensures.crash

pub returns-clause-cut : goal.returns-clause-cut
returns-clause-cut g c tail is = c.in_default.ensures.len ∙ ap (λ (n : ℕ). n * BLOCK) (one_tail c.args.self.now.space c.tail-from.result tail c.tail-from.ensures is)
