use Rattle.std.proofs.Common.{ap, subst, sym, ◌∙◌, List}
use Rattle.fuse_data.specs.declared.gaps.Gap.{Gap}
use Rattle.fuse_data.specs.Space.{IsSpaceOf}
use Rattle.guest_values.proofs.Results.{always_ok}
use Rattle.guest_values.proofs.Spaces.{found_rests, left_rests, cut_fails}
use Rattle.guest_values.proofs.value_file.ValueFile.find_space.Goals as goal

pub returns-in-Err-clause-rests : goal.returns-in-Err-clause-rests
returns-in-Err-clause-rests g c = λ now h same.
    left_rests g.D.Disk c.args.self.now.file c.relist.new.self c.relist.ensures.disk now c.args.self.now.put.items c.args.self.now.gone.items c.in-Err.ensures.failed h

pub returns-clause-rests : goal.returns-clause-rests
returns-clause-rests g c = λ now h same.
    found_rests g.D.Disk c.args.self.now.file c.relist.new.self c.relist.ensures.disk c.cut.new.self now c.args.listed.now c.args.self.now.put.items c.args.self.now.gone.items
    c.in-Ok.ensures.in_use c.cut.ensures.gaps c.cut.ensures.kept c.cut.ensures.crash same h

pub returns-clause-space : goal.returns-clause-space
returns-clause-space g c =
    always_ok c.cut.result (subst (λ (gaps : List Gap). IsSpaceOf c.args.listed.now gaps) (sym c.cut.ensures.gaps) c.in-Ok.ensures.space)

pub returns-clause-cause : goal.returns-clause-cause
returns-clause-cause g c = cut_fails g.D.Disk c.args.self.now.file c.relist.new.self c.relist.ensures.disk c.args.listed.now c.cut.result c.cut.ensures.cause

pub returns-clause-clean : goal.returns-clause-clean
returns-clause-clean g c = c.cut.ensures.clean ∙ ap g.D.Disk.is_clean c.relist.ensures.disk

pub returns-clause-usable : goal.returns-clause-usable
returns-clause-usable g c = c.cut.ensures.usable ∙ ap g.D.Disk.is_usable c.relist.ensures.disk

pub returns-in-Err-clause-clean : goal.returns-in-Err-clause-clean
returns-in-Err-clause-clean g c = ap g.D.Disk.is_clean c.relist.ensures.disk

pub returns-in-Err-clause-usable : goal.returns-in-Err-clause-usable
returns-in-Err-clause-usable g c = ap g.D.Disk.is_usable c.relist.ensures.disk
