use Rattle.std.proofs.Common.{rules}
use Rattle.five_files.specs.Asking.{said, agreed_after}
use Rattle.five_files.proofs.Asked.{offers_nothing}
use Rattle.five_files.proofs.asking.answer.Goals as goal

pub returns-in-Init-clause-answer : goal.returns-in-Init-clause-answer
unfolding said
returns-in-Init-clause-answer c = search rules

pub returns-in-Init-clause-agreed : goal.returns-in-Init-clause-agreed
unfolding agreed_after
returns-in-Init-clause-agreed c = search rules

pub returns-then-is_none : goal.returns-then-is_none
unfolding said agreed_after
returns-then-is_none c = search (offers_nothing, rules)

pub returns : goal.returns
unfolding said agreed_after
returns c = search (offers_nothing, rules)
