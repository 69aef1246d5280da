use Rattle.std.proofs.Common.{arith}
use Rattle.std.proofs.lemmas.List.{length-drop}
use Rattle.fuse_answer.proofs.Listings.{leading_empty}
use Rattle.fuse_answer.proofs.unpacking.split_plus.Goals as goal

pub returns-then-bytes-lt-SIZE-clause-none : goal.returns-then-bytes-lt-SIZE-clause-none
returns-then-bytes-lt-SIZE-clause-none c = λ _. leading_empty _ (omega (arith, c.if-bytes-lt-SIZE.true, length-drop 128 c.args.bytes.now))
