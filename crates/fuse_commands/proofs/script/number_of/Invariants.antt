use Rattle.std.proofs.Common.{◌≡◌, ◌<◌, ◌^◌, take}
use Rattle.std.specs.Str.Parse.{AllDigits, digits_value}
use Rattle.fuse_commands.proofs.script.number_of.Given as goal

abbrev pub invariant-loop-b : goal.invariant-loop-b
invariant-loop-b l = (AllDigits 10 (take l.b-index l.text) × (l.number ≡ digits_value 10 (take l.b-index l.text))) × (l.number < 2 ^ 64)
