-- A file system of the tests that serves READLINK and STATFS (defined by this project).
use Rattle.std.specs.Prelude.{◌==◌, ◌||◌, ℕ, if◌then◌else◌, List, [], ◌∷◌, None, codes}
use Rattle.fuse_wire.specs.declared.errno.Errno.{Errno}
use Rattle.fuse_wire.specs.Errnos.{einval, enosys}
use Rattle.fuse_request.specs.Opcodes.{OpcodeSet, no_others}
use Rattle.fuse_request.specs.Act.{Act}
use Rattle.fuse_request.specs.Act as acts
use Rattle.fuse_answer.specs.Said.{Said}
use Rattle.fuse_keeper.specs.Model.{Model}
use Rattle.spec_tests.specs.inner.Hex.{hex}

abbrev pub links_serve : OpcodeSet
links_serve opcode = (opcode == 5) || (opcode == 17)

abbrev pub refuse : Errno → Said
refuse errno = record { errno = errno.0; body = [] }

abbrev pub give : List ℕ → Said
give body = record { errno = 0; body = body }

-- the target of the link
abbrev pub target : List ℕ
target = codes "a/b"

-- the body of case statfs
abbrev pub room : List ℕ
room =
    hex (codes "0000001000000000 0000001000000000 0000001000000000 0000100000000000 ffff0f0000000000 00100000 ff000000 00100000 00000000 000000000000000000000000000000000000000000000000")

-- a body that isn't empty is refused
abbrev pub link_said : ℕ → List ℕ → Said
link_said opcode [] = if opcode == 5 then give target else if opcode == 17 then give room else refuse enosys
link_said opcode (b ∷ bs) = refuse einval

abbrev pub said : Act → Said
said (acts.Further opcode body) = link_said opcode body
said _ = refuse enosys

-- it stays as it is
abbrev pub links : Model
links = record {
  State = Unit {0};
  Rows = Unit {0};
  service = record { serves = links_serve; sees = no_others };
  start = λ now. tt;
  next = λ s a now. tt;
  answer = λ s a now. said a.act;
  IsGood = λ s. Unit {0};
  held_for = λ s. tt;
  cleared = λ s. tt;
  settings = λ rows. None;
  nodes = λ rows. 2;
  handles = λ rows. 0;
}
