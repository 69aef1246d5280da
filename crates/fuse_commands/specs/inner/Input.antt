-- An input that is read piece by piece (defined by this project).
use Rattle.std.specs.Prelude.{ℕ, List, take, Option}
use Rattle.fuse_commands.specs.declared.input.PieceReader.{PieceReader}

-- the unread bytes, if known
abbrev pub left_to : {R : Type 0} → (R → Option (List ℕ)) → PieceReader R → Option (List ℕ)
left_to remaining p = remaining p.reader

-- the last piece
abbrev pub piece_in : {R : Type 0} → PieceReader R → List ℕ
piece_in p = take p.len p.buffer.items
