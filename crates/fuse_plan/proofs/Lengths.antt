-- How long contents are after they were cut, filled up or written.
use Rattle.std.proofs.Common.{◌≡◌, ◌+◌, ◌-◌, ℕ, List, ◌++◌, length, take, drop, ◌∙◌, arith}
use Rattle.std.specs.Prelude.{max, replicate}
use Rattle.std.proofs.lemmas.List.{length-append, length-take, length-drop, length-replicate}
use Rattle.fuse_rows.specs.Rows.{sized, written}

pub length_sized : (size : ℕ) (content : List ℕ) → length (sized size content) ≡ size
length_sized size content =
    omega (
      arith,
      length-append (take size content) (replicate (size - length content) 0),
      length-take size content,
      length-replicate {A = ℕ} (size - length content) 0,
    )

-- the written bytes end where they end, or what stood there before does
pub length_written : (offset : ℕ) (bytes content : List ℕ) → length (written offset bytes content) ≡ max (length content) (offset + length bytes)
length_written offset bytes content =
    length-append (sized offset content ++ bytes) (drop (offset + length bytes) content)
    ∙ omega (arith, length-append (sized offset content) bytes, length_sized offset content, length-drop (offset + length bytes) content)
