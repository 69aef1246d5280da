-- The checks of an operation in their order (defined by this project; the ERRORS of a man page): the first one that applies decides.
use Rattle.std.specs.Prelude.{Bool, if◌then◌else◌, List, [], ◌∷◌, Option, Some, None}
use Rattle.fuse_wire.specs.declared.errno.Errno.{Errno}

-- the first error of two
abbrev pub earlier : Option Errno → Option Errno → Option Errno
earlier (Some errno) later = Some errno
earlier None later = later

-- of errors, each with its test: that of the first test that holds
abbrev pub error_in : List (Errno × Bool) → Option Errno
error_in [] = None
error_in (test ∷ tests) = if test.1 then Some test.0 else error_in tests

-- an error, and where it comes; or the errors of one part of a request, as those of a name
pub data Check : Type 0 where
  Where : Errno → Bool → Check
  Part : List (Errno × Bool) → Check

-- the error of the first check that applies
abbrev pub first_error : List Check → Option Errno
first_error [] = None
first_error (Where errno applies ∷ checks) = if applies then Some errno else first_error checks
first_error (Part tests ∷ checks) = earlier (error_in tests) (first_error checks)
