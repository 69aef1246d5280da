-- The number of an argument.
use Rattle.std.proofs.Common.{◌≡◌, ℕ, List, Option, Some, None, Result, Ok, Err, refl}
use Rattle.std.specs.Str.Parse.{ParsesUnsigned}
use Rattle.clap.specs.Matches.{ReadsOne}
use Rattle.fuse_commands.specs.Asking.{IsNumberIn}

reads : {E : Type 0} (gives : List ℕ → Result ℕ E → Type 0) → ((text : List ℕ) (r : Result ℕ E) → gives text r → ParsesUnsigned 64 10 text r)
    → (text : List ℕ) (number : Option ℕ) → ReadsOne gives text number → IsNumberIn (Some text) number
reads gives parses text (Some n) so = parses text (Ok n) so
reads gives parses text None so = parses text (Err so.0) so.1

-- of an argument that is read by a relation which says at least how digits are parsed
pub is_read : {E : Type 0} (gives : List ℕ → Result ℕ E → Type 0) → ((text : List ℕ) (r : Result ℕ E) → gives text r → ParsesUnsigned 64 10 text r)
    → (found : Option (List ℕ)) (number : Option ℕ) → (found ≡ None → number ≡ None)
    → ((text : List ℕ) → found ≡ Some text → ReadsOne gives text number) → IsNumberIn found number
is_read gives parses None number none value = none refl
is_read gives parses (Some text) number none value = reads gives parses text number (value text refl)
