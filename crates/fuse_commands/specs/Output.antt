-- The lines of the output (defined by this project).
use Rattle.std.specs.Prelude.{◌/◌, ℕ, Bool, true, false, List, [], ◌∷◌, ◌++◌, Option, Some, None, codes, decimal}
use Rattle.std.specs.List.{flat_map}
use Rattle.hex.specs.Hex.{encode_lower}
use Rattle.fuse_init.specs.declared.profile.Profile.{Profile}
use Rattle.fuse_init.specs.declared.profile.Profile.TheVariants.{Plain, Everyday}
use Rattle.fuse_session.specs.declared.counts.SessionCounts.{SessionCounts}

-- a line feed ends each line
abbrev pub line : List ℕ → List ℕ
line text = text ++ 10 ∷ []

-- an answer in hexadecimal; a message without an answer has no line
abbrev pub hex_line : List ℕ → List ℕ
hex_line [] = []
hex_line (x ∷ xs) = line (encode_lower (x ∷ xs))

abbrev pub answer_lines : List (List ℕ) → List ℕ
answer_lines answers = flat_map hex_line answers

-- whether the counts of a store of this profile show the number of seen messages: a plain one has none
abbrev pub shows_seen : Profile → Bool
shows_seen Plain = false
shows_seen Everyday = true

-- the number of seen messages before what follows, where it is shown
abbrev pub seen_before : Bool → ℕ → List ℕ → List ℕ
seen_before true n more = codes " seen=" ++ (decimal n ++ more)
seen_before false n more = more

-- the counts of a session, without the line feed, with the number of seen messages or without it
abbrev pub count_line : Bool → SessionCounts → List ℕ
count_line shows c =
    codes "served messages=" ++ (decimal c.messages
    ++ (codes " kept=" ++ (decimal c.kept
    ++ (codes " repeated=" ++ (decimal c.repeated
    ++ seen_before shows c.seen (codes " bare=" ++ (decimal c.bare
    ++ (codes " silent=" ++ (decimal c.silent
    ++ (codes " interrupts=" ++ decimal c.interrupts))))))))))

-- the counts of a store, without the line feed
abbrev pub store_line : ℕ → ℕ → List ℕ
store_line nodes handles = codes "nodes=" ++ (decimal nodes ++ (codes " handles=" ++ decimal handles))

-- 2^20 bytes
abbrev pub mebibytes : ℕ → ℕ
mebibytes bytes = bytes / 1048576

-- the bytes read and, if known, the total, without the line feed
abbrev pub progress_line : ℕ → Option ℕ → List ℕ
progress_line read (Some total) =
    codes "read " ++ (decimal (mebibytes read) ++ (codes " of " ++ (decimal (mebibytes total) ++ codes " MiB")))
progress_line read None = codes "read " ++ (decimal (mebibytes read) ++ codes " MiB")
