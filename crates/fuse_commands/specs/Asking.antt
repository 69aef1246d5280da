-- What a command line asks for (defined by this project).
use Rattle.std.specs.Prelude.{◌≡◌, ◌<◌, ◌^◌, ◌++◌, ◌∷◌, if◌then◌else◌, ℕ, Bool, true, false, List, codes, Option, Some, None, option_map, unwrap_or}
use Rattle.std.specs.Borrow.{Bor}
use Rattle.std.specs.Str.{bytes_eq}
use Rattle.std.specs.Str.Parse.{IsNumeral, digits_value, without_leading_plus}
use Rattle.clap.specs.declared.parser.matches.Found.{Found}
use Rattle.clap.specs.declared.parser.matches.ArgMatches.{ArgMatches}
use Rattle.clap.specs.Matches.{first_value, one_text}
use Rattle.clap.specs.Simple.{App, HasMatchesOf, subcommand_rows_of}
use Rattle.clap.specs.Walk.{rows_of}
use Rattle.fuse_init.specs.declared.profile.Profile.{Profile}
use Rattle.fuse_init.specs.declared.profile.Profile.TheVariants.{Plain, Everyday}
use Rattle.fuse_commands.specs.Scripts.{IsDecimal}
use Rattle.fuse_commands.specs.declared.asked_store.AskedOwner.{AskedOwner}
use Rattle.fuse_commands.specs.declared.asked_store.AskedStore.{AskedStore}
use Rattle.fuse_commands.specs.declared.arguments.Run.{Run}
use Rattle.fuse_commands.specs.declared.arguments.Run.TheVariants.{Read, Serve, Store, Cat, Verify}
use Rattle.fuse_commands.specs.declared.arguments.Run.TheVariants as runs
use Rattle.fuse_commands.specs.declared.arguments.Work.{Work}
use Rattle.fuse_commands.specs.declared.arguments.Work.TheVariants.{Dump, Decode, Check, Replay, Simulate}
use Rattle.fuse_commands.specs.declared.serve.Begin.{Begin}
use Rattle.fuse_commands.specs.declared.serve.Begin.TheVariants.{Fresh, Resume}

-- the profile of this name, plain where none is given
abbrev pub profile_named : Option (List ℕ) → Profile
profile_named None = Plain
profile_named (Some name) = if bytes_eq name (codes "everyday") then Everyday else Plain

-- a number of 64 bits in decimal digits, before which a plus may stand
abbrev pub IsNumber : List ℕ → Type 0
IsNumber text = IsNumeral 10 (without_leading_plus text) × (digits_value 10 (without_leading_plus text) < 2 ^ 64)

-- the number in a text, where there is a text and it has one
abbrev pub IsNumberIn : Option (List ℕ) → Option ℕ → Type 0
IsNumberIn None number = number ≡ None
IsNumberIn (Some text) (Some n) = IsNumber text × (n ≡ digits_value 10 (without_leading_plus text))
IsNumberIn (Some text) None = IsNumber text → ⊥

-- a text names an owner: two numbers in decimal digits, below 2^32, with a colon between them
pub record IsOwner (text : List ℕ) (owner : AskedOwner) : Type 0 where
  pub user : List ℕ
  pub group : List ℕ
  pub parts : text ≡ user ++ 58 ∷ group
  pub uid : IsDecimal user owner.uid × (owner.uid < 2 ^ 32)
  pub gid : IsDecimal group owner.gid × (owner.gid < 2 ^ 32)

-- the owner that a text names, where there is a text
abbrev pub IsNamedOwner : Option (List ℕ) → Option AskedOwner → Type 0
IsNamedOwner None owner = owner ≡ None
IsNamedOwner (Some text) None = ⊥
IsNamedOwner (Some text) (Some owner) = IsOwner text owner

-- it is what these arguments ask for
pub record AsksFor (f : Found) (asked : AskedStore) : Type 0 where
  pub profile : asked.profile ≡ profile_named (first_value f (codes "profile"))
  pub capacity : IsNumberIn (one_text f (codes "capacity")) asked.capacity
  pub owner : IsNamedOwner (first_value f (codes "owner")) asked.owner

-- ---- in a command

abbrev pub plain_asked : AskedStore
plain_asked = record { profile = Plain; capacity = None; owner = None }

abbrev pub asked_for : Work → AskedStore
asked_for (Replay db at wary new) = new
asked_for (Simulate new) = new
asked_for _ = plain_asked

abbrev pub asked_store_in : Run → AskedStore
asked_store_in (Serve db begin at wary new) = new
asked_store_in (Read input work) = asked_for work
asked_store_in _ = plain_asked

-- ---- the run

-- whether the flag of this name was given
pub record IsFlag (f : Found) (name : List ℕ) (given : Bool) : Type 0 where
  pub none : one_text f name ≡ None → given ≡ false
  pub yes : one_text f name ≡ Some (codes "true") → given ≡ true
  pub no : one_text f name ≡ Some (codes "false") → given ≡ false

-- the way to begin, if exactly one of the two flags was given
abbrev pub begin_by : Bool → Bool → Option Begin
begin_by true false = Some Fresh
begin_by false true = Some Resume
begin_by _ _ = None

pub record BeginsBy (f : Found) (begin : Option Begin) : Type 0 where
  pub fresh : Bool
  pub resume : Bool
  pub is_fresh : IsFlag f (codes "fresh") fresh
  pub is_resume : IsFlag f (codes "resume") resume
  pub is : begin ≡ begin_by fresh resume

-- the argument of this name has this value
abbrev pub HasWord : Found → List ℕ → Bor (List ℕ) → Type 0
HasWord f name word = Some word.now ≡ first_value f name

-- this command over an input, with these arguments
abbrev pub IsWork : List ℕ → Found → Bor (List ℕ) → Work → Type 0
IsWork name f input Dump = (name ≡ codes "dump") × HasWord f (codes "file") input
IsWork name f input Decode = (name ≡ codes "decode") × HasWord f (codes "file") input
IsWork name f input Check = (name ≡ codes "check") × HasWord f (codes "file") input
IsWork name f input (Replay db at wary new) =
    (name ≡ codes "replay") × HasWord f (codes "stream") input × (option_map (λ s. s.now) db ≡ first_value f (codes "db"))
    × IsNumberIn (one_text f (codes "at")) (Some at) × IsFlag f (codes "wary") wary × AsksFor f new
IsWork name f input (Simulate new) = (name ≡ codes "simulate") × HasWord f (codes "script") input × AsksFor f new

-- this command, with these arguments
abbrev pub IsRun : List ℕ → Found → Run → Type 0
IsRun name f (Read input work) = IsWork name f input work
IsRun name f (Serve db begin at wary new) =
    (name ≡ codes "serve") × HasWord f (codes "db") db × BeginsBy f begin × IsNumberIn (one_text f (codes "at")) at × IsFlag f (codes "wary") wary
    × AsksFor f new
IsRun name f (Store file) = (name ≡ codes "store") × HasWord f (codes "file") file
IsRun name f (runs.List file path) =
    (name ≡ codes "ls") × HasWord f (codes "file") file × (path.now ≡ unwrap_or (first_value f (codes "path")) (codes "/"))
IsRun name f (Cat file path) = (name ≡ codes "cat") × HasWord f (codes "file") file × HasWord f (codes "path") path
IsRun name f (Verify file) = (name ≡ codes "verify") × HasWord f (codes "file") file

-- the command that a parse met, with the arguments that it found
pub record AsksRun (m : ArgMatches) (run : Run) : Type 0 where
  pub name : List ℕ
  pub found : Found
  pub met : subcommand_rows_of m ≡ Some (name, rows_of found)
  pub is : IsRun name found run

-- it is what these words say to a program whose arguments are some command's
pub record ParsesTo (words : List (List ℕ)) (run : Run) : Type 0 where
  pub app : App
  pub matches : ArgMatches
  pub so : HasMatchesOf app words matches
  pub asks : AsksRun matches run
