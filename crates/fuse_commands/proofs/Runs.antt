-- The command that a parse met.
use Rattle.std.proofs.Common.{◌≡◌, ℕ, List, Option, Some, None, IfSome, option_map, subst}
use Rattle.clap.specs.declared.parser.matches.Found.{Found}
use Rattle.clap.specs.declared.parser.matches.ArgMatches.{ArgMatches}
use Rattle.clap.specs.declared.parser.matches.ArgMatches.TheViews.{out-ArgMatches}
use Rattle.clap.specs.Matches.{subcommand_name_of}
use Rattle.clap.specs.Simple.{subcommand_rows_of}
use Rattle.clap.specs.Walk.{Row, rows_of}
use Rattle.fuse_commands.specs.declared.arguments.Run.{Run}
use Rattle.fuse_commands.specs.Asking.{IsRun, AsksRun}

joined : {B : Type 0} (sub : Option B) (name : B → List ℕ) (rows : B → List Row) (n : List ℕ) (r : List Row) → Some n ≡ option_map name sub
    → Some r ≡ option_map (λ (p : List ℕ × List Row). p.1) (option_map {U = List ℕ × List Row} (λ b. (name b, rows b)) sub)
    → option_map {U = List ℕ × List Row} (λ b. (name b, rows b)) sub ≡ Some (n, r)
joined None name rows n r named met = absurd (cc)
joined (Some b) name rows n r named met = cc

pub asked : (m : ArgMatches) (found : Found) (name given : List ℕ) (run : Option Run) → Some given ≡ subcommand_name_of m
    → Some (rows_of found) ≡ option_map (λ (p : List ℕ × List Row). p.1) (subcommand_rows_of m) → given ≡ name → IfSome run (IsRun name found) → IfSome run (AsksRun m)
asked m found name given None named met is so = tt
asked m found name given (Some run) named met is so = record {
  name = name;
  found = found;
  met = joined (out-ArgMatches m).subcommand _ _ name (rows_of found) (subst (λ (n : List ℕ). Some n ≡ subcommand_name_of m) is named) met;
  is = so;
}
