-- What the bodies of further opcodes say.
use Rattle.std.proofs.Common.{◌≢◌, ◌<◌, ◌==◌, ℕ, zero, suc, Bool, true, false, cond, drop, List, [], ◌∷◌, Option, Some, None, arith}
use Rattle.std.specs.Option.{option_map, unwrap_or}
use Rattle.std.specs.List.{AllByRecursion}
use Rattle.fuse_wire.specs.Bytes.{after_nul}
use Rattle.fuse_request.specs.Places.{before_nul, second_name}
use Rattle.fuse_request.specs.FurtherBodies.{FurtherContent, Symlink, Create, FurtherOpcode, further_opcodes, find_further, further_content_at}
use Rattle.fuse_tree.specs.Bytes.{AreBytes, AreNameBytes}

-- what holds of each row's content holds of the one that is found
says : (P : Option FurtherContent → Type 0) (opcode : ℕ) (body : List ℕ) (rows : List FurtherOpcode) → P None → AllByRecursion (λ o. P (Some (o.says body))) rows
    → P (option_map (λ o. o.says body) (find_further opcode rows))
says P opcode body [] none all = none
says P opcode body (o ∷ rows) none all = step (opcode == o.opcode) (says P opcode body rows none all.1)
  where
    step : (b : Bool) → P (option_map (λ x. x.says body) (find_further opcode rows))
        → P (option_map (λ x. x.says body) (cond b (Some o) (find_further opcode rows)))
    step true later = all.0
    step false later = later

-- ---- a target holds no NUL

abbrev HasNone : List ℕ → Type 0
HasNone = AllByRecursion (λ b. b ≢ 0)

none_before : (body : List ℕ) → HasNone (before_nul body)
none_before [] = tt
none_before (zero ∷ body) = tt
none_before (suc n ∷ body) = (omega arith, none_before body)

abbrev pub EndsTarget : Option FurtherContent → Type 0
EndsTarget (Some (Symlink name target)) = HasNone target
EndsTarget _ = Unit {0}

pub target_ends : (opcode : ℕ) (body : List ℕ) → EndsTarget (further_content_at opcode body)
target_ends opcode body =
    says EndsTarget opcode body further_opcodes tt
    (tt, (none_before (unwrap_or (after_nul body) []), (tt, (tt, (tt, (tt, (tt, (tt, (tt, (tt, (tt, (tt, (tt, (tt, (tt, (tt, (tt, tt)))))))))))))))))

-- ---- names and targets are bytes

pub all_dropped : (P : ℕ → Type 0) (n : ℕ) (bs : List ℕ) → AllByRecursion P bs → AllByRecursion P (drop n bs)
all_dropped P zero bs all = all
all_dropped P (suc n) [] all = tt
all_dropped P (suc n) (b ∷ bs) all = all_dropped P n bs all.1

name_before : (body : List ℕ) → AreBytes body → AreNameBytes (before_nul body)
name_before [] all = tt
name_before (zero ∷ body) all = tt
name_before (suc n ∷ body) all = ((omega arith, all.0), name_before body all.1)

bytes_after : (body : List ℕ) → AreBytes body → AreBytes (unwrap_or (after_nul body) [])
bytes_after [] all = tt
bytes_after (zero ∷ body) all = all.1
bytes_after (suc n ∷ body) all = bytes_after body all.1

abbrev pub BringsNames : Option FurtherContent → Type 0
BringsNames (Some (Symlink name target)) = AreNameBytes name × AreNameBytes target
BringsNames (Some (Create flags mode umask open_flags name)) = AreNameBytes name
BringsNames _ = Unit {0}

pub names_brought : (opcode : ℕ) (body : List ℕ) → AreBytes body → BringsNames (further_content_at opcode body)
names_brought opcode body all =
    let two : AreNameBytes (before_nul body) × AreNameBytes (second_name body) =
    (name_before body all, name_before (unwrap_or (after_nul body) []) (bytes_after body all)) in
    let made : AreNameBytes (before_nul (drop 16 body)) = name_before (drop 16 body) (all_dropped (λ b. b < 256) 16 body all) in
    says BringsNames opcode body further_opcodes tt
    (tt, (two, (tt, (tt, (tt, (tt, (tt, (tt, (tt, (tt, (tt, (tt, (made, (tt, (tt, (tt, (tt, tt)))))))))))))))))
