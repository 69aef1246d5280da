-- Groups of one request.
use Rattle.std.proofs.Common.{zero, suc, [], ◌∷◌, All, arith}
use Rattle.fuse_keeper.specs.History.{Entry}

pub all_one : (P : Entry → Type 0) (e : Entry) → P e → All P (e ∷ [])
all_one P e one zero d lt = one
all_one P e one (suc k) d lt = absurd (omega (arith, lt))
