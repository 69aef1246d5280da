-- Bytes that are just one message.
use Rattle.std.proofs.Common.{◌≡◌, ℕ, List, [], ◌∷◌, subst}
use Rattle.std.specs.List.{AllByRecursion}
use Rattle.fuse_request.specs.Stream.{cut, IsOneCut, IsMessage}

pub alone_is_message : IsOneCut → (m : List ℕ) → cut m ≡ (m ∷ [], []) → IsMessage m
alone_is_message one m is =
    let each : AllByRecursion IsMessage (cut m).0 = (one m).0.each in
    (subst (λ (p : List (List ℕ) × List ℕ). AllByRecursion IsMessage p.0) is each).0
