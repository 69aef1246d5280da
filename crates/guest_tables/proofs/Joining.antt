-- Steps one after another, over the content of a guest's tables.
use Rattle.std.proofs.Common.{Ok, Err, Result}
use Rattle.sqlite.specs.State.{State}
use Rattle.fuse_store_tables.specs.Moves.{Takes}
use Rattle.fuse_store_tables.specs.inner.Following.{then_as, taken_from}
use Rattle.guest_tables.specs.Content.{GuestContent, Holds}
use Rattle.guest_tables.specs.Moves.{Makes}

pub makes_then : {X Y E F : Type 0} (f g : GuestContent → GuestContent) (a b d : State) (x : X) (r : Result Y F) → Makes {X = X} {E = E} f a b (Ok x)
    → Makes g b d r → Makes (λ c. g (f c)) a d r
makes_then f g a b d x r p q = then_as Holds (λ c. Holds (f c)) (λ c. Holds (g (f c))) a b d x r p (taken_from Holds (λ c. Holds (g c)) f b d r q)

-- `Makes` as a step from one content to the next, begun with what an earlier step makes
pub made_from : {X E : Type 0} (f g : GuestContent → GuestContent) (a b : State) (r : Result X E) → Makes g a b r
    → Takes (λ c. Holds (f c)) (λ c. Holds (g (f c))) a b r
made_from f g a b r p = taken_from Holds (λ c. Holds (g c)) f a b r p
