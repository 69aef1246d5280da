use Rattle.std.proofs.Common.{◌≡◌, ◌++◌, ◌∷◌, [], if◌then◌else◌, ℕ, List, drop, Result, Ok, Err, false, refl, ap, sym, subst, ◌∙◌}
use Rattle.std.specs.Prelude.{OnOk, is_err}
use Rattle.fuse_wire.specs.Bytes.{number_of}
use Rattle.fuse_wire.specs.Opcodes.{silent}
use Rattle.fuse_request.specs.Act.{asked}
use Rattle.fuse_request.specs.Canon.{canon}
use Rattle.fuse_sim.specs.Pending.{owed, messages_in, requests_in, MayBeSent}
use Rattle.fuse_sim.specs.KeptMessages.{ArePending}
use Rattle.fuse_sim.proofs.Pendings.{sent}
use Rattle.fuse_sim.proofs.kernel.Kernel.send.Goals as goal

well : {T E : Type 0} (r : Result T E) (P : Type 0) → OnOk r P → is_err r ≡ false → P
well (Ok _) P so good = so
well (Err _) P so good = absurd (cc good)

both : (c : goal.In_ok-keep) → ArePending c.keep.new.pending.items
    × (requests_in c.keep.new.pending.items ≡ requests_in c.self.inside.pending.items ++ owed (asked c.args.request.now))
both c =
    let good = sym c.is_err.ensures.value ∙ c.if-is_err.false in
    let spells = well c.encode.result _ c.encode.ensures.spelled good in
    let is : c.as_slice.result.now ≡ canon (asked c.args.request.now) =
    c.as_slice.ensures.value ∙ well c.encode.result _ c.encode.ensures.ok good
    ∙ ap (λ (x : List ℕ). x ++ canon (asked c.args.request.now)) c.new-message.ensures.items in
    let may : MayBeSent (requests_in c.self.inside.pending.items) (asked c.args.request.now) =
    subst (λ p. MayBeSent p (asked c.args.request.now)) (sym c.self.view_is) c.requires.free in
    let kept = c.in_ok-keep.ensures.ok ∙ ap (λ (m : List ℕ). messages_in c.self.inside.pending.items
    ++ (if silent (number_of 4 (drop 4 m)) then [] else m ∷ [])) is in
    sent c.spelled_at.ensures c.self.inside.pending.items c.keep.new.pending.items (asked c.args.request.now)
    (canon (asked c.args.request.now)) c.self.invariant may spells refl kept

pub invariant_of-self-2 : goal.invariant_of-self-2
invariant_of-self-2 c = (both c).0

pub returns-clause-pending : goal.returns-clause-pending
returns-clause-pending c = (both c).1 ∙ ap (λ p. p ++ owed (asked c.args.request.now)) c.self.view_is
