-- The effect of a request is that of what was decided.
use Rattle.std.proofs.Common.{◌≡◌, Bool, true, false, cond, if◌then◌else◌, List, [], Option, Some, None, is_some, Result, Ok, Err, refl}
use Rattle.std.specs.Prelude.{is_err, is_none}
use Rattle.std.specs.Result.{result_err}
use Rattle.fuse_wire.specs.declared.errno.Errno.{Errno}
use Rattle.fuse_wire.specs.Errnos.{eproto}
use Rattle.fuse_request.specs.Act.{Act}
use Rattle.fuse_request.specs.Act as acts
use Rattle.fuse_init.specs.declared.negotiation.Negotiated.{Negotiated}
use Rattle.fuse_init.specs.declared.negotiation.Negotiated.TheVariants.{Agreed, Again, Refused}
use Rattle.guest_frames.specs.declared.ready.Ready.{Ready}
use Rattle.fuse_guest.specs.Agreement.{agree_for}
use Rattle.fuse_guest.specs.Talk.{Ending}
use Rattle.fuse_guest.specs.GuestModel.{GuestState, refuse_guest, give_guest, act_with, init_ended, own_fault, unless_own}
use Rattle.guest_store.specs.declared.deciding.Decision.TheVariants.{Refuse, Nothing}
use Rattle.fuse_guest.specs.Replayed.{is_agreed, is_asked}
use Rattle.guest_store.specs.Asks.{Asking}
use Rattle.guest_store.specs.inner.Acting.{asks_decided}
use Rattle.guest_store.specs.inner.Deciding.{decided, decided_by, decided_init, done_as}

by_init : (r : Ready) (s : GuestState) (end : Ending) (n : Negotiated) → init_ended r s end n ≡ done_as r s end (decided_init n)
by_init r s end (Agreed out settings) = refl
by_init r s end (Again out) = refl
by_init r s end (Refused errno) = refl

by_end : (r : Ready) (s : GuestState) (end : Ending) (b : Bool)
    → cond b (give_guest [] s) (refuse_guest eproto s) ≡ done_as r s end (cond b Nothing (Refuse eproto))
by_end r s end true = refl
by_end r s end false = refl

by_fault : (r : Ready) (s : GuestState) (end : Ending) (o : Option Errno) → unless_own o s end ≡ done_as r s end (decided_by o)
by_fault r s end (Some errno) = refl
by_fault r s end None = refl

pub act_is_decided : (r : Ready) (s : GuestState) (end : Ending) (act : Act) → act_with r s end act ≡ done_as r s end (decided r (is_some s.settings) act)
act_is_decided r s end (acts.Init offer) = by_init r s end (agree_for r offer)
act_is_decided r s end acts.Destroy = by_end r s end (is_some s.settings)
act_is_decided r s end act = by_fault r s end (own_fault r s act)

-- ---- a guest is asked where that is decided

asked_init : (l : List Asking) (n : Negotiated) → cond (is_agreed n) l [] ≡ asks_decided (decided_init n) l
asked_init l (Agreed out settings) = refl
asked_init l (Again out) = refl
asked_init l (Refused errno) = refl

asked_end : (l : List Asking) (b : Bool) → [] ≡ asks_decided (cond b Nothing (Refuse eproto)) l
asked_end l true = refl
asked_end l false = refl

asked_fault : (l : List Asking) (o : Option Errno) → cond (is_none o) l [] ≡ asks_decided (decided_by o) l
asked_fault l (Some errno) = refl
asked_fault l None = refl

pub asks_are_decided : (r : Ready) (s : GuestState) (l : List Asking) (act : Act)
    → (if is_asked r s act then l else []) ≡ asks_decided (decided r (is_some s.settings) act) l
asks_are_decided r s l (acts.Init offer) = asked_init l (agree_for r offer)
asks_are_decided r s l acts.Destroy = asked_end l (is_some s.settings)
asks_are_decided r s l act = asked_fault l (own_fault r s act)

-- whether a result is a fault, and whether there is a fault of it
pub fault_there : {X E : Type 0} (r : Result X E) → is_err r ≡ is_some (result_err r)
fault_there (Ok x) = refl
fault_there (Err e) = refl
