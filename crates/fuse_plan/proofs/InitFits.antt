-- What is answered to INIT fits, and is read.
use Rattle.std.proofs.Common.{Bool, true, false, if◌then◌else◌, nat_lt, Some, refl, arith}
use Rattle.fuse_wire.specs.Errnos.{eproto}
use Rattle.fuse_request.specs.declared.request.InitIn.{InitIn}
use Rattle.fuse_answer.specs.declared.init_out.InitOut.{InitOut}
use Rattle.fuse_answer.specs.Laws.{ReadBack, RecordSizes}
use Rattle.fuse_answer.specs.Replies.{AnInit}
use Rattle.fuse_init.specs.declared.profile.Profile.{Profile}
use Rattle.fuse_init.specs.Agree.{agree, is_older}
use Rattle.fuse_init.specs.declared.negotiation.Negotiated.{Negotiated}
use Rattle.fuse_init.specs.declared.negotiation.Negotiated.TheVariants.{Agreed, Again, Refused}
use Rattle.fuse_init.specs.declared.settings.Settings.{Settings}
use Rattle.fuse_tree.specs.State.{State}
use Rattle.fuse_tree.specs.Init.{init}
use Rattle.fuse_plan.proofs.Fit.{Fits, Reads, refused, answered, refused_reads, answered_reads}

pub init_fits : RecordSizes → (s : State) (negotiated : Negotiated) → Fits (init s negotiated)
init_fits sizes s (Agreed out settings) = answered (record s { settings = Some settings }) _ (omega (arith, sizes.4 out))
init_fits sizes s (Again out) = answered s _ (omega (arith, sizes.4 out))
init_fits sizes s (Refused errno) = refused s errno

pub init_reads : ReadBack → (s : State) (p : Profile) (offer : InitIn) → Reads AnInit (init s (agree p offer))
init_reads back s p offer = either (is_older offer) (nat_lt 7 offer.major) _ _ _
  where
    either : (older newer : Bool) (again out : InitOut) (settings : Settings)
        → Reads AnInit (init s (if older then Refused eproto else if newer then Again again else Agreed out settings))
    either true newer again out settings = refused_reads s eproto refl
    either false true again out settings = answered_reads s _ (back.init again)
    either false false again out settings = answered_reads (record s { settings = Some settings }) _ (back.init out)
