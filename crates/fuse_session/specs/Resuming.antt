-- How the kernel is asked to send its pending requests again (fuse.h: FUSE_NOTIFY_RESEND, FUSE_HAS_RESEND).
use Rattle.std.specs.Prelude.{◌≡◌, Bool, true, false, List, [], ◌==◌, bit_and, Result, Ok, Err, Option, Some, None}
use Rattle.fuse_wire.specs.declared.init_flags.InitFlags.{InitFlags}
use Rattle.fuse_answer.specs.Notice.{resend_bytes}
use Rattle.fuse_init.specs.declared.settings.Settings.{Settings}
use Rattle.fuse_keeper.specs.declared.fault.StoreFault.{StoreFault}
use Rattle.fuse_keeper.specs.Model.{Model, IsOfGoodState}
use Rattle.fuse_keeper.specs.Stands.{Records}
use Rattle.fuse_keeper.specs.KeeperState.{KeeperState}
use Rattle.fuse_session.specs.declared.resend.ResumeFault.{ResumeFault}
use Rattle.fuse_session.specs.declared.resend.ResumeFault.TheVariants.{NotOffered, PortFailed, Store}
use Rattle.fuse_session.specs.Port.{PortState, SentWhole}
use Rattle.fuse_session.specs.Transcript.{PortEvent, Hands, SendsPart}

-- FUSE_HAS_RESEND, bit 39 of the flags
abbrev pub has_resend : InitFlags → Bool
has_resend flags = bit_and flags.0 0x80_0000_0000 == 0x80_0000_0000

-- no INIT was agreed, or one with HAS_RESEND
abbrev pub may_ask : Option Settings → Bool
may_ask None = true
may_ask (Some agreed) = has_resend agreed.flags

-- what is read off the settings of a tree that is held
abbrev pub SettingsSay : {M : Model} → KeeperState M → (Option Settings → Bool) → Bool → Type 0
SettingsSay {M} k read so = (rows : M.Rows) (records : Records) → k.holds rows records → IsOfGoodState M rows → read (M.settings rows) ≡ so

-- the notice was sent, handed to the port as all that was left of it each time, and nothing else happened there
pub record Resumed {M : Model} (k k' : KeeperState M) (old new : PortState) (became : List PortEvent → Type 0) : Type 0 where
  pub gone : Bool
  pub sent : SentWhole old new resend_bytes gone
  pub hands : Hands became resend_bytes true
  pub asks : k'.is_honest → SettingsSay k may_ask true

-- the port failed, with a part of the notice sent
pub record NotSent {M : Model} (k k' : KeeperState M) (old new : PortState) (became : List PortEvent → Type 0) : Type 0 where
  pub part : SendsPart became old new resend_bytes
  pub asks : k'.is_honest → SettingsSay k may_ask true

-- it wasn't sent: nothing happened at the port, or it failed
abbrev pub NotResumed : {M : Model} → KeeperState M → KeeperState M → PortState → PortState → (List PortEvent → Type 0) → ResumeFault → Type 0
NotResumed k k' old new became NotOffered = (new ≡ old) × became [] × (k'.is_honest → SettingsSay k may_ask false)
NotResumed k k' old new became PortFailed = NotSent k k' old new became
NotResumed k k' old new became (Store fault) = (new ≡ old) × became []

-- the part of the store in it: its fault, or none
abbrev pub of_store : Result (Unit {0}) ResumeFault → Result (Unit {0}) StoreFault
of_store (Ok done) = Ok done
of_store (Err NotOffered) = Ok tt
of_store (Err PortFailed) = Ok tt
of_store (Err (Store fault)) = Err fault
