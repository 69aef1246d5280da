-- The state of a keeper in memory (defined by this project).
use Rattle.std.specs.Prelude.{◌≡◌, false}
use Rattle.fuse_keeper.specs.declared.fault.StoreFault.TheVariants.{Memory}
use Rattle.fuse_keeper.specs.declared.plain.PlainKeeper.{PlainKeeper}
use Rattle.fuse_keeper.specs.Model.{Model}
use Rattle.fuse_keeper.specs.Stands.{Records, AreThese}
use Rattle.fuse_keeper.specs.KeeperState.{KeeperState}
use Rattle.fuse_keeper.specs.Lots.{no_lots}
use Rattle.fuse_keeper.specs.Plain.{mapped}

abbrev pub plain_holds : {F : Type 0} → (M : Model) → (F → M.Rows) → PlainKeeper F → M.Rows → Records → Type 0
plain_holds M held k = AreThese M (held k.rows) (mapped k.records)

-- its only fault is out of memory, and a crash leaves the state that it holds
abbrev pub plain_told : {F : Type 0} → (M : Model) → (F → M.Rows) → PlainKeeper F → KeeperState M
plain_told M held k = record {
  holds = plain_holds M held k;
  is_honest = Unit {0};
  is_clean = Unit {0};
  in_memory = Unit {0};
  has_failed = k.failed;
  leaves_whole = Unit {0};
  may_leave = plain_holds M held k;
  may_answer = λ fault. fault ≡ Memory;
  lots = no_lots;
  service = M.service;
}

-- the same, where no call has failed
abbrev pub unfailed : {F : Type 0} → PlainKeeper F → PlainKeeper F
unfailed k = record k { failed = false }

-- the records that it holds
abbrev pub plain_records : {F : Type 0} → PlainKeeper F → Records
plain_records k = mapped k.records
