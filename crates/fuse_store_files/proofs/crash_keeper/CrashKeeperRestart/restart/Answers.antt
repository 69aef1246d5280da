use Rattle.std.proofs.Common.{sym, subst, arith}
use Rattle.sqlite_trees.proofs.Doubt.{no_doubt}
use Rattle.sqlite.specs.State.{HasCleanDisk}
use Rattle.sqlite.specs.Files.{file_state, over_files, image_of}
use Rattle.fuse_data.specs.State.{state_in}
use Rattle.fuse_store_tables.specs.Faults.{IsOutside}
use Rattle.fuse_store.specs.Opening.Stored.{Second}
use Rattle.fuse_store.specs.TableKeeper.{conn_of, disk_in}
use Rattle.fuse_store_files.specs.Crashing.{crash_relations, left_image}
use Rattle.fuse_store_files.specs.Left.{disk_of}
use Rattle.fuse_store_files.specs.declared.files.Opening.TheVariants.{Existing}
use Rattle.fuse_store_files.proofs.Crashed.{crashed_of, reopened, was, found_left, left_of_data}
use Rattle.fuse_store_files.proofs.Found.{wanting, has_some, was_for, left_crashed, left_open, left_settled}
use Rattle.fuse_store_files.proofs.Beside.{sees_left, alone_left, clean_for}
use Rattle.fuse_store_files.proofs.crash_keeper.CrashKeeperRestart.restart.Goals as goal

pub returns-in-Err-clause-refused : goal.returns-in-Err-clause-refused
returns-in-Err-clause-refused g c =
    let left = c.crash_store-tables.result in
    let cr = crashed_of g.E.Disk (crash_relations g.D.Crashing.crashed g.E.Crashing.crashed) c.into_parts.result.conn (conn_of over_files g.E.Disk c.args.self.inner)
    c.into_parts.result.disk (disk_of c.args.self.inner) left c.into_parts.ensures.conn c.into_parts.ensures.disk c.crash_store-tables.ensures.crashed in
    record {
      left = left;
      files = cr;
      fault = λ clean good whole kept.
          subst IsOutside (sym c.opening_fault.ensures) (wanting left.tables c.in-Err.tables c.in-Err.error (c.in-Err.ensures.cause kept.0) (has_some _ _ (cr.tables.holds clean)));
      leaves = λ file may. left_crashed g.E.Disk left c.in-Err.tables c.in-Err.ensures.unharmed file (left_settled g.E.Disk left.disk cr.contents.settled file may);
    }

pub returns-in-Ok-open-clause-reopened : goal.returns-in-Ok-open-clause-reopened
returns-in-Ok-open-clause-reopened g c =
    let left = c.crash_store-tables.result in
    let cr = crashed_of g.E.Disk (crash_relations g.D.Crashing.crashed g.E.Crashing.crashed) c.into_parts.result.conn (conn_of over_files g.E.Disk c.args.self.inner)
    c.into_parts.result.disk (disk_of c.args.self.inner) left c.into_parts.ensures.conn c.into_parts.ensures.disk c.crash_store-tables.ensures.crashed in
    let old = c.args.self.inner in
    let new = c.in-Ok-open.inner in
    let o = c.in-Ok-open.ensures in
    let p = g.P.Profiled.PROFILE in
    let data_left = left_of_data g.E.Disk g.E.Crashing.crashed old.look.contents.file left.disk cr.contents in
    reopened g.D.Crashing.crashed (conn_of over_files g.E.Disk old) c.in-Ok.conn left.tables cr.tables c.in-Ok.ensures.opened c.in-Ok.ensures.found
    p (state_in g.E.Disk old.look.contents.file) (disk_in g.E.Disk left.disk) data_left g.met.D.Disk.seen_may_stay
    old.look.known new.look.known _ old.lot.number new.lot.number old.failed new.failed o.honest o.holds o.lots c.lots_are_read.ensures.same o.firm o.going

pub returns-in-Ok-open-clause-crashed : goal.returns-in-Ok-open-clause-crashed
returns-in-Ok-open-clause-crashed g c =
    let left = c.crash_store-tables.result in
    let cr = crashed_of g.E.Disk (crash_relations g.D.Crashing.crashed g.E.Crashing.crashed) c.into_parts.result.conn (conn_of over_files g.E.Disk c.args.self.inner)
    c.into_parts.result.disk (disk_of c.args.self.inner) left c.into_parts.ensures.conn c.into_parts.ensures.disk c.crash_store-tables.ensures.crashed in
    let o = c.in-Ok-open.ensures in
    let it = left_image g.D.Disk g.E.Disk left in
    let s = file_state c.in-Ok.conn in
    record {
      left = left;
      files = cr;
      keeps = λ honest z held.
          let clean = (o.honest honest).0 in
          let found = c.in-Ok.ensures.found clean in
          let live = c.in-Ok.ensures.opened clean in
          let was = was_for it (record { tables = s; contents = disk_in g.E.Disk left.disk }) live.0 live.1 (record { holds = found.holds; reads = found.reads })
          (sees_left g.E.Disk it.tables s left.disk) z held in
          record { held = o.holds honest z was; lots = o.lots honest z was };
    }

pub returns-in-Err-open-clause-refused : goal.returns-in-Err-open-clause-refused
returns-in-Err-open-clause-refused g c =
    let left = c.crash_store-tables.result in
    let cr = crashed_of g.E.Disk (crash_relations g.D.Crashing.crashed g.E.Crashing.crashed) c.into_parts.result.conn (conn_of over_files g.E.Disk c.args.self.inner)
    c.into_parts.result.disk (disk_of c.args.self.inner) left c.into_parts.ensures.conn c.into_parts.ensures.disk c.crash_store-tables.ensures.crashed in
    let refused = c.in-Err-open.ensures.refused in
    let rest = c.in-Err-open.field-0-1 in
    let old = c.args.self.inner in
    let it = left_image g.D.Disk g.E.Disk left in
    let s = file_state c.in-Ok.conn in
    let opened = c.in-Ok.ensures.opened in
    let p = g.P.Profiled.PROFILE in
    let data_left = left_of_data g.E.Disk g.E.Crashing.crashed old.look.contents.file left.disk cr.contents in
    record {
      left = left;
      files = cr;
      fault = λ clean good whole kept.
          let last = no_doubt _ kept.0 in
          let after : HasCleanDisk (file_state rest.conn) = omega (arith, last, c.into_store.ensures.quiet.clean) in
          let now : HasCleanDisk s = omega (arith, after, refused.crash.clean) in
          let conn = conn_of over_files g.E.Disk old in
          let h = (found_left g.D.Crashing.crashed conn c.in-Ok.conn left.tables cr.tables opened c.in-Ok.ensures.found now).0 in
          let some = whole (cr.tables.honest (c.in-Ok.ensures.found now).honest, data_left.clean good) h.trees h.so (disk_in g.E.Disk left.disk).seen data_left.left in
          refused.outside (Second some.holding) (after, clean_for g.E.Disk (Second some.holding) (file_state rest.conn) rest.disk kept.1)
          (was g.D.Crashing.crashed conn c.in-Ok.conn left.tables cr.tables opened c.in-Ok.ensures.found p (state_in g.E.Disk old.look.contents.file)
          (disk_in g.E.Disk left.disk) data_left now some.holding some.profile some.left) some.profile;
      leaves =
          left_open g.E.Disk it (Existing 0) c.in-Ok.conn g.met.D.Disk.seen_may_stay opened
          (λ clean. let found = c.in-Ok.ensures.found clean in record { holds = found.holds; reads = found.reads })
          (file_state rest.conn) c.into_store.result c.into_store.ensures.quiet.clean c.into_store.ensures.quiet.outcomes c.into_store.ensures.sound
          left.disk rest.disk (λ clean. sees_left g.E.Disk it.tables s left.disk)
          (λ clean z held db file may. alone_left g.E.Disk s left.disk cr.contents.settled z db file may)
          (λ clean now z held. refused.contents now z) refused.crash;
    }
