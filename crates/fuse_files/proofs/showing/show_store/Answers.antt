use Rattle.std.proofs.Common.{inl, inr, refl}
use Rattle.sqlite.specs.Files.{file_state, over_files}
use Rattle.fuse_store.specs.TableKeeper.{parts_state}
use Rattle.fuse_files.specs.StoreShown.{image_in, store_read}
use Rattle.fuse_files.proofs.Opened.{clean_conn, was_for, was_inside, inside_of, says_nothing, stopped, says_true}
use Rattle.fuse_files.proofs.Written.{nothing_written, unopened_cut}
use Rattle.fuse_files.proofs.showing.show_store.Goals as goal

pub returns-in-Err-clause-shown : goal.returns-in-Err-clause-shown
returns-in-Err-clause-shown g c = λ good z held. stopped c.args.show z _ _ (says_nothing (store_read g.D.Disk c.args.read c.args.disk) z held _ c.in-Err.ensures.fault)

pub returns-in-Err-clause-says : goal.returns-in-Err-clause-says
returns-in-Err-clause-says g c = λ good. inl c.in-Err.ensures.fault

pub returns-in-Err-clause-written : goal.returns-in-Err-clause-written
returns-in-Err-clause-written g c =
    nothing_written g.W.Sink.was_written g.W.Sink.was_flushed c.args.show _ _ (unopened_cut (image_in c.args.read) _ c.in-Err.ensures.fault)

pub returns-then-lies_beside-clause-shown : goal.returns-then-lies_beside-clause-shown
returns-then-lies_beside-clause-shown g c = λ good z held.
    (c.show_of.ensures.shown (clean_conn (λ m. refl)) good).shown z
    (was_for (store_read g.D.Disk c.args.read c.args.disk) z held c.plain_over_any.ensures
    (parts_state over_files g.D.Disk (record { conn = c.in-Ok.conn; disk = c.args.disk })) c.in-Ok.ensures.opened.0 c.in-Ok.ensures.found refl)

pub returns-then-lies_beside-clause-says : goal.returns-then-lies_beside-clause-says
returns-then-lies_beside-clause-says g c = λ good.
    inr (says_true (image_in c.args.read) (file_state c.in-Ok.conn) _ c.in-Ok.ensures.opened.0 c.in-Ok.ensures.opened.1 c.in-Ok.ensures.found
    (c.show_of.ensures.shown (clean_conn (λ m. refl)) good).says)

pub returns-clause-shown : goal.returns-clause-shown
returns-clause-shown g c = λ good z held.
    c.show_inside-ending.ensures.shown (clean_conn (λ m. refl)) (λ m. refl) z
    (was_inside (store_read g.D.Disk c.args.read c.args.disk) z held c.plain_over_any.ensures (file_state c.in-Ok.conn) c.in-Ok.ensures.opened.0 c.in-Ok.ensures.opened.1
    c.in-Ok.ensures.found (inside_of (file_state c.in-Ok.conn).now c.lies_beside.result c.lies_beside.ensures c.if-lies_beside.false))

pub returns-clause-says : goal.returns-clause-says
returns-clause-says g c = λ good.
    inr (says_true (image_in c.args.read) (file_state c.in-Ok.conn) _ c.in-Ok.ensures.opened.0 c.in-Ok.ensures.opened.1 c.in-Ok.ensures.found
    (c.show_inside-ending.ensures.says (clean_conn (λ m. refl)) (λ m. refl)))
