use Rattle.std.proofs.Common.{◌≡◌, true, [], sym, ap, subst, ◌∙◌}
use Rattle.std.specs.Prelude.{IsTrue}
use Rattle.sqlite.specs.Held.{state}
use Rattle.fuse_store.specs.StoreKeeper.{own_file}
use Rattle.fuse_commands.specs.Endings.{store_ending}
use Rattle.fuse_files.specs.StoreShown.{SaysNothing}
use Rattle.fuse_files.proofs.Ends.{says_nothing, of_sql}
use Rattle.fuse_files.proofs.Looks.{sees_kept, view_same}
use Rattle.fuse_files.proofs.showing.look_in.Goals as goal

pub returns-in-Ok-clause-sees : goal.returns-in-Ok-clause-sees
returns-in-Ok-clause-sees g c = λ clean rows records held.
    let look = c.into_look-look in
    let new = state g.S.Store c.begin.new.conn in
    let begun = subst (λ conn. IsTrue new.is_open × (new.in_transaction ≡ true) × (new.now ≡ (state g.S.Store conn).now)) look.ensures.conn (c.in-Ok.ensures.begun (clean c.begin.new.conn)) in
    view_same g.D.Disk rows (state g.S.Store c.begin.new.conn) (own_file c.args.keeper) look.result.contents.file [] look.result.contents.written.items
    look.ensures.file look.ensures.written (sees_kept g.S.Store g.D.Disk c.held_is_shown.ensures c.args.keeper (state g.S.Store c.begin.new.conn) rows records held begun)

pub returns-in-Err-clause-quiet : goal.returns-in-Err-clause-quiet
returns-in-Err-clause-quiet g c =
    subst SaysNothing (sym (c.shown_over.ensures.ending ∙ c.of.ensures ∙ ap store_ending c.from.ensures)) (says_nothing _ (of_sql c.in-Err.error))
