use Rattle.std.proofs.Common.{sym, ◌∙◌}
use Rattle.sqlite.specs.Held.{state}
use Rattle.fuse_store_tables.specs.Content.{without_pieces}
use Rattle.fuse_store_tables.specs.declared.version.Layout.TheVariants.{Third}
use Rattle.fuse_store_tables.proofs.Laid.{made_in}
use Rattle.fuse_store_tables.proofs.Nothing.{no_pieces, nothing_within}
use Rattle.fuse_store_tables.proofs.pieces.remove_pieces.Goals as goal

pub returns-in-Second-clause-made : goal.returns-in-Second-clause-made
returns-in-Second-clause-made g c =
    no_pieces c.args.node (state g.S.Store c.args.conn.now) (λ k held. sym (c.layout_of.ensures.value k held) ∙ c.in-Second.is)

pub returns-in-Second-clause-within : goal.returns-in-Second-clause-within
returns-in-Second-clause-within g c = nothing_within (state g.S.Store c.args.conn.now)

pub returns-in-Third-clause-made : goal.returns-in-Third-clause-made
returns-in-Third-clause-made g c =
    made_in Third (without_pieces c.args.node) (state g.S.Store c.args.conn.now) (state g.S.Store c.delete_all_pieces.new.conn) c.delete_all_pieces.result
    (λ k held. sym c.in-Third.is ∙ c.layout_of.ensures.value k held) c.delete_all_pieces.ensures.made
