use Rattle.guest_tables.proofs.mount.clear_settings.Goals as goal

pub returns-clause-made : goal.returns-clause-made
returns-clause-made g c = c.write_all.ensures.made
