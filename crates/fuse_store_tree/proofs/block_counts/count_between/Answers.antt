use Rattle.std.proofs.Common.{◌∙◌}
use Rattle.fuse_store_tree.proofs.Looks.{map_ok}
use Rattle.fuse_store_tree.proofs.block_counts.count_between.Goals as goal

pub returns-in-Second-clause-value : goal.returns-in-Second-clause-value
returns-in-Second-clause-value g c clean file k at sound third low = absurd (let e = c.in-Second.ensures.value k at.holds ∙ third in cc)

pub returns-in-Third-clause-value : goal.returns-in-Third-clause-value
returns-in-Third-clause-value g c clean =
    map_ok c.count_third.result _ _ (λ n told file k at sound third low. told file k at sound low) (c.count_third.ensures.value clean)

pub returns-in-Third-clause-none : goal.returns-in-Third-clause-none
returns-in-Third-clause-none g c clean =
    map_ok c.count_third.result _ _ (λ n told k at second. absurd (let e = c.in-Third.ensures.value k at.holds ∙ second in cc)) c.count_third.ensures.high
