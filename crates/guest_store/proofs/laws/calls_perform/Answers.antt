use Rattle.guest_store.proofs.Settled.{call_performs, call_seen}
use Rattle.guest_store.proofs.Took.{Below, others_stay}
use Rattle.guest_store.proofs.Under.{records_under}
use Rattle.guest_store.proofs.laws.calls_perform.Goals as goal

pub returns : goal.returns
returns g c = λ tells.
    let b : Below g.M.Modelled.model = record { sound = c.model_is_sound.ensures; tells = tells; grow = c.groups_of_model_grow.ensures } in
    record {
      calls = λ lot ids es y are good. call_performs b lot ids es y are good;
      others = λ lot ids es y. others_stay lot ids es y;
      lots = λ lot ids es y below. records_under lot ids es y below;
      seen = λ lot es y none. call_seen lot es y none;
    }
