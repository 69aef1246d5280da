-- The laws of the count of openings, and of the log (defined by this project).
use Rattle.std.specs.Prelude.{ℕ, ◌+◌, List, [], ◌++◌, map}
use Rattle.std.proofs.Common.{arith, sym, ap, ◌∙◌}
use Rattle.std.proofs.lemmas.List.{append-nil, append_assoc, map-append}
use Rattle.fuse_keeper.specs.Performance.{Performance}
use Rattle.counting_keeper.specs.declared.tally.Tally.{Tally}
use Rattle.counting_keeper.specs.declared.log.Log.{Log}
use Rattle.counting_keeper.specs.Counting.{Opened}
use Rattle.counting_keeper.specs.Logging.{asked_ids, calls_of, Logged}

pub opened_then : (a b c : Tally) (m n : ℕ) → Opened a b m → Opened b c n → Opened a c (m + n)
opened_then a b c m n before after = λ room. omega (arith, before (omega (arith, room)), after (omega (arith, room, before (omega (arith, room)))))

-- nothing was asked
pub logged_none : (a : Log) → Logged a a []
logged_none a = λ whole. (whole, sym (append-nil (calls_of a)))

-- one list was asked, and then another one
pub logged_onward : (a b c : Log) (before after : List Performance) → Logged a b before → Logged b c after → Logged a c (before ++ after)
logged_onward a b c before after one two = λ whole.
    let late = two whole in
    let early = one late.0 in (
      early.0,
      late.1 ∙ ap (λ calls. calls ++ map asked_ids after) early.1
          ∙ append_assoc (calls_of a) (map asked_ids before) (map asked_ids after)
          ∙ ap (λ calls. calls_of a ++ calls) (sym (map-append asked_ids before after)),
    )
