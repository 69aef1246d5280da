-- The bytes that are handed on are those that the inner source gave (defined by this project).
use Rattle.std.specs.Prelude.{◌≡◌, ◌<◌, ℕ, zero, suc, List, [], ◌∷◌, ◌++◌, length, take, Option, Some, None, Result, Ok, Err}
use Rattle.std.specs.Io.KnownBytes.{prepend_known, Keeps, Consumes, IsAtEnd, ReadConsumes}
use Rattle.std.specs.declared.io.Error.{Error}
use Rattle.std.proofs.Common.{sym, ap, subst, ◌∙◌, refl, append_assoc}
use Rattle.fuse_session.specs.Source.{GaveRead, ReadsOnce}
use Rattle.alone_source.specs.declared.source.AloneSource.{AloneSource}
use Rattle.alone_source.specs.Holding.{HeldState, count_of}
use Rattle.alone_source.specs.Reads.{remaining_of, HandsSome, PassesOn, read_by, ReadsAlone}

-- bytes of those that are held were consumed
held_consumed : (held piece rest : List ℕ) (known : Option (List ℕ)) → held ≡ piece ++ rest → Consumes (prepend_known held known) (prepend_known rest known) piece
held_consumed held piece rest None e = tt
held_consumed held piece rest (Some xs) e = ap (λ (w : List ℕ). w ++ xs) e ∙ append_assoc piece rest xs

-- and of those that came meanwhile
came_consumed : (came piece rest : List ℕ) (old new : Option (List ℕ)) → came ≡ piece ++ rest → Consumes old new came
    → Consumes (prepend_known [] old) (prepend_known rest new) piece
came_consumed came piece rest None new e c = tt
came_consumed came piece rest (Some xs) None e c = absurd c
came_consumed came piece rest (Some xs) (Some ys) e c = c ∙ ap (λ (w : List ℕ). w ++ ys) e ∙ append_assoc piece rest ys

none_consumed : (old new : Option (List ℕ)) → Consumes old new [] → Consumes (prepend_known [] old) (prepend_known [] new) []
none_consumed None new c = tt
none_consumed (Some xs) None c = absurd c
none_consumed (Some xs) (Some ys) c = c

none_kept : (old new : Option (List ℕ)) → Keeps old new → Keeps (prepend_known [] old) (prepend_known [] new)
none_kept None new k = tt
none_kept (Some xs) None k = absurd k
none_kept (Some xs) (Some ys) k = k

still_at_end : (new : Option (List ℕ)) → IsAtEnd new → IsAtEnd (prepend_known [] new)
still_at_end None e = tt
still_at_end (Some xs) e = e

handed_consumed : {S : Type 0} (remaining : S → Option (List ℕ)) (a b : AloneSource S) (result : Result ℕ Error) (buffer : List ℕ)
    → HandsSome a.hold b.hold result buffer → b.inner ≡ a.inner → GaveRead (remaining_of remaining) a b result buffer
handed_consumed remaining a b (Ok n) buffer d same = (
  d.within,
  (
    subst (λ (s : _). Consumes (prepend_known a.hold.held (remaining a.inner)) (prepend_known b.hold.held (remaining s)) (take n buffer)) (sym same)
        (held_consumed a.hold.held (take n buffer) b.hold.held (remaining a.inner) d.order),
    (λ none room. absurd (d.some room none)),
  ),
)
handed_consumed remaining a b (Err e) buffer d same = absurd d

-- the result and the bytes of the inner read, at the values that the rest knows of
end_consumed : {S : Type 0} (remaining : S → Option (List ℕ)) (a b : AloneSource S) (into buffer : List ℕ) → GaveRead remaining a.inner b.inner (Ok zero) into
    → a.hold.held ≡ [] → b.hold.held ≡ [] → (0 < length buffer → 0 < length into) → ReadConsumes (remaining_of remaining a) (remaining_of remaining b) (count_of zero) buffer
end_consumed remaining a b into buffer gave none none' some = (
  subst (λ (u : List ℕ). Consumes (prepend_known u (remaining a.inner)) (prepend_known b.hold.held (remaining b.inner)) []) (sym none)
      (subst (λ (u : List ℕ). Consumes (prepend_known [] (remaining a.inner)) (prepend_known u (remaining b.inner)) []) (sym none')
      (none_consumed (remaining a.inner) (remaining b.inner) gave.1.0)),
  (
      λ e room. subst (λ (u : List ℕ). IsAtEnd (prepend_known u (remaining b.inner))) (sym none')
      (still_at_end (remaining b.inner) (gave.1.1 refl (some room)))
      ),
)

came_handed : {S : Type 0} (remaining : S → Option (List ℕ)) (a b : AloneSource S) (n : ℕ) (result : Result ℕ Error) (into buffer : List ℕ)
    → GaveRead remaining a.inner b.inner (Ok (suc n)) into → a.hold.held ≡ []
    → HandsSome (record a.hold { held = take (suc n) into }) b.hold result buffer
    → ReadConsumes (remaining_of remaining a) (remaining_of remaining b) result buffer
came_handed remaining a b n (Ok m) into buffer gave none d = (
  subst (λ (u : List ℕ). Consumes (prepend_known u (remaining a.inner)) (prepend_known b.hold.held (remaining b.inner)) (take m buffer)) (sym none)
      (came_consumed (take (suc n) into) (take m buffer) b.hold.held (remaining a.inner) (remaining b.inner) d.order gave.1.0),
  (λ e room. absurd (d.some room e)),
)
came_handed remaining a b n (Err e) into buffer gave none d = absurd d

abbrev error_of : Error → Result ℕ Error
error_of e = Err e

error_kept : {S : Type 0} (remaining : S → Option (List ℕ)) (a b : AloneSource S) (e : Error) (into buffer : List ℕ) → GaveRead remaining a.inner b.inner (Err e) into
    → a.hold.held ≡ [] → b.hold.held ≡ [] → ReadConsumes (remaining_of remaining a) (remaining_of remaining b) (error_of e) buffer
error_kept remaining a b e into buffer gave none none' =
    subst (λ (u : List ℕ). Keeps (prepend_known u (remaining a.inner)) (prepend_known b.hold.held (remaining b.inner))) (sym none)
    (subst (λ (u : List ℕ). Keeps (prepend_known [] (remaining a.inner)) (prepend_known u (remaining b.inner))) (sym none')
    (none_kept (remaining a.inner) (remaining b.inner) gave.1))

passed_consumed : {S : Type 0} (remaining : S → Option (List ℕ)) (a b : AloneSource S) (read result : Result ℕ Error) (into buffer : List ℕ)
    → GaveRead remaining a.inner b.inner read into → a.hold.held ≡ [] → (0 < length buffer → 0 < length into)
    → PassesOn read into a.hold b.hold result buffer → ReadConsumes (remaining_of remaining a) (remaining_of remaining b) result buffer
passed_consumed remaining a b (Ok zero) result into buffer gave none some p =
    subst (λ (r : Result ℕ Error). ReadConsumes (remaining_of remaining a) (remaining_of remaining b) r buffer) (sym p.0)
    (end_consumed remaining a b into buffer gave none (ap (λ (s : HeldState). s.held) p.1 ∙ none) some)
passed_consumed remaining a b (Ok (suc n)) result into buffer gave none some p = came_handed remaining a b n result into buffer gave none p
passed_consumed remaining a b (Err e) result into buffer gave none some p =
    subst (λ (r : Result ℕ Error). ReadConsumes (remaining_of remaining a) (remaining_of remaining b) r buffer) (sym p.0)
    (error_kept remaining a b e into buffer gave none (ap (λ (s : HeldState). s.held) p.1 ∙ none))

consumed_by : {S : Type 0} (remaining : S → Option (List ℕ)) (was_read : S → S → Result ℕ Error → List ℕ → Type 0) → ReadsOnce remaining was_read
    → (a b : AloneSource S) (held : List ℕ) (result : Result ℕ Error) (buffer : List ℕ) → a.hold.held ≡ held → read_by held was_read a b result buffer
    → GaveRead (remaining_of remaining) a b result buffer
consumed_by remaining was_read once a b [] result buffer none r =
    (r.within, passed_consumed remaining a b r.read result r.into buffer (once a.inner b.inner r.read r.into r.was) none r.some r.passes)
consumed_by remaining was_read once a b (x ∷ xs) result buffer some r = handed_consumed remaining a b result buffer r.0 r.1

pub alone_consumed : {S : Type 0} (remaining : S → Option (List ℕ)) (was_read : S → S → Result ℕ Error → List ℕ → Type 0) → ReadsOnce remaining was_read
    → ReadsOnce (remaining_of remaining) (ReadsAlone was_read)
alone_consumed remaining was_read once a b result buffer r = consumed_by remaining was_read once a b a.hold.held result buffer refl r
