-- Where a port in memory lacks room.
use Rattle.std.proofs.Common.{◌≡◌, inl, inr, ◌<◌, ◌+◌, ℕ, true, Result, Ok, Err, refl, sym, ap, subst, ◌∙◌}
use Rattle.std.specs.Prelude.{OnErr, is_err, vec_capacity, vec_len}
use Rattle.fuse_session.specs.declared.memory.MemoryPort.{MemoryPort}
use Rattle.fuse_session.specs.declared.memory.Outcome.{Outcome}
use Rattle.fuse_session.specs.declared.memory.Outcome.TheVariants as outcomes
use Rattle.fuse_session.specs.declared.port.Sent.TheVariants as sent
use Rattle.fuse_session.specs.Memory.{kept_by, sent_by, AnswersSend}

pub refused : {A E : Type 0} (r : Result A E) (P : Type 0) → OnErr r P → is_err r ≡ true → P
refused (Ok x) P full is = absurd (cc is)
refused (Err e) P full is = full

pub answers_failed : (p : MemoryPort) (o x : Outcome) (len : ℕ) → x ≡ outcomes.Failed → x ≡ o → AnswersSend p o len sent.Failed
answers_failed p o x len is same = inl (ap (λ y. sent_by y len) (sym is ∙ same))

pub answers_no_room : (p q : MemoryPort) (o x : Outcome) (len n : ℕ) → q.sent ≡ p.sent → x ≡ o → n ≡ kept_by x len
    → vec_capacity q.sent < vec_len q.sent + n → AnswersSend p o len sent.Failed
answers_no_room p q o x len n same by is full =
    inr (
      refl,
      subst (λ v. vec_capacity v < vec_len v + kept_by o len) same
          (subst (λ k. vec_capacity q.sent < vec_len q.sent + k) (is ∙ ap (λ y. kept_by y len) by) full),
    )
