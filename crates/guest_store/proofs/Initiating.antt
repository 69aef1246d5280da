-- INIT, as a step.
use Rattle.std.specs.Prelude.{⊤}
use Rattle.std.proofs.Common.{◌≡◌, ◌==◌, ℕ, Bool, true, false, not, nat_eq, arith, if◌then◌else◌, List, [], ◌∷◌, Option, Some, Ok, refl, sym, ap, ◌∙◌}
use Rattle.std.proofs.lemmas.Bool.Decides.{nat_tests}
use Rattle.fuse_wire.specs.declared.moment.Moment.{Moment}
use Rattle.fuse_request.specs.Act.{Asked}
use Rattle.fuse_answer.specs.Said.{Said}
use Rattle.fuse_init.specs.declared.settings.Settings.{Settings}
use Rattle.guest_frames.specs.declared.ready.Ready.{Ready}
use Rattle.fuse_guest.specs.Service.{served_bits}
use Rattle.fuse_guest.specs.Talk.{Guest, talk_end}
use Rattle.fuse_guest.specs.GuestModel.{GuestDone, give_guest, init_reply, reply_of}
use Rattle.guest_store.specs.declared.store.Deaths.{Deaths}
use Rattle.guest_store.specs.Asks.{asking_of}
use Rattle.guest_store.specs.StoreState.{StoreState}
use Rattle.guest_store.specs.inner.Acting.{doing_by, replying, with_state}
use Rattle.guest_store.specs.inner.Stepping.{Effect, Steps, making}
use Rattle.guest_store.proofs.Stepping.{step_as, step_ok}

-- the guest is asked, and unless it gives an error these are agreed on
abbrev pub initiating : (G : Guest) → Option Deaths → Asked → Moment → List ℕ → Settings → Effect G Said
initiating G deaths asked now body settings =
    doing_by G (λ s. asking_of deaths asked now s ∷ []) (λ s. init_reply G.ready body settings (reply_of s (talk_end G s.pairs asked now)))

abbrev pub agreeing : (G : Guest) → {X : Type 0} → Settings → ℕ → Effect G X
agreeing G settings pledged = making G (λ y. record y { state = record y.state { settings = Some settings; pledged = pledged } }) (λ y r. ⊤)

-- whether a number is 0
pub some_errno : (a n : ℕ) (r : Bool) → a ≡ n → r ≡ not (nat_eq n 0) → r ≡ true → (a == 0) ≡ false
some_errno a n r same is on = grind (arith, nat_tests)

pub no_errno : (a n : ℕ) (r : Bool) → a ≡ n → r ≡ not (nat_eq n 0) → r ≡ false → a ≡ 0
no_errno a n r same is off = grind (arith, nat_tests)

agreed_done : (r : Ready) (body : List ℕ) (settings : Settings) (d : GuestDone) → d.said.errno ≡ 0
    → init_reply r body settings d ≡ give_guest body (record { pairs = d.state.pairs; settings = Some settings; pledged = served_bits r })
agreed_done r body settings d zero =
    ap (λ n. if n == 0 then give_guest body (record { pairs = d.state.pairs; settings = Some settings; pledged = served_bits r }) else d) zero

refused_done : (r : Ready) (body : List ℕ) (settings : Settings) (d : GuestDone) → (d.said.errno == 0) ≡ false → init_reply r body settings d ≡ d
refused_done r body settings d some =
    ap (λ b. if b then give_guest body (record { pairs = d.state.pairs; settings = Some settings; pledged = served_bits r }) else d) some

module _ (G : Guest) (deaths : Option Deaths) (asked : Asked) (now : Moment) (body : List ℕ) (settings : Settings) (a b : StoreState) (answer : Said) (p : Steps G (replying G deaths asked now) a b (Ok answer)) where
  pub initiated : {X : Type 0} → (pledged : ℕ) (d : StoreState) (said : Said) (x : X) → answer.errno ≡ 0 → pledged ≡ served_bits d.talk.ready
      → said ≡ record { errno = 0; body = body } → Steps G (agreeing G {X = X} settings pledged) b d (Ok x) → Steps G (initiating G deaths asked now body settings) a d (Ok said)
  initiated {X} pledged d said x none bits is q =
      step_ok G (replying G deaths asked now) (agreeing G {X = X} settings pledged) a b d answer p (initiating G deaths asked now body settings) x said q
      (λ all w told more.
      let done = reply_of w.state (talk_end G w.state.pairs asked now) in
      let same = agreed_done G.ready body settings done (sym (ap (λ (s : Said). s.errno) told) ∙ none) in (
        ap (λ n. with_state G (record { pairs = done.state.pairs; settings = Some settings; pledged = n }) w) (bits ∙ ap served_bits all.ready)
            ∙ ap (λ (k : GuestDone). with_state G k.state w) (sym same),
        is ∙ ap (λ (k : GuestDone). k.said) (sym same),
      ))
      (λ all w told. refl)

  pub not_agreed : (answer.errno == 0) ≡ false → Steps G (initiating G deaths asked now body settings) a b (Ok answer)
  not_agreed some =
      step_as G (replying G deaths asked now) (initiating G deaths asked now body settings) a b answer answer p
      (λ all w told.
      let done = reply_of w.state (talk_end G w.state.pairs asked now) in
      let same = refused_done G.ready body settings done (ap (λ (s : Said). s.errno == 0) (sym told) ∙ some) in
      (ap (λ (k : GuestDone). with_state G k.state w) (sym same), told ∙ ap (λ (k : GuestDone). k.said) (sym same)))
      (λ all w told. refl)
