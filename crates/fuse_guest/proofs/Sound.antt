-- Whatever a guest says, it is a sound model.
use Rattle.std.proofs.Common.{◌≡◌, ◌≤◌, ℕ, Bool, true, false, List, [], length, Option, Some, None, is_some, Ok, Err, refl, sym, ap, lit≤, arith}
use Rattle.std.specs.Prelude.{IfOk, ◌==◌, if◌then◌else◌}
use Rattle.std.proofs.lemmas.Bool.{and_parts, true≢false}
use Rattle.fuse_wire.specs.declared.errno.Errno.{Errno}
use Rattle.fuse_wire.specs.declared.moment.Moment.{Moment}
use Rattle.fuse_wire.specs.Bounds.{max_body_len}
use Rattle.fuse_wire.specs.Errnos.{eproto}
use Rattle.fuse_request.specs.Act.{Act, Asked, opcode_of}
use Rattle.fuse_request.specs.Act as acts
use Rattle.fuse_request.specs.Opcodes.{is_performed_for}
use Rattle.fuse_answer.specs.Said.{FitsAnswer}
use Rattle.fuse_answer.specs.Bodies.{init_bytes}
use Rattle.fuse_answer.specs.Laws.{RecordSizes}
use Rattle.fuse_answer.specs.declared.init_out.InitOut.{InitOut}
use Rattle.fuse_init.specs.declared.negotiation.Negotiated.{Negotiated}
use Rattle.fuse_init.specs.declared.negotiation.Negotiated.TheVariants.{Agreed, Again, Refused}
use Rattle.guest_frames.specs.declared.ready.Ready.{Ready}
use Rattle.fuse_keeper.specs.Model.{IsSoundModel}
use Rattle.fuse_guest.specs.Agreement.{agree_for}
use Rattle.fuse_guest.specs.Pairs.{ArePairs}
use Rattle.fuse_guest.specs.Service.{is_seen_by, service_of, served_bits}
use Rattle.fuse_guest.specs.Talk.{Guest, Ending, talk_end}
use Rattle.fuse_guest.specs.GuestModel.{GuestState, GuestDone, refuse_guest, give_guest, eio, reply_of, init_ended, own_fault, unless_own, act_with, done_with, done_by, guest_model}
use Rattle.fuse_guest.proofs.Ordered.{no_pairs, changed_are}
use Rattle.fuse_guest.proofs.Turns.{IsTaken, end_taken}

-- ---- answers fit, and pairs stay pairs

record IsSoundDone (s : GuestState) (d : GuestDone) : Type 0 where
  pub fits : FitsAnswer d.said
  pub stay : ArePairs s.pairs → ArePairs d.state.pairs

refused : (errno : Errno) (s : GuestState) → IsSoundDone s (refuse_guest errno s)
refused errno s = record { fits = record { refusal = λ isnt. refl; short = lit≤ tt }; stay = λ are. are }

given : (body : List ℕ) (s t : GuestState) → length body ≤ max_body_len → (ArePairs s.pairs → ArePairs t.pairs) → IsSoundDone s (give_guest body t)
given body s t short stay = record { fits = record { refusal = λ isnt. absurd (isnt refl); short = short }; stay = stay }

replied : (r : Ready) (act : Act) (s : GuestState) (e : Ending) → IfOk e (IsTaken r act) → IsSoundDone s (reply_of s e)
replied r act s (Err fault) taken = refused eio s
replied r act s (Ok a) taken = record {
  fits = record { refusal = λ isnt. (taken.right.alone isnt).1; short = taken.right.body };
  stay = λ are. changed_are s.pairs a.changes are taken.right.each;
}

either : (b : Bool) (s : GuestState) (one two : GuestDone) → IsSoundDone s one → IsSoundDone s two → IsSoundDone s (if b then one else two)
either true s one two first second = first
either false s one two first second = second

init_short : RecordSizes → (out : InitOut) → length (init_bytes out) ≤ max_body_len
init_short laws out = omega (arith, laws.4 out)

init_sound : RecordSizes → (r : Ready) (s : GuestState) (end : Ending) (n : Negotiated) → IsSoundDone s (reply_of s end) → IsSoundDone s (init_ended r s end n)
init_sound laws r s end (Agreed out settings) d =
    either ((reply_of s end).said.errno == 0) s _ (reply_of s end)
    (given (init_bytes out) s (record { pairs = (reply_of s end).state.pairs; settings = Some settings; pledged = served_bits r }) (init_short laws out) d.stay)
    d
init_sound laws r s end (Again out) d = given (init_bytes out) s s (init_short laws out) (λ are. are)
init_sound laws r s end (Refused errno) d = refused errno s

own_sound : (o : Option Errno) (s : GuestState) (end : Ending) → IsSoundDone s (reply_of s end) → IsSoundDone s (unless_own o s end)
own_sound (Some errno) s end d = refused errno s
own_sound None s end d = d

act_sound : RecordSizes → (r : Ready) (s : GuestState) (end : Ending) (act : Act) → IsSoundDone s (reply_of s end) → IsSoundDone s (act_with r s end act)
act_sound laws r s end (acts.Init offer) d = init_sound laws r s end (agree_for r offer) d
act_sound laws r s end acts.Destroy d =
    either (is_some s.settings) s (give_guest [] s) (refuse_guest eproto s) (given [] s s (lit≤ tt) (λ are. are)) (refused eproto s)
act_sound laws r s end act d = own_sound (own_fault r s act) s end d

done_sound : RecordSizes → (G : Guest) (s : GuestState) (asked : Asked) (now : Moment) → IsSoundDone s (done_by G s asked now)
unfolding done_with
done_sound laws G s asked now =
    let end = talk_end G s.pairs asked now in
    act_sound laws G.ready s end asked.act (replied G.ready asked.act s end (end_taken G s.pairs asked now))

-- ---- a seen request changes nothing

no_change : (r : Ready) (act : Act) (s : GuestState) (end : Ending) → IfOk end (IsTaken r act) → is_seen_by r (opcode_of act) ≡ true → (reply_of s end).state ≡ s
no_change r act s (Err fault) taken seen = refl
no_change r act s (Ok a) taken seen = ap (λ changes. (reply_of s (Ok (record a { changes = changes }))).state) (taken.quiet seen)

own_same : (o : Option Errno) (s : GuestState) (end : Ending) → (reply_of s end).state ≡ s → (unless_own o s end).state ≡ s
own_same (Some errno) s end same = refl
own_same None s end same = same

-- of INIT and DESTROY none is seen
act_same : (r : Ready) (s : GuestState) (end : Ending) (act : Act) → is_seen_by r (opcode_of act) ≡ true → (reply_of s end).state ≡ s
    → (act_with r s end act).state ≡ s
act_same r s end (acts.Init offer) isnt same = absurd (true≢false (sym isnt))
act_same r s end acts.Destroy isnt same = absurd (true≢false (sym isnt))
act_same r s end act seen same = own_same (own_fault r s act) s end same

done_same : (G : Guest) (s : GuestState) (asked : Asked) (now : Moment) → is_seen_by G.ready (opcode_of asked.act) ≡ true → (done_by G s asked now).state ≡ s
unfolding done_with
done_same G s asked now seen =
    let end = talk_end G s.pairs asked now in
    act_same G.ready s end asked.act seen (no_change G.ready asked.act s end (end_taken G s.pairs asked now) seen)

pub sound : RecordSizes → (G : Guest) → IsSoundModel (guest_model G)
sound laws G = record {
  fits = λ s asked now. (done_sound laws G s asked now).fits;
  starts = λ now. no_pairs;
  goes_on = λ s asked now kept good. (done_sound laws G s asked now).stay good;
  stays = λ s asked now seen. done_same G s asked now
      (and_parts (is_performed_for (service_of G.ready) (opcode_of asked.act)) (is_seen_by G.ready (opcode_of asked.act)) seen).1;
  keeps_init = refl;
  keeps_destroy = refl;
  clears = λ s good. good;
}
