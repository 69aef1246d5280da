-- What a sink holds after an output.
use Rattle.std.proofs.Common.{◌≡◌, ◌++◌, ◌∷◌, [], ℕ, List, Option, refl, sym, ap, subst, take, inl, inr, true, append-nil}
use Rattle.std.specs.Prelude.{Result, Ok, Err, IfErr}
use Rattle.std.specs.List.{flat_map}
use Rattle.std.specs.declared.io.Error.{Error}
use Rattle.std.specs.Io.KnownBytes.{Keeps, Appends}
use Rattle.std.proofs.KnownBytes.{Appends-nil, Appends-trans, Appends-kept}
use Rattle.fuse_session.specs.Source.{WritesOnce, FlushesOnce}
use Rattle.fuse_show.specs.Sinks.{Wrote, TookBytes, WriteFails, TookNone, Way, Flushed, Failed, Left, LastCall, Outputs}
use Rattle.fuse_show.specs.declared.fault.ShowFault.{ShowFault}
use Rattle.fuse_show.specs.Looks.{is_of_path}

module _ {W : Type 0} (contents : W → Option (List ℕ)) (written : W → W → Result ℕ Error → List ℕ → Type 0) (flushed : W → W → Result (Unit {0}) Error → Type 0)
    (appended : WritesOnce contents written) (kept : FlushesOnce contents flushed) where
  wrote : (a b : W) (ws : List (List ℕ × ℕ)) → Wrote written a b ws → Appends (contents a) (contents b) (flat_map (λ (w : List ℕ × ℕ). take w.1 w.0) ws)
  wrote a b [] same = subst (λ (x : W). Appends (contents a) (contents x) []) (sym same) (Appends-nil (contents a))
  wrote a b (w ∷ ws) calls =
      Appends-trans (contents a) (contents calls.0) (contents b) (take w.1 w.0) (flat_map (λ (v : List ℕ × ℕ). take v.1 v.0) ws)
      (appended a calls.0 (Ok w.1) w.0 calls.1).1 (wrote calls.0 b ws calls.2)

  refused : (a b c : W) (bytes : List ℕ) → Appends (contents a) (contents b) bytes → (r : Result ℕ Error) (slice : List ℕ) → written b c r slice → TookNone r
      → Appends (contents a) (contents c) bytes
  refused a b c bytes before (Ok n) slice was none =
      let nothing : Appends (contents b) (contents c) [] =
      subst (λ (k : ℕ). Appends (contents b) (contents c) (take k slice)) none (appended b c (Ok n) slice was).1 in
      subst (Appends (contents a) (contents c)) (append-nil bytes) (Appends-trans (contents a) (contents b) (contents c) bytes [] before nothing)
  refused a b c bytes before (Err e) slice was none = Appends-kept (contents a) (contents b) (contents c) bytes before (appended b c (Err e) slice was).1

  -- what an output took is added to what the sink held
  pub held_after : (a b : W) (way : Way) (P : List ℕ → Type 0) (out : Outputs written flushed a b way P) → Appends (contents a) (contents b) out.bytes
  held_after a b way P out = last way out.last
    where
      before : Appends (contents a) (contents out.mid) out.bytes
      before = subst (Appends (contents a) (contents out.mid)) out.takes.taken (wrote a out.mid out.takes.writes out.takes.calls)

      last : (way : Way) → LastCall written flushed out.mid b way → Appends (contents a) (contents b) out.bytes
      last Flushed call = Appends-kept (contents a) (contents out.mid) (contents b) out.bytes before (kept out.mid b (Ok tt) call)
      last Failed (inl r) = refused a out.mid b out.bytes before r.write r.slice r.was r.none
      last Failed (inr f) = Appends-kept (contents a) (contents out.mid) (contents b) out.bytes before (kept out.mid b (Err f.0) f.1)
      last Left same = subst (λ (x : W). Appends (contents a) (contents x) out.bytes) (sym same) before

  pub nothing_held : (a b : W) (r : Result (Unit {0}) ShowFault) → IfErr r (λ f. is_of_path f ≡ true → b ≡ a)
      → IfErr r (λ f. is_of_path f ≡ true → contents b ≡ contents a)
  nothing_held a b (Ok done) silent = tt
  nothing_held a b (Err f) silent = λ is. ap contents (silent is)
