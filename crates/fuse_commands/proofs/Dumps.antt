-- The lines of messages, one after the other.
use Rattle.std.proofs.Common.{◌≡◌, ℕ, ◌+◌, List, [], ◌∷◌, ◌++◌, length, Option, Some, None, sym, ap, subst, ◌∙◌, append_assoc, arith, length-append}
use Rattle.std.proofs.lemmas.List.{append-nil}
use Rattle.std.specs.Io.KnownBytes.{Appends}
use Rattle.fuse_request.specs.Faults.{first_fault}
use Rattle.fuse_request.specs.Header.{raw_of}
use Rattle.fuse_request.specs.Stream.{joined}
use Rattle.fuse_commands.specs.declared.messages.Placed.{Placed}
use Rattle.fuse_commands.specs.Dumping.{dump_line, dump_lines}
use Rattle.fuse_commands.specs.inner.Messages.{GaveMessage, WentSoFar}
use Rattle.fuse_commands.specs.Output.{line}
use Rattle.fuse_commands.proofs.Tallies.{gave_more}

-- the line of a message at this offset, with its line feed
abbrev line_at : ℕ → List ℕ → List ℕ
line_at at m = line (dump_line at (raw_of m) (first_fault m))

dump_lines-one : (at : ℕ) (ms : List (List ℕ)) (m : List ℕ) → dump_lines at (ms ++ m ∷ []) ≡ dump_lines at ms ++ line_at (at + length (joined ms)) m
dump_lines-one at [] m =
    let here : at ≡ at + 0 = omega arith in
    append-nil (line_at at m) ∙ ap (λ n. line_at n m) here
dump_lines-one at (n ∷ ms) m =
    let place : (at + length n) + length (joined ms) ≡ at + length (joined (n ∷ ms)) = omega (arith, length-append n (joined ms)) in
    ap (λ (x : List ℕ). line_at at n ++ x) (dump_lines-one (at + length n) ms m)
    ∙ sym (append_assoc (line_at at n) (dump_lines (at + length n) ms) (line_at ((at + length n) + length (joined ms)) m))
    ∙ ap (λ k. (line_at at n ++ dump_lines (at + length n) ms) ++ line_at k m) place

pub appends_then : (a b c : Option (List ℕ)) (x y : List ℕ) → Appends a b x → Appends b c y → Appends a c (x ++ y)
appends_then None b c x y h g = tt
appends_then (Some a) None c x y h g = absurd h
appends_then (Some a) (Some b) None x y h g = absurd g
appends_then (Some a) (Some b) (Some c) x y h g = g ∙ ap (λ (z : List ℕ). z ++ y) h ∙ append_assoc a x y

pub appends_none : (a : Option (List ℕ)) → Appends a a []
appends_none None = tt
appends_none (Some a) = sym (append-nil a)

pub none_dumped : (a : Option (List ℕ)) → Appends a a (dump_lines 0 [])
none_dumped a = appends_none a

pub some_dumped : (stream left left' old written written' : Option (List ℕ)) (at at' : ℕ) (p : Placed)
    → WentSoFar stream left at (λ ms. Appends old written (dump_lines 0 ms)) → GaveMessage left left' at at' p
    → Appends written written' (line (dump_line p.at (raw_of p.bytes) (first_fault p.bytes)))
    → WentSoFar stream left' at' (λ ms. Appends old written' (dump_lines 0 ms))
some_dumped stream left left' old written written' at at' p some one more =
    let place : p.at ≡ 0 + length (joined some.messages) = omega (arith, one.here, some.gave.place) in
    record {
      messages = some.messages ++ p.bytes ∷ [];
      gave = gave_more stream left left' at at' some.messages p some.gave one;
      so = subst (λ (x : List ℕ). Appends old written' x) (sym (dump_lines-one 0 some.messages p.bytes))
          (appends_then old written written' (dump_lines 0 some.messages)
          (line_at (0 + length (joined some.messages)) p.bytes) some.so (subst (λ n. Appends written written' (line_at n p.bytes)) place more));
    }
