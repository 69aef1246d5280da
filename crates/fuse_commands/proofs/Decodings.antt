-- The answers and notices of a stream, one after the other.
use Rattle.std.proofs.Common.{All, ◌≡◌, ◌≤◌, ◌+◌, ℕ, Bool, true, false, ◌&&◌, cond, List, [], ◌∷◌, ◌++◌, length, take, drop, Option, Some, None}
use Rattle.std.proofs.Common.{refl, sym, ap, subst, ◌∙◌, append_assoc, arith, length-append}
use Rattle.std.proofs.lemmas.Bool.{leb-true}
use Rattle.std.proofs.lemmas.List.{append-nil, length-take, take-append-drop}
use Rattle.std.proofs.lemmas.List.Elements.{All-append, All-cons, All-nil}
use Rattle.std.specs.Io.KnownBytes.{Appends}
use Rattle.fuse_wire.specs.Bytes.{number_of}
use Rattle.fuse_request.specs.Stream.{joined}
use Rattle.fuse_commands.specs.declared.ending.Ending.{Ending}
use Rattle.fuse_commands.specs.Decoding.{begins_whole, IsSent, head_in, decode_line, decode_lines, rest_ending, Decoded}
use Rattle.fuse_commands.specs.Output.{line}
use Rattle.fuse_commands.proofs.Dumps.{appends_then, appends_none}
use Rattle.fuse_commands.proofs.Rests.{number_stays}
use Rattle.fuse_commands.proofs.Tallies.{joined-one}

-- the lines so far, of what was passed
pub record DecodedSoFar (old new : Option (List ℕ)) (stream rest : List ℕ) (at : ℕ) : Type 0 where
  pub sent : List (List ℕ)
  pub each : All IsSent sent
  pub whole : stream ≡ joined sent ++ rest
  pub place : at ≡ length (joined sent)
  pub written : Appends old new (decode_lines 0 sent)

pub none_decoded : (old : Option (List ℕ)) (stream : List ℕ) → DecodedSoFar old old stream stream 0
none_decoded old stream = record { sent = []; each = All-nil IsSent; whole = refl; place = refl; written = appends_none old }

-- the line of one at this offset, with its line feed
abbrev line_at : ℕ → List ℕ → List ℕ
line_at at m = line (decode_line at (head_in m))

decode_lines-one : (at : ℕ) (ms : List (List ℕ)) (m : List ℕ) → decode_lines at (ms ++ m ∷ []) ≡ decode_lines at ms ++ line_at (at + length (joined ms)) m
decode_lines-one at [] m =
    let here : at ≡ at + 0 = omega arith in
    append-nil (line_at at m) ∙ ap (λ n. line_at n m) here
decode_lines-one at (n ∷ ms) m =
    let place : (at + length n) + length (joined ms) ≡ at + length (joined (n ∷ ms)) = omega (arith, length-append n (joined ms)) in
    ap (λ (x : List ℕ). line_at at n ++ x) (decode_lines-one (at + length n) ms m)
    ∙ sym (append_assoc (line_at at n) (decode_lines (at + length n) ms) (line_at ((at + length n) + length (joined ms)) m))
    ∙ ap (λ k. (line_at at n ++ decode_lines (at + length n) ms) ++ line_at k m) place

and_both : (b c : Bool) → (b && c) ≡ true → (b ≡ true) × (c ≡ true)
and_both true c e = (refl, e)
and_both false c e = absurd cc

-- n is the length of the first one, where it is whole
abbrev pub IsFirst : Option ℕ → List ℕ → Type 0
IsFirst n w = n ≡ cond {A = Option ℕ} (begins_whole w) (Some (number_of 4 w)) None

some_by : (b : Bool) (n m : ℕ) → ◌≡◌ {A = Option ℕ} (Some n) (cond b (Some m) None) → (b ≡ true) × (n ≡ m)
some_by true n m e = (refl, cc)
some_by false n m e = absurd cc

none_by : (b : Bool) (m : ℕ) → ◌≡◌ {A = Option ℕ} None (cond b (Some m) None) → b ≡ false
none_by true m e = absurd cc
none_by false m e = refl

pub record Leads (n : ℕ) (w : List ℕ) : Type 0 where
  pub size : n ≡ number_of 4 w
  pub low : 16 ≤ n
  pub high : n ≤ 1048592
  pub there : n ≤ length w

pub leads : (n : ℕ) (w : List ℕ) → IsFirst (Some n) w → Leads n w
leads n w e =
    let p = some_by (begins_whole w) n (number_of 4 w) e in
    let a = and_both _ _ p.0 in
    let b = and_both _ _ a.1 in
    let c = and_both _ _ b.1 in
    let size : n ≡ number_of 4 w = p.1 in
    let low : 16 ≤ number_of 4 w = leb-true 16 (number_of 4 w) b.0 in
    let high : number_of 4 w ≤ 1048592 = leb-true (number_of 4 w) 1048592 c.0 in
    let there : number_of 4 w ≤ length w = leb-true (number_of 4 w) (length w) c.1 in
    record { size = size; low = rw size low; high = rw size high; there = rw size there }

sent_first : (n : ℕ) (w front back : List ℕ) → Leads n w → front ≡ take n w → back ≡ drop n w → (w ≡ front ++ back) × (length front ≡ n) × IsSent front
sent_first n w front back leading front_is back_is =
    let whole : w ≡ front ++ back = rw (front_is, back_is) (sym (take-append-drop n w)) in
    let size : length front ≡ n = rw front_is (omega (arith, length-take n w, leading.there)) in
    let few : 4 ≤ length front = omega (arith, size, leading.low) in
    let same : number_of 4 w ≡ number_of 4 front = ap (number_of 4) whole ∙ number_stays front back few in (
      whole,
      size,
      record {
        size = sym same ∙ sym leading.size ∙ sym size;
        low = omega (arith, size, leading.low);
        high = omega (arith, size, leading.high);
      },
    )

pub some_decoded : (old now new : Option (List ℕ)) (stream rest front back : List ℕ) (at n : ℕ) → Leads n rest → front ≡ take n rest → back ≡ drop n rest
    → DecodedSoFar old now stream rest at → Appends now new (line (decode_line at (head_in front)))
    → DecodedSoFar old new stream back (at + n)
some_decoded old now new stream rest front back at n leading front_is back_is so more =
    let f = sent_first n rest front back leading front_is back_is in
    let place : at ≡ 0 + length (joined so.sent) = omega (arith, so.place) in
    let whole : joined so.sent ++ rest ≡ joined (so.sent ++ front ∷ []) ++ back =
    ap (λ (x : List ℕ). joined so.sent ++ x) f.0 ∙ sym (append_assoc (joined so.sent) front back)
    ∙ ap (λ (x : List ℕ). x ++ back) (sym (joined-one so.sent front)) in
    let len : length (joined (so.sent ++ front ∷ [])) ≡ length (joined so.sent) + length front =
    ap (length {A = ℕ}) (joined-one so.sent front) ∙ length-append (joined so.sent) front in
    record {
      sent = so.sent ++ front ∷ [];
      each = All-append IsSent so.sent (front ∷ []) so.each (All-cons IsSent front [] f.2 (All-nil IsSent));
      whole = so.whole ∙ whole;
      place = omega (arith, len, f.1, so.place);
      written = subst (λ (x : List ℕ). Appends old new x) (sym (decode_lines-one 0 so.sent front))
          (appends_then old now new (decode_lines 0 so.sent) (line_at (0 + length (joined so.sent)) front) so.written
          (subst (λ k. Appends now new (line_at k front)) place more));
    }

pub all_decoded : (old new : Option (List ℕ)) (stream rest : List ℕ) (at : ℕ) (ending : Ending) → IsFirst None rest
    → DecodedSoFar old new stream rest at → ending ≡ rest_ending at rest → Decoded old new stream ending
all_decoded old new stream rest at ending none so is = record {
  sent = so.sent;
  rest = rest;
  each = so.each;
  whole = so.whole;
  stuck = none_by (begins_whole rest) (number_of 4 rest) none;
  written = so.written;
  ends = is ∙ ap (λ n. rest_ending n rest) so.place;
}
