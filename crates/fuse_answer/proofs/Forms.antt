-- Parts that stand one after the other, and how many bytes they take.
use Rattle.std.proofs.Common.{◌≡◌, ℕ, List, [], ◌∷◌, ◌++◌, ◌+◌, ◌≤◌, length, Result, Ok, Err, refl, sym, ap, subst, ◌∙◌, append_assoc, arith}
use Rattle.std.specs.Prelude.{OnOk, replicate}
use Rattle.std.proofs.lemmas.List.{length-append}
use Rattle.fuse_wire.specs.Bytes.{le}
use Rattle.fuse_wire.specs.Layout.{Part, number, unused, text, bytes, Lays, HasForm, form}
use Rattle.fuse_wire.specs.Laws.{NumbersRead, LayoutsStand}
use Rattle.fuse_wire.specs.Written.{AllFit}
use Rattle.fuse_answer.specs.inner.NoText.{HasNoText}
use Rattle.fuse_answer.specs.Bodies.{out_header_parts, header_bytes, attr_parts, entry_parts, entry_bytes}
use Rattle.fuse_answer.specs.Laws.{BeginsWithLen}
use Rattle.fuse_answer.specs.Wire.{negated, wire, wire_head}
use Rattle.fuse_answer.specs.declared.records.OutHeader.{OutHeader}
use Rattle.fuse_answer.specs.declared.records.EntryOut.{EntryOut}

pub form-append : (ps qs : List Part) → form (ps ++ qs) ≡ form ps ++ form qs
form-append [] qs = refl
form-append (number w n ∷ ps) qs = ap (λ (x : List ℕ). le w n ++ x) (form-append ps qs) ∙ sym (append_assoc (le w n) (form ps) (form qs))
form-append (unused w ∷ ps) qs = ap (λ (x : List ℕ). replicate w 0 ++ x) (form-append ps qs) ∙ sym (append_assoc (replicate w 0) (form ps) (form qs))
form-append (text t ∷ ps) qs = ap (λ (x : List ℕ). t ++ 0 ∷ x) (form-append ps qs) ∙ sym (append_assoc t (0 ∷ form ps) (form qs))
form-append (bytes xs ∷ ps) qs = ap (λ (x : List ℕ). xs ++ x) (form-append ps qs) ∙ sym (append_assoc xs (form ps) (form qs))

pub on_ok : {T E : Type 0} (r : Result T E) (P Q : Type 0) → (P → Q) → OnOk r P → OnOk r Q
on_ok (Ok x) P Q f h = f h
on_ok (Err e) P Q f h = tt

-- the bytes of a header are laid out as it is
pub laid_header : LayoutsStand → (h : OutHeader) (body : List ℕ) → body ≡ header_bytes h → HasForm (out_header_parts h) → Lays (out_header_parts h) body
unfolding header_bytes
laid_header laws h body e f = subst (Lays (out_header_parts h)) (sym e) (laws.formed (out_header_parts h) f)

-- parts that have a form, one after the other
pub has-append : (ps qs : List Part) → HasForm ps → HasForm qs → HasForm (ps ++ qs)
has-append [] qs h g = g
has-append (number w n ∷ ps) qs h g = (h.0, has-append ps qs h.1 g)
has-append (unused w ∷ ps) qs h g = has-append ps qs h g
has-append (text t ∷ ps) qs h g = (h.0, has-append ps qs h.1 g)
has-append (bytes xs ∷ ps) qs h g = has-append ps qs h g

-- numbers that fit, and no names
pub has-form : (ps : List Part) → HasNoText ps → AllFit ps → HasForm ps
has-form [] none fit = tt
has-form (number w n ∷ ps) none fit = (fit.0, has-form ps none fit.1)
has-form (unused w ∷ ps) none fit = has-form ps none fit
has-form (text t ∷ ps) none fit = absurd none
has-form (bytes xs ∷ ps) none fit = has-form ps none fit

-- headers of the same numbers are the same
pub same-head : (body body' : List ℕ) (e e' u : ℕ) → body ≡ body' → e ≡ e'
    → form (number 4 (16 + length body) ∷ number 4 e ∷ number 8 u ∷ []) ≡ form (number 4 (16 + length body') ∷ number 4 e' ∷ number 8 u ∷ [])
same-head body body' e e' u p q = rw (p, q) refl

-- an answer begins with its length
pub len_first : (NumbersRead × LayoutsStand) → (errno : ℕ) (body : List ℕ) (unique : ℕ) → length body ≤ 1048576 → BeginsWithLen (wire errno body unique)
unfolding wire wire_head
len_first laws errno body unique short =
    let len : ℕ = 16 + length body in
    let others : List ℕ = form (number 4 (negated errno) ∷ number 8 unique ∷ []) in
    let rest : List ℕ = others ++ body in
    let parts : wire errno body unique ≡ le 4 len ++ rest = append_assoc (le 4 len) others body in
    let four : length others ≡ 12 = laws.1.form_len (number 4 (negated errno) ∷ number 8 unique ∷ []) in
    let follows : length rest ≡ length others + length body = length-append others body in
    let all : length (wire errno body unique) ≡ length (le 4 len) + length rest = ap (length {A = ℕ}) parts ∙ length-append (le 4 len) rest in
    let prefix : length (le 4 len) ≡ 4 = laws.0.len 4 len in
    let size : length (wire errno body unique) ≡ len = omega arith in
    record {
      rest = rest;
      parts = parts ∙ ap (λ (n : ℕ). le 4 n ++ rest) (sym size);
      four = omega arith;
      fits = omega arith;
    }

-- ---- entries

-- the parts before the attributes
abbrev pub entry_first : EntryOut → List Part
entry_first e =
    number 8 e.nodeid ∷ number 8 e.generation ∷ number 8 e.entry_valid ∷ number 8 e.attr_valid
    ∷ number 4 e.entry_valid_nsec ∷ number 4 e.attr_valid_nsec ∷ []

-- they are appended, and then the attributes
pub entry_put : (e : EntryOut) (old middle new : List ℕ) → middle ≡ old ++ form (entry_first e) → new ≡ middle ++ form (attr_parts e.attr)
    → new ≡ old ++ entry_bytes e
unfolding entry_bytes
entry_put e old middle new first last =
    last ∙ ap (λ (x : List ℕ). x ++ form (attr_parts e.attr)) first ∙ append_assoc old (form (entry_first e)) (form (attr_parts e.attr))
    ∙ ap (λ (x : List ℕ). old ++ x) (sym (form-append (entry_first e) (attr_parts e.attr)))

pub entry_fits : (e : EntryOut) → AllFit (entry_first e) → AllFit (attr_parts e.attr) → AllFit (entry_parts e)
entry_fits e h g = (h.0, (h.1.0, (h.1.1.0, (h.1.1.1.0, (h.1.1.1.1.0, (h.1.1.1.1.1.0, g))))))

pub entry_len : LayoutsStand → (e : EntryOut) → length (entry_bytes e) ≡ 128
unfolding entry_bytes
entry_len laws e = laws.form_len (entry_parts e)

pub entry_laid : LayoutsStand → (e : EntryOut) → AllFit (entry_parts e) → Lays (entry_parts e) (entry_bytes e)
unfolding entry_bytes
entry_laid laws e fits = laws.formed (entry_parts e) (has-form (entry_parts e) tt fits)
