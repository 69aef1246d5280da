-- Known bytes, as they are read and returned.
use Rattle.std.proofs.Common.{◌≡◌, ℕ, List, ◌++◌, Option, Some, None, refl, sym, ap, ◌∙◌, append_assoc}
use Rattle.std.proofs.lemmas.List.{append-nil}
use Rattle.std.specs.Option.{IfSome}
use Rattle.std.specs.Io.KnownBytes.{Keeps, Consumes, IsAtEnd, prepend_known}

pub keeps_same : (a : Option (List ℕ)) → Keeps a a
keeps_same None = tt
keeps_same (Some xs) = refl

pub keeps_then : (a b c : Option (List ℕ)) → Keeps a b → Keeps b c → Keeps a c
keeps_then None b c h g = tt
keeps_then (Some xs) None c h g = absurd h
keeps_then (Some xs) (Some ys) None h g = absurd g
keeps_then (Some xs) (Some ys) (Some zs) h g = g ∙ h

pub keeps_consumes : (a b c : Option (List ℕ)) (m : List ℕ) → Keeps a b → Consumes b c m → Consumes a c m
keeps_consumes None b c m h g = tt
keeps_consumes (Some xs) None c m h g = absurd h
keeps_consumes (Some xs) (Some ys) None m h g = absurd g
keeps_consumes (Some xs) (Some ys) (Some zs) m h g = sym h ∙ g

pub consumes_then : (a b c : Option (List ℕ)) (m n : List ℕ) → Consumes a b m → Consumes b c n → Consumes a c (m ++ n)
consumes_then None b c m n h g = tt
consumes_then (Some xs) None c m n h g = absurd h
consumes_then (Some xs) (Some ys) None m n h g = absurd g
consumes_then (Some xs) (Some ys) (Some zs) m n h g = h ∙ ap (λ (x : List ℕ). m ++ x) g ∙ sym (append_assoc m n zs)

-- held bytes are returned
pub gives_prefix : (held held' m : List ℕ) (rest : Option (List ℕ)) → held ≡ m ++ held' → Consumes (prepend_known held rest) (prepend_known held' rest) m
gives_prefix held held' m None e = tt
gives_prefix held held' m (Some r) e = ap (λ (x : List ℕ). x ++ r) e ∙ append_assoc m held' r

-- read bytes are held
pub holds_piece : (held piece : List ℕ) (rest rest' : Option (List ℕ)) → Consumes rest rest' piece
    → Keeps (prepend_known held rest) (prepend_known (held ++ piece) rest')
holds_piece held piece None rest' e = tt
holds_piece held piece (Some r) None e = absurd e
holds_piece held piece (Some r) (Some r') e = append_assoc held piece r' ∙ ap (λ (x : List ℕ). held ++ x) (sym e)

-- at the end of the input the held bytes are the rest
pub all_held : (a : Option (List ℕ)) (held : List ℕ) (rest : Option (List ℕ)) → Keeps a (prepend_known held rest) → IsAtEnd rest → IfSome a (λ xs. xs ≡ held)
all_held None held rest h e = tt
all_held (Some xs) held None h e = absurd h
all_held (Some xs) held (Some r) h e = sym (sym (ap (λ (x : List ℕ). held ++ x) e ∙ append-nil held) ∙ h)
