-- The texts of modes and lines, by their parts.
use Rattle.std.proofs.Common.{◌≡◌, ℕ, List, [], ◌∷◌, ◌++◌, Option, Some, codes, decimal, refl, sym, ap, ◌∙◌, append_assoc, append-nil}
use Rattle.fuse_init.specs.declared.settings.Settings.{Settings}
use Rattle.fuse_rows.specs.declared.rows.Room.{Room}
use Rattle.fuse_show.specs.Fields.{fields_text}
use Rattle.fuse_show.specs.Summary.{size_of_blocks, room_text, settings_text}
use Rattle.fuse_show.specs.inner.Writing.{class_text}

pub three : (a b c rest : List ℕ) → (a ++ (b ++ c)) ++ rest ≡ a ++ (b ++ (c ++ rest))
three a b c rest = append_assoc a (b ++ c) rest ∙ ap (λ (y : List ℕ). a ++ y) (append_assoc b c rest)

pub letters : (k o1 o2 o3 g1 g2 g3 x1 x2 x3 kind owner group others : List ℕ) → k ≡ kind → class_text o1 o2 o3 ≡ owner → class_text g1 g2 g3 ≡ group
    → class_text x1 x2 x3 ≡ others
    → kind ++ (owner ++ (group ++ others)) ≡ k ++ (o1 ++ (o2 ++ (o3 ++ (g1 ++ (g2 ++ (g3 ++ (x1 ++ (x2 ++ (x3 ++ [])))))))))
letters k o1 o2 o3 g1 g2 g3 x1 x2 x3 kind owner group others pk po pg px =
    let last : others ≡ x1 ++ (x2 ++ (x3 ++ [])) = sym px ∙ ap (λ (y : List ℕ). x1 ++ (x2 ++ y)) (sym (append-nil x3)) in
    let two : group ++ others ≡ g1 ++ (g2 ++ (g3 ++ (x1 ++ (x2 ++ (x3 ++ []))))) =
    ap (λ (y : List ℕ). y ++ others) (sym pg) ∙ three g1 g2 g3 others ∙ ap (λ (y : List ℕ). g1 ++ (g2 ++ (g3 ++ y))) last in
    let one : owner ++ (group ++ others) ≡ o1 ++ (o2 ++ (o3 ++ (g1 ++ (g2 ++ (g3 ++ (x1 ++ (x2 ++ (x3 ++ [])))))))) =
    ap (λ (y : List ℕ). y ++ (group ++ others)) (sym po) ∙ three o1 o2 o3 (group ++ others) ∙ ap (λ (y : List ℕ). o1 ++ (o2 ++ (o3 ++ y))) two in
    ap (λ (y : List ℕ). y ++ (owner ++ (group ++ others))) (sym pk) ∙ ap (λ (y : List ℕ). k ++ y) one

pub row_fields : (l u g s n l' u' g' : ℕ) → l' ≡ l → u' ≡ u → g' ≡ g
    → fields_text ((codes " ", l) ∷ (codes " ", u) ∷ (codes " ", g) ∷ (codes " ", s) ∷ (codes " ", n) ∷ [])
    ≡ fields_text ((codes " ", l') ∷ (codes " ", u') ∷ (codes " ", g') ∷ (codes " ", s) ∷ (codes " ", n) ∷ [])
row_fields l u g s n l' u' g' p q r = rw (p, q, r) refl

pub room_parts : (o : Option Room) (r : Room) (n m : ℕ) → o ≡ Some r → n ≡ size_of_blocks r.capacity → m ≡ size_of_blocks r.used
    → room_text o ≡ (codes "profile=everyday\ncapacity=" ++ decimal n) ++ ((codes "\nused=" ++ decimal m) ++ codes "\n")
room_parts o r n m is p q =
    let one : List ℕ = codes "profile=everyday\ncapacity=" ++ decimal (size_of_blocks r.capacity) in
    let two : List ℕ = codes "\nused=" ++ decimal (size_of_blocks r.used) in
    ap room_text is
    ∙ append_assoc one (two ++ []) (codes "\n")
    ∙ ap (λ (y : List ℕ). one ++ (y ++ codes "\n")) (append-nil two)
    ∙ ap (λ (k : ℕ). (codes "profile=everyday\ncapacity=" ++ decimal k) ++ (two ++ codes "\n")) (sym p)
    ∙ ap (λ (k : ℕ). (codes "profile=everyday\ncapacity=" ++ decimal n) ++ ((codes "\nused=" ++ decimal k) ++ codes "\n")) (sym q)

pub settings_parts : (o : Option Settings) (s : Settings) (m r : ℕ) → o ≡ Some s → m ≡ s.minor → r ≡ s.max_readahead
    → settings_text o
    ≡ fields_text ((codes "settings: minor=", m) ∷ (codes " max_readahead=", r) ∷ (codes " flags=", s.flags.0) ∷ []) ++ codes "\n"
settings_parts o s m r is p q = ap settings_text is ∙ rw (p, q) refl
