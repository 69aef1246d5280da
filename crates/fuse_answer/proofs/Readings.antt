-- What is read from a body by its places.
use Rattle.std.proofs.Common.{◌≡◌, ℕ, List, ◌++◌, take, drop, sym, subst}
use Rattle.std.proofs.lemmas.List.{take-append-drop}
use Rattle.fuse_wire.specs.Bytes.{IsBytes}
use Rattle.fuse_wire.specs.Layout.{Part, Lays, Placed}
use Rattle.fuse_wire.specs.Laws.{NumbersRead, LayoutsStand}

-- the first n parts by their places in the first k bytes, and the others
pub laid_halves : (NumbersRead × LayoutsStand) → (k n : ℕ) (ps : List Part) (b prefix back : List ℕ) → IsBytes b → prefix ≡ take k b → back ≡ drop k b
    → Placed 0 (take n ps) prefix → Lays (drop n ps) back → Lays ps b
laid_halves laws k n ps b prefix back fits e f first second =
    let small : IsBytes prefix = subst IsBytes (sym e) (laws.0.prefix_bytes k b fits) in
    let both : Lays (take n ps ++ drop n ps) (prefix ++ back) = laws.1.joined (take n ps) (drop n ps) prefix back (laws.1.placed (take n ps) prefix small first)
    second in
    let parts : Lays ps (prefix ++ back) = subst (λ (qs : List Part). Lays qs (prefix ++ back)) (take-append-drop n ps) both in
    subst (Lays ps) (rw (e, f) (take-append-drop k b)) parts
