-- Entries one after the other, by relation and by places.
use Rattle.std.proofs.Common.{◌≡◌, ◌≢◌, ℕ, zero, suc, ◌+◌, ◌<◌, ◌≤◌, ◌⊎◌, inl, inr, Bool, true, false, if◌then◌else◌, nat_lt, List, [], ◌∷◌, ◌++◌, length}
use Rattle.std.proofs.Common.{take, drop, Option, Some, None, refl, sym, ap, subst, ◌∙◌, arith}
use Rattle.std.specs.Prelude.{◌==◌}
use Rattle.std.proofs.lemmas.Bool.{lt-ltb, le-ltb, ltb-false, ne_eqb}
use Rattle.std.proofs.lemmas.List.{append-nil, take_at, drop_at, drop-drop, length-append, length-drop, length-take, take-append-drop}
use Rattle.std.specs.Option.{option_map_or}
use Rattle.fuse_wire.specs.Bytes.{number_of, IsBytes}
use Rattle.fuse_wire.specs.Layout.{Part, number, unused, bytes, Lays, Placed, widths}
use Rattle.fuse_wire.specs.Laws.{LayoutsStand}
use Rattle.fuse_answer.specs.Entries.{DirectoryEntry, padding, dirent_parts, StandsBefore, Lists, IsListing, entry_len}
use Rattle.fuse_answer.specs.PlusEntries.{PlusLists, IsPlusListing}
use Rattle.fuse_answer.specs.FirstEntry.{name_len, directory_entry_at, leading_entry, entries_by}

-- a payload that ends what is laid out
all_bytes : (xs b : List ℕ) → Lays (bytes xs ∷ []) b → b ≡ xs
all_bytes xs b h = h.1 ∙ ap (λ (x : List ℕ). xs ++ x) h.2 ∙ append-nil xs

bytes_laid : (xs : List ℕ) → Lays (bytes xs ∷ []) xs
bytes_laid xs = ([], sym (append-nil xs), refl)

-- an entry that stands first is read there
pub leading_back : LayoutsStand → (e : DirectoryEntry) (rest b : List ℕ) → StandsBefore e rest b → leading_entry b ≡ Some (e, rest)
leading_back laws e rest b s =
    let n : ℕ = length e.name in
    let ps : List Part = dirent_parts e ++ bytes rest ∷ [] in
    let laid : Lays ps (s.prefix ++ rest) = laws.joined (dirent_parts e) (bytes rest ∷ []) s.prefix rest s.laid (bytes_laid rest) in
    let p : Placed 0 ps b = laws.stands ps b (subst (Lays ps) (sym s.whole) laid) in
    let named = p.1.1.1.1.1 in
    let padded = named.2 in
    let follows_it : padded.1 ≡ rest = all_bytes rest padded.1 padded.4 in
    let after : named.0 ≡ padded.0 ++ rest = padded.3 ∙ ap (λ (x : List ℕ). padded.0 ++ x) follows_it in
    let name : take n (drop 24 b) ≡ e.name = ap (take n) named.1 ∙ take_at e.name named.0 n refl in
    let past : drop n (drop 24 b) ≡ named.0 = ap (drop n) named.1 ∙ drop_at e.name named.0 n refl in
    let follows : drop (24 + (n + padding n)) b ≡ rest =
    sym (drop-drop (n + padding n) 24 b) ∙ sym (drop-drop (padding n) n (drop 24 b)) ∙ ap (drop (padding n)) (past ∙ after)
    ∙ drop_at padded.0 rest (padding n) padded.2 in
    let leading_len : length s.prefix ≡ 24 + (n + padding n) = omega (arith, laws.len (dirent_parts e) s.prefix s.laid) in
    let len : length b ≡ length s.prefix + length rest = ap length s.whole ∙ length-append s.prefix rest in
    let long : 24 ≤ length b = omega (arith, len, leading_len) in
    let fits : 24 + (n + padding n) ≤ length b = omega (arith, len, leading_len) in
    let some : n ≢ 0 = omega (arith, s.named.0) in
    rw (
      ← p.1.1.0,
      ← p.0,
      ← p.1.0,
      ← p.1.1.1.0,
      name,
      follows,
      le-ltb (length b) 24 long,
      ne_eqb n 0 some,
      le-ltb 255 n s.named.1,
      le-ltb (length b) (24 + (n + padding n)) fits,
    ) refl

-- an entry that is read by its places stands there
pub leading_laid : LayoutsStand → (b : List ℕ) (ino off n kind : ℕ) (name rest : List ℕ) → IsBytes b → 24 ≤ length b
    → ino ≡ number_of 8 (drop 0 b) → off ≡ number_of 8 (drop 8 b) → n ≡ number_of 4 (drop 16 b) → kind ≡ number_of 4 (drop 20 b)
    → 1 ≤ n → n ≤ 255 → entry_len n ≤ length b → name ≡ take n (drop 24 b) → rest ≡ drop (entry_len n) b
    → StandsBefore (record { ino = ino; off = off; kind = kind; name = name }) rest b
leading_laid laws b ino off n kind name rest fits long ino_is off_is n_is kind_is some few room name_is rest_is =
    let len : length name ≡ n = ap length name_is ∙ omega (arith, room, length-take n (drop 24 b), length-drop 24 b) in
    let pad : ℕ = padding n in
    let gap : List ℕ = take pad (drop n (drop 24 b)) in
    let gap_len : length gap ≡ pad = omega (arith, room, length-take pad (drop n (drop 24 b)), length-drop n (drop 24 b), length-drop 24 b) in
    let rest_at : drop pad (drop n (drop 24 b)) ≡ rest = drop-drop pad n (drop 24 b) ∙ drop-drop (n + pad) 24 b ∙ sym rest_is in
    let past : drop n (drop 24 b) ≡ gap ++ rest = sym (take-append-drop pad (drop n (drop 24 b))) ∙ ap (λ (x : List ℕ). gap ++ x) rest_at in
    let follows : drop 24 b ≡ name ++ (gap ++ rest) = sym (take-append-drop n (drop 24 b)) ∙ rw (← name_is) (ap (λ (x : List ℕ). name ++ x) past) in
    let ps : List Part = number 8 ino ∷ number 8 off ∷ number 4 n ∷ number 4 kind ∷ bytes name ∷ unused pad ∷ [] in
    let placed : Placed 0 (ps ++ bytes rest ∷ []) b = (
      ino_is,
      (off_is, (n_is, (kind_is, (long, (gap ++ rest, follows, (gap, rest, gap_len, refl, bytes_laid rest)))))),
    ) in
    let total : widths ps ≡ entry_len n = omega (arith, len) in
    let laid : Lays ps (take (widths ps) b) = (laws.parted ps (bytes rest ∷ []) b (laws.placed (ps ++ bytes rest ∷ []) b fits placed)).0 in
    record {
      prefix = take (entry_len n) b;
      whole = rw rest_is (sym (take-append-drop (entry_len n) b));
      named = rw len (some, few);
      laid = rw len (subst (λ (k : ℕ). Lays ps (take k b)) total laid);
    }

-- the tests of leading_entry, and what follows from them
by_tests : (a c d f : Bool) (x : DirectoryEntry × List ℕ)
    → ((if a then None else if c then None else if d then None else if f then None else Some x) ≡ None)
    ⊎ ((a ≡ false) × ((if a then None else if c then None else if d then None else if f then None else Some x) ≡ Some x))
by_tests true c d f x = inl refl
by_tests false true d f x = inl refl
by_tests false false true f x = inl refl
by_tests false false false true x = inl refl
by_tests false false false false x = inr (refl, refl)

-- no entry is read, or one that is not empty
pub leading_cases : (b : List ℕ) → (leading_entry b ≡ None) ⊎ ((p : DirectoryEntry × List ℕ) × (leading_entry b ≡ Some p) × (length p.1 < length b))
leading_cases b =
    elim (by_tests (nat_lt (length b) 24) (name_len b == 0) (nat_lt 255 (name_len b)) (nat_lt (length b) (entry_len (name_len b)))
    (directory_entry_at b, drop (entry_len (name_len b)) b)) [
      | inl none ↦ inl none
      | inr some ↦ (let long : 24 ≤ length b = ltb-false (length b) 24 some.0 in inr (_, some.1, omega (arith, long, length-drop (entry_len (name_len b)) b)))
    ]

-- no bytes have no first entry
pub leading_empty : (b : List ℕ) → length b ≤ 0 → leading_entry b ≡ None
leading_empty b few = rw (lt-ltb (length b) 24 (omega (arith, few))) refl

-- the entries that are read, by the first one
pub entries_none : (n : ℕ) (b : List ℕ) → leading_entry b ≡ None → entries_by n b ≡ []
entries_none zero b e = refl
entries_none (suc n) b e = rw e refl

-- more turns than bytes give no more entries
pub entries_more : (n m : ℕ) (b : List ℕ) → length b ≤ n → length b ≤ m → entries_by n b ≡ entries_by m b
entries_more zero m b few many = sym (entries_none m b (leading_empty b few))
entries_more (suc n) zero b few many = entries_none (suc n) b (leading_empty b many)
entries_more (suc n) (suc m) b few many =
    elim (leading_cases b) [
      | inl none ↦ rw none refl
      | inr some ↦ rw some.1 (ap (λ (es : List DirectoryEntry). some.0.0 ∷ es) (entries_more n m some.0.1 (omega (arith, some.2, few)) (omega (arith, some.2, many))))
    ]

leading_shorter : (e : DirectoryEntry) (rest b : List ℕ) → leading_entry b ≡ Some (e, rest) → length rest < length b
leading_shorter e rest b is =
    elim (leading_cases b) [
      | inl none ↦ (let no : ◌≡◌ {A = Option (DirectoryEntry × List ℕ)} None (Some (e, rest)) = sym none ∙ is in absurd cc)
      | inr some ↦ (let same : ◌≡◌ {A = Option (DirectoryEntry × List ℕ)} (Some some.0) (Some (e, rest)) = sym some.1 ∙ is in
          let follows : some.0.1 ≡ rest = ap (λ (o : Option (DirectoryEntry × List ℕ)). option_map_or (λ p. p.1) o []) same in
          omega (arith, some.2, ap length follows))
    ]

pub entries_some : (n : ℕ) (e : DirectoryEntry) (rest b : List ℕ) → length b ≤ n → leading_entry b ≡ Some (e, rest) → entries_by n b ≡ e ∷ entries_by (length rest) rest
entries_some zero e rest b few is = absurd (omega (arith, leading_shorter e rest b is, few))
entries_some (suc n) e rest b few is =
    rw is (ap (λ (es : List DirectoryEntry). e ∷ es) (entries_more n (length rest) rest (omega (arith, leading_shorter e rest b is, few)) (omega arith)))

-- the entries that bytes list are read
pub entries_are : LayoutsStand → (es : List DirectoryEntry) (n : ℕ) (b : List ℕ) → length b ≤ n → Lists es b → entries_by n b ≡ es
entries_are laws [] n b few h = entries_none n b (leading_empty b (omega (arith, ap length h)))
entries_are laws (e ∷ es) n b few h =
    let is = leading_back laws e h.0 b h.1 in
    entries_some n e h.0 b few is ∙ ap (λ (xs : List DirectoryEntry). e ∷ xs) (entries_are laws es (length h.0) h.0 (omega arith) h.2)

-- the bytes after the first entry of a listing
pub listing_rest : LayoutsStand → (e : DirectoryEntry) (rest b : List ℕ) → StandsBefore e rest b → IsListing b → IsListing rest
listing_rest laws e rest b s ([], h) = absurd (omega (arith, leading_shorter e rest b (leading_back laws e rest b s), ap length h))
listing_rest laws e rest b s (e' ∷ es, h) =
    let same : ◌≡◌ {A = Option (DirectoryEntry × List ℕ)} (Some (e', h.0)) (Some (e, rest)) = sym (leading_back laws e' h.0 b h.1) ∙ leading_back laws e rest b s in
    let follows : h.0 ≡ rest = ap (λ (o : Option (DirectoryEntry × List ℕ)). option_map_or (λ p. p.1) o []) same in
    (es, subst (Lists es) follows h.2)

pub listing_more : (e : DirectoryEntry) (rest b : List ℕ) → StandsBefore e rest b → IsListing rest → IsListing b
listing_more e rest b s h = (e ∷ h.0, (rest, s, h.1))

-- bytes without a first entry
pub not_listing : LayoutsStand → (b : List ℕ) → leading_entry b ≡ None → 0 < length b → IsListing b → ⊥
not_listing laws b none some ([], h) = absurd (omega (arith, ap length h, some))
not_listing laws b none some (e ∷ es, h) =
    let no : ◌≡◌ {A = Option (DirectoryEntry × List ℕ)} None (Some (e, h.0)) = sym none ∙ leading_back laws e h.0 b h.1 in
    absurd cc

-- ---- entries of READDIRPLUS

-- the bytes after the first entry of a listing
pub plus_rest : LayoutsStand → (e : DirectoryEntry) (rest b : List ℕ) → StandsBefore e rest (drop 128 b) → IsPlusListing b → IsPlusListing rest
plus_rest laws e rest b s ([], h) =
    absurd (omega (arith, leading_shorter e rest (drop 128 b) (leading_back laws e rest (drop 128 b) s), length-drop 128 b, ap length h))
plus_rest laws e rest b s (e' ∷ es, h) =
    let same : ◌≡◌ {A = Option (DirectoryEntry × List ℕ)} (Some (e', h.0)) (Some (e, rest)) =
    sym (leading_back laws e' h.0 (drop 128 b) h.1) ∙ leading_back laws e rest (drop 128 b) s in
    let follows : h.0 ≡ rest = ap (λ (o : Option (DirectoryEntry × List ℕ)). option_map_or (λ p. p.1) o []) same in
    (es, subst (PlusLists es) follows h.2)

pub plus_shorter : LayoutsStand → (e : DirectoryEntry) (rest b : List ℕ) → StandsBefore e rest (drop 128 b) → length rest < length b
plus_shorter laws e rest b s = omega (arith, leading_shorter e rest (drop 128 b) (leading_back laws e rest (drop 128 b) s), length-drop 128 b)

pub plus_more : (e : DirectoryEntry) (rest b : List ℕ) → StandsBefore e rest (drop 128 b) → IsPlusListing rest → IsPlusListing b
plus_more e rest b s h = (e ∷ h.0, (rest, s, h.1))

-- bytes without a first entry
pub not_plus : LayoutsStand → (b : List ℕ) → leading_entry (drop 128 b) ≡ None → 0 < length b → IsPlusListing b → ⊥
not_plus laws b none some ([], h) = absurd (omega (arith, ap length h, some))
not_plus laws b none some (e ∷ es, h) =
    let no : ◌≡◌ {A = Option (DirectoryEntry × List ℕ)} None (Some (e, h.0)) = sym none ∙ leading_back laws e h.0 (drop 128 b) h.1 in
    absurd cc
