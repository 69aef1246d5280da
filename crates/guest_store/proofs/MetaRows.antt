-- The rows of `meta`, by their values.
use Rattle.std.proofs.Common.{◌≡◌, ◌≤◌, ℕ, List, [], ◌∷◌, refl, ap, ◌∙◌}
use Rattle.fuse_store_tables.specs.Content.{Counter}
use Rattle.guest_tables.specs.Content.{agreed_key, minor_key, readahead_key, flags_key, next_lot_key, number_key, version_key, pledged_key}
use Rattle.guest_tables.specs.Opening.{IsMetaOf, meta_keys, greatest_value}

-- the settings' values, and those of the store
pub record MetaValues : Type 0 where
  pub agreed : ℕ
  pub minor : ℕ
  pub readahead : ℕ
  pub flags : ℕ
  pub next_lot : ℕ
  pub number : ℕ
  pub version : ℕ
  pub pledged : ℕ

abbrev row : ℕ → ℕ → Counter
row key value = record { key = key; value = value }

abbrev pub rows_of : MetaValues → List Counter
rows_of v =
    row agreed_key v.agreed ∷ row minor_key v.minor ∷ row readahead_key v.readahead ∷ row flags_key v.flags ∷ row next_lot_key v.next_lot
    ∷ row number_key v.number ∷ row version_key v.version ∷ row pledged_key v.pledged
    ∷ []

named : (c : Counter) (key : ℕ) → c.key ≡ key → c ≡ row key c.value
named c key is = ap (λ k. row k c.value) is

-- one row more of those with these keys
record First (key : ℕ) (keys : List ℕ) (cs : List Counter) : Type 0 where
  pub value : ℕ
  pub later : List Counter
  pub is : cs ≡ row key value ∷ later
  pub low : value ≤ greatest_value key
  pub more : IsMetaOf keys later

first : (key : ℕ) (keys : List ℕ) (cs : List Counter) → IsMetaOf (key ∷ keys) cs → First key keys cs
first key keys [] is = absurd is
first key keys (c ∷ cs) is =
    record { value = c.value; later = cs; is = ap (λ x. x ∷ cs) (named c key is.0); low = is.1; more = is.2 }

none : (cs : List Counter) → IsMetaOf [] cs → cs ≡ []
none [] is = refl
none (c ∷ cs) is = absurd is

-- they are these
pub meta_is : (cs : List Counter) → IsMetaOf meta_keys cs → (v : MetaValues) × (cs ≡ rows_of v)
meta_is cs is =
    let a = first agreed_key (minor_key ∷ readahead_key ∷ flags_key ∷ next_lot_key ∷ number_key ∷ version_key ∷ pledged_key ∷ []) cs is in
    let b = first minor_key (readahead_key ∷ flags_key ∷ next_lot_key ∷ number_key ∷ version_key ∷ pledged_key ∷ []) a.later a.more in
    let d = first readahead_key (flags_key ∷ next_lot_key ∷ number_key ∷ version_key ∷ pledged_key ∷ []) b.later b.more in
    let e = first flags_key (next_lot_key ∷ number_key ∷ version_key ∷ pledged_key ∷ []) d.later d.more in
    let f = first next_lot_key (number_key ∷ version_key ∷ pledged_key ∷ []) e.later e.more in
    let g = first number_key (version_key ∷ pledged_key ∷ []) f.later f.more in
    let h = first version_key (pledged_key ∷ []) g.later g.more in
    let i = first pledged_key [] h.later h.more in (
      record {
        agreed = a.value;
        minor = b.value;
        readahead = d.value;
        flags = e.value;
        next_lot = f.value;
        number = g.value;
        version = h.value;
        pledged = i.value;
      },
      a.is ∙ ap (λ l. row agreed_key a.value ∷ l) (
          b.is ∙ ap (λ l. row minor_key b.value ∷ l) (
          d.is ∙ ap (λ l. row readahead_key d.value ∷ l) (
          e.is ∙ ap (λ l. row flags_key e.value ∷ l) (
          f.is ∙ ap (λ l. row next_lot_key f.value ∷ l) (
          g.is ∙ ap (λ l. row number_key g.value ∷ l) (
          h.is ∙ ap (λ l. row version_key h.value ∷ l) (i.is ∙ ap (λ l. row pledged_key i.value ∷ l) (none i.later i.more)))))))),
    )

-- with a greater next lot number
pub meta_next : (v : MetaValues) (n : ℕ) → n ≤ greatest_value next_lot_key → IsMetaOf meta_keys (rows_of v)
    → IsMetaOf meta_keys (rows_of (record v { next_lot = n }))
meta_next v n low is =
    (refl, is.1, (refl, is.2.1, (refl, is.2.2.1, (refl, is.2.2.2.1, (refl, low, (refl, is.2.2.2.2.2.1, (refl, is.2.2.2.2.2.2.1, (refl, is.2.2.2.2.2.2.2.1, tt))))))))
