-- What TLVs show: one name at most.
use Rattle.std.proofs.Common.{◌≡◌, ℕ, ◌-◌, ◌≤◌, List, [], ◌∷◌, ◌++◌, length, get_or, take, drop, take_all}
use Rattle.std.proofs.Common.{refl, sym, ap, subst, ◌∙◌, arith, inl, inr, Option, Some, None, Bor}
use Rattle.std.specs.Prelude.{option_copied, option_to_list}
use Rattle.proxy_header.specs.Tlvs.{TypeLengthValue, IsRow, values_of}
use Rattle.proxy_header.specs.Names.{IsVerified, ShowsOne, IsSsl, ShowsSsl, Shows}
use Rattle.proxy_header.proofs.ListLemmas.{same_parts}
use Rattle.proxy_header.proofs.TlvLemmas.{one_row}

-- ---- the value of an SSL TLV

-- the four bytes of verification, and what follows them, as they are read
abbrev pub verify_of : List ℕ → List ℕ
verify_of value = get_or value 1 0 ∷ get_or value 2 0 ∷ get_or value 3 0 ∷ get_or value 4 0 ∷ []

abbrev pub tlvs_of : List ℕ → List ℕ
tlvs_of value = take (length value - 5) (drop 5 value)

-- a value of five bytes or more has these parts
pub value_parts : (value : List ℕ) → 5 ≤ length value
    → value ≡ get_or value 0 0 ∷ (verify_of value ++ tlvs_of value)
value_parts [] le = absurd (omega (arith, le))
value_parts (a ∷ []) le = absurd (omega (arith, le))
value_parts (a ∷ b ∷ []) le = absurd (omega (arith, le))
value_parts (a ∷ b ∷ c ∷ []) le = absurd (omega (arith, le))
value_parts (a ∷ b ∷ c ∷ d ∷ []) le = absurd (omega (arith, le))
value_parts (a ∷ b ∷ c ∷ d ∷ e ∷ rest) le =
    let all : length rest ≤ length (a ∷ b ∷ c ∷ d ∷ e ∷ rest) - 5 = omega arith in
    ap (λ (l : List ℕ). a ∷ b ∷ c ∷ d ∷ e ∷ l) (sym (take_all (length (a ∷ b ∷ c ∷ d ∷ e ∷ rest) - 5) rest all))

-- and no other parts
pub one_value : (value : List ℕ) (shown : Option (List ℕ)) → 5 ≤ length value → (ssl : IsSsl value shown)
    → (ssl.client ≡ get_or value 0 0) × (ssl.verify ≡ verify_of value) × (ssl.rest ≡ tlvs_of value)
one_value value shown le ssl =
    let whole = sym ssl.parts ∙ value_parts value le in
    let client : ssl.client ≡ get_or value 0 0 = ap (λ (l : List ℕ). get_or l 0 0) whole in
    let tails : ssl.verify ++ ssl.rest ≡ verify_of value ++ tlvs_of value = ap (drop 1) whole in
    let parts = same_parts ssl.verify (verify_of value) ssl.rest (tlvs_of value) ssl.four tails in
    (client, parts.0, parts.1)

-- a name is shown of one value at most
pub one_at_most : (client : ℕ) (verify : List ℕ) (values : List (List ℕ)) (shown : Option (List ℕ))
    → ShowsOne client verify values shown → length values ≤ 1
one_at_most client verify [] shown shows = omega arith
one_at_most client verify (name ∷ []) shown shows = omega arith
one_at_most client verify (name ∷ other ∷ names) shown shows = absurd shows

-- what is found is shown where the certificate is verified, and nothing where it isn't
pub shows_verified : (client : ℕ) (verify : List ℕ) (values : List (List ℕ)) (found : Option (Bor (List ℕ)))
    → values ≡ option_to_list (option_copied found) → IsVerified client verify
    → ShowsOne client verify values (option_copied found)
shows_verified client verify values None e is =
    subst (λ (l : List (List ℕ)). ShowsOne client verify l None) (sym e) refl
shows_verified client verify values (Some name) e is =
    subst (λ (l : List (List ℕ)). ShowsOne client verify l (Some name.now)) (sym e) (inl (is, refl))

pub shows_unverified : (client : ℕ) (verify : List ℕ) (values : List (List ℕ)) (found : Option (Bor (List ℕ)))
    → values ≡ option_to_list (option_copied found) → (IsVerified client verify → ⊥)
    → ShowsOne client verify values None
shows_unverified client verify values None e not =
    subst (λ (l : List (List ℕ)). ShowsOne client verify l None) (sym e) refl
shows_unverified client verify values (Some name) e not =
    subst (λ (l : List (List ℕ)). ShowsOne client verify l None) (sym e) (inr (not, refl))

-- ---- one name

one_of_values : (client : ℕ) (verify : List ℕ) (values : List (List ℕ)) (a b : Option (List ℕ))
    → ShowsOne client verify values a → ShowsOne client verify values b → a ≡ b
one_of_values client verify [] a b p q = p ∙ sym q
one_of_values client verify (name ∷ []) a b p q = elim p [
  | inl is ↦ elim q [ inl too ↦ is.1 ∙ sym too.1 | inr not ↦ absurd (not.0 is.0) ]
  | inr not ↦ elim q [ inl is ↦ absurd (not.0 is.0) | inr too ↦ not.1 ∙ sym too.1 ]
]
one_of_values client verify (name ∷ other ∷ names) a b p q = absurd p

one_ssl : (value : List ℕ) (a b : Option (List ℕ)) → IsSsl value a → IsSsl value b → a ≡ b
one_ssl value a b p q =
    let whole = sym p.parts ∙ q.parts in
    let clients : p.client ≡ q.client = ap (λ (l : List ℕ). get_or l 0 0) whole in
    let tails : p.verify ++ p.rest ≡ q.verify ++ q.rest = ap (drop 1) whole in
    let parts = same_parts p.verify q.verify p.rest q.rest (p.four ∙ sym q.four) tails in
    let rows : p.tlvs ≡ q.tlvs = one_row q.rest p.tlvs q.tlvs
    (subst (λ (l : List ℕ). IsRow l p.tlvs []) parts.1 p.row) q.row in
    one_of_values q.client q.verify (values_of 0x22 q.tlvs) a b
    (subst (λ (n : ℕ). ShowsOne n q.verify (values_of 0x22 q.tlvs) a) clients
    (subst (λ (l : List ℕ). ShowsOne p.client l (values_of 0x22 q.tlvs) a) parts.0
    (subst (λ (l : List TypeLengthValue). ShowsOne p.client p.verify (values_of 0x22 l) a) rows p.shows))) q.shows

one_of_ssl : (values : List (List ℕ)) (a b : Option (List ℕ)) → ShowsSsl values a → ShowsSsl values b → a ≡ b
one_of_ssl [] a b p q = p ∙ sym q
one_of_ssl (value ∷ []) a b p q = one_ssl value a b p q
one_of_ssl (value ∷ other ∷ values) a b p q = absurd p

pub one_shown : (bytes : List ℕ) (a b : Option (List ℕ)) → Shows bytes a → Shows bytes b → a ≡ b
one_shown bytes a b p q = one_of_ssl (values_of 0x20 q.tlvs) a b
    (subst (λ (l : List TypeLengthValue). ShowsSsl (values_of 0x20 l) a) (one_row bytes p.tlvs q.tlvs p.row q.row)
    p.shows) q.shows

-- what the one SSL TLV of a row shows
pub shows_of_value : (bytes value : List ℕ) (tlvs : List TypeLengthValue) (shown : Option (List ℕ))
    → IsRow bytes tlvs []
    → values_of 0x20 tlvs ≡ value ∷ [] → Shows bytes shown → IsSsl value shown
shows_of_value bytes value tlvs shown row e shows =
    subst (λ (l : List (List ℕ)). ShowsSsl l shown) (ap (values_of 0x20)
    (one_row bytes shows.tlvs tlvs shows.row row) ∙ e) shows.shows
