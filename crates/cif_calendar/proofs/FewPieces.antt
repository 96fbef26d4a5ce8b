-- How many pieces there can be: each begins at an end of a record that the ones before have not used.
use Rattle.cif_calendar.proofs.Names.{ChangesOn, Contains, IsChosen, List, None, Option, Some, Terms, [], ap, arith, cond, leb, length, ltb}
use Rattle.cif_calendar.proofs.Names.{nat_tests, slice_get, ℕ, ⊎_elim, ◌*◌, ◌+◌, ◌∙◌, ◌∷◌, ◌≡◌, ◌≤◌, ◌⊎◌}
use Rattle.cif_calendar.proofs.Elements.{Contains-cases}

-- how many of a record's two breaks come after a piece that begins on day d has begun
abbrev breaks_at : {B : Type 0} → Option (Terms B) → ℕ → ℕ
breaks_at None d = 0
breaks_at (Some r) d = cond (ltb d r.first) 1 0 + cond (leb d r.last) 1 0

breaks_at-falls : {B : Type 0} (o : Option (Terms B)) (d e : ℕ) → d ≤ e → breaks_at o e ≤ breaks_at o d
breaks_at-falls None d e h = omega arith
breaks_at-falls (Some r) d e h = grind (arith, nat_tests)

breaks_at-two : {B : Type 0} (o : Option (Terms B)) (d : ℕ) → breaks_at o d ≤ 2
breaks_at-two None d = omega arith
breaks_at-two (Some r) d = grind (arith, nat_tests)

breaks_at-used : {B : Type 0} (d e : ℕ) (r : Terms B) → d ≤ e → (e + 1 ≡ r.first) ⊎ (e + 1 ≡ r.last + 1) →
    breaks_at (Some r) (e + 1) + 1 ≤ breaks_at (Some r) d
breaks_at-used d e r h b = grind (arith, nat_tests)

-- how many breaks of the members are left
abbrev pub left : {B : Type 0} → List (Terms B) → List ℕ → ℕ → ℕ
left xs [] d = 0
left xs (i ∷ members) d = breaks_at (slice_get xs i) d + left xs members d

left-falls : {B : Type 0} (xs : List (Terms B)) (members : List ℕ) (d e : ℕ) → d ≤ e → left xs members e ≤ left xs members d
left-falls xs [] d e h = omega arith
left-falls xs (i ∷ members) d e h = omega (arith, breaks_at-falls (slice_get xs i) d e h, left-falls xs members d e h)

left-used : {B : Type 0} (xs : List (Terms B)) (members : List ℕ) (d e j : ℕ) (r : Terms B) → d ≤ e → Contains members j →
    slice_get xs j ≡ Some r → (e + 1 ≡ r.first) ⊎ (e + 1 ≡ r.last + 1) → left xs members (e + 1) + 1 ≤ left xs members d
left-used xs [] d e j r h (k, below, is) at b = absurd (omega arith)
left-used {B} xs (i ∷ members) d e j r h in' at b = ⊎_elim
    (λ same.
    let here : slice_get xs i ≡ Some r = ap (slice_get xs) same ∙ at in
    let used : breaks_at (slice_get xs i) (e + 1) + 1 ≤ breaks_at (slice_get xs i) d = rw here (breaks_at-used d e r h b) in
    omega (arith, used, left-falls xs members d (e + 1) (omega arith)))
    (λ rest. omega (arith, breaks_at-falls (slice_get xs i) d (e + 1) (omega arith), left-used xs members d e j r h rest at b))
    (Contains-cases i members j in')

-- the next piece begins at a break that was left
pub left-next : {B : Type 0} (xs : List (Terms B)) (members : List ℕ) (d e : ℕ) → d ≤ e → ChangesOn (IsChosen xs members) (e + 1) →
    left xs members (e + 1) + 1 ≤ left xs members d
left-next xs members d e h b = left-used xs members d e b.1.position b.0 h b.1.member b.1.at b.2

-- each member has two breaks
pub left-le : {B : Type 0} (xs : List (Terms B)) (members : List ℕ) (d : ℕ) → left xs members d ≤ 2 * length members
left-le xs [] d = omega arith
left-le xs (i ∷ members) d = omega (arith, breaks_at-two (slice_get xs i) d, left-le xs members d)
