-- The records of a train that apply on a day, and how they are marked one by one. No public clause cites it.
use Rattle.std.specs.Prelude.{◌≡◌, ◌≢◌, ℕ, ◌+◌, ◌<◌, ◌≤◌, List, Option, Some, All, AllPairs, Contains, HoldsAt, map, slice_get}
use Rattle.std.specs.{List.flat_map, Ordering.nat_cmp, Ordering.ordering_then}
use Rattle.std.specs.declared.{cmp.Ordering.Ordering, cmp.Ordering.TheVariants.Less}
use Rattle.cif_calendar.specs.{Applies.Applies, Terms.Terms, Wins.precedence}
use Rattle.cif_columns.specs.declared.sink.Sink.{Sink}
use Rattle.cif_views.specs.{Explanation.Explained, declared.marks.Applying.Applying, declared.marks.Mark.Mark}
use Rattle.cif_canon.specs.Appended.{IsAppended}
use Rattle.cif_views.specs.declared.marks.Mark.TheVariants as mark

-- a record with its place among the entries
pub record Placed (K B : Type 0) : Type 0 where
  pub place : ℕ
  pub key : K
  pub terms : Terms B

abbrev pub placed_at : {K B : Type 0} → ℕ → K → Terms B → Placed K B
placed_at place key terms = record { place = place; key = key; terms = terms }

-- what the code has of a record; `key` and `terms` are those of an entry
abbrev pub placed_of : {E K B : Type 0} → (E → K) → (E → Terms B) → Applying E → Placed K B
placed_of key terms a = placed_at a.place (key a.entry.now) (terms a.entry.now)

-- a record without its mark
abbrev pub unmarked : {K B : Type 0} → Explained K B → Placed K B
unmarked e = placed_at e.place e.key e.terms

-- a record with this mark
abbrev pub marked_as : {K B : Type 0} → Placed K B → Mark → Explained K B
marked_as p mark = record { place = p.place; key = p.key; terms = p.terms; mark = mark }

-- the order of explained records, which doesn't look at marks
abbrev pub placed_cmp : {K B : Type 0} → (K → K → Ordering) → Placed K B → Placed K B → Ordering
placed_cmp cmp r s =
    ordering_then (cmp r.key s.key)
    (ordering_then (nat_cmp (precedence r.terms) (precedence s.terms)) (nat_cmp r.place s.place))

-- the records are in this order
abbrev pub IsRisingBy : {K B : Type 0} → (K → K → Ordering) → List (Placed K B) → Type 0
IsRisingBy cmp placed = AllPairs (λ p q. placed_cmp cmp p q ≡ Less) placed

-- it stands at its place, is of train u, and applies on day d
pub record IsPlaced {K B : Type 0} (IsOf : K → List ℕ → Type 0) (entries : List (K × Terms B)) (u : List ℕ) (d : ℕ) (p : Placed K B)
    : Type 0 where
  pub at : slice_get entries p.place ≡ Some (p.key, p.terms)
  pub train : IsOf p.key u
  pub applies : Applies p.terms d

-- these are the records of train u that apply on day d, of those at places below n, in the order of their places
pub record ArePlacedBelow {K B : Type 0} (IsOf : K → List ℕ → Type 0) (entries : List (K × Terms B)) (u : List ℕ) (d n : ℕ)
    (placed : List (Placed K B)) : Type 0 where
  pub found : All (IsPlaced IsOf entries u d) placed
  pub below : All (λ (p : Placed K B). p.place < n) placed
  pub all : (p : Placed K B) → IsPlaced IsOf entries u d p → p.place < n → Contains placed p
  pub rising : AllPairs (λ (p q : Placed K B). p.place < q.place) placed

-- these are all of them, by key, precedence and place
pub record ArePlacedInOrder {K B : Type 0} (cmp : K → K → Ordering) (IsOf : K → List ℕ → Type 0) (entries : List (K × Terms B))
    (u : List ℕ) (d : ℕ) (placed : List (Placed K B)) : Type 0 where
  pub found : All (IsPlaced IsOf entries u d) placed
  pub all : (p : Placed K B) → IsPlaced IsOf entries u d p → Contains placed p
  pub rising : IsRisingBy cmp placed

-- one of the records has this key and this precedence
pub record IsLevel {K B : Type 0} (placed : List (Placed K B)) (k : K) (l : ℕ) (p : Placed K B) : Type 0 where
  pub member : Contains placed p
  pub key : p.key ≡ k
  pub same_precedence : precedence p.terms ≡ l

-- a record of the key comes before this precedence
pub record IsBefore {K B : Type 0} (placed : List (Placed K B)) (k : K) (l : ℕ) : Type 0 where
  pub other : Placed K B
  pub member : Contains placed other
  pub key : other.key ≡ k
  pub earlier : precedence other.terms < l

-- no record of the key comes before it
abbrev pub IsLeast : {K B : Type 0} → List (Placed K B) → K → ℕ → Type 0
IsLeast {K} {B} placed k l = (p : Placed K B) → Contains placed p → p.key ≡ k → l ≤ precedence p.terms

-- all records of the key with this precedence have one body
abbrev pub AreAlike : {K B : Type 0} → List (Placed K B) → K → ℕ → Type 0
AreAlike {K} {B} placed k l = (p q : Placed K B) → IsLevel placed k l p → IsLevel placed k l q → p.terms.body ≡ q.terms.body

-- two of them have different bodies
pub record AreOpposed {K B : Type 0} (placed : List (Placed K B)) (k : K) (l : ℕ) : Type 0 where
  pub one : Placed K B
  pub other : Placed K B
  pub one_level : IsLevel placed k l one
  pub other_level : IsLevel placed k l other
  pub bodies_differ : one.terms.body ≢ other.terms.body

-- the record right before the one at position i has another key
abbrev pub IsFirstOfKey : {K B : Type 0} → List (Placed K B) → ℕ → Type 0
IsFirstOfKey {K} {B} placed i =
    (p q : Placed K B) (a : Contains placed p) (b : Contains placed q) → a.0 ≡ i → i ≡ b.0 + 1 → q.key ≢ p.key

-- q has p's key, and its body if it has its precedence
abbrev pub IsLike : {K B : Type 0} → Placed K B → Placed K B → Type 0
IsLike p q = (q.key ≡ p.key) × (precedence q.terms ≡ precedence p.terms → q.terms.body ≡ p.terms.body)

-- the mark of the records with this key and this precedence, among all
abbrev pub IsMarkAmong : {K B : Type 0} → List (Placed K B) → K → ℕ → Mark → Type 0
IsMarkAmong placed k l mark.Wins = IsLeast placed k l × AreAlike placed k l
IsMarkAmong placed k l mark.Clash = IsLeast placed k l × AreOpposed placed k l
IsMarkAmong placed k l mark.Hidden = IsBefore placed k l

-- the mark of this record among all, and of the record at a position
abbrev pub IsMarkOf : {K B : Type 0} → List (Placed K B) → Placed K B → Mark → Type 0
IsMarkOf placed p m = IsMarkAmong placed p.key (precedence p.terms) m

abbrev pub IsMarkAt : {K B : Type 0} → List (Placed K B) → ℕ → Mark → Type 0
IsMarkAt placed i m = HoldsAt (λ p. IsMarkOf placed p m) placed i

-- these are some of the records, each with its mark among all of them
abbrev pub AreMarked : {K B : Type 0} → List (Placed K B) → List (Placed K B) → List (Explained K B) → Type 0
AreMarked all some marked = (map unmarked marked ≡ some) × All (λ e. IsMarkOf all (unmarked e) e.mark) marked

-- and their lines have been appended
abbrev pub AreMarkedOn : {W K B : Type 0} → (W → Option (List ℕ)) → (W → Option ℕ) → (Explained K B → List ℕ)
    → List (Placed K B) → List (Placed K B) → Sink W → Sink W → Type 0
AreMarkedOn {K = K} {B = B} contents errors line all some old new =
    (marked : List (Explained K B)) × AreMarked all some marked × IsAppended contents errors (flat_map line marked) old new
