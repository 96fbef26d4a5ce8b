-- The positions of entries in the order of their keys, one key after another.
use Rattle.std.specs.Prelude.{All, AllPairs, Contains, List, None, Option, Some, drop, false, length, slice_get, take, ℕ, ◌<◌, ◌≡◌, ◌≤◌}
use Rattle.std.specs.{Ordering.is_gt, Prelude.◌⊎◌, declared.cmp.Ordering.Ordering, declared.cmp.Ordering.TheVariants.Less}
use Rattle.cif_calendar.specs.Terms.{Terms}

-- at this position stands an entry of key k
pub record HasKey {K B : Type 0} (entries : List (K × Terms B)) (position : ℕ) (k : K) : Type 0 where
  pub terms : Terms B
  pub at : slice_get entries position ≡ Some (k, terms)

-- at one of the positions stands an entry of key k
pub record AnyHasKey {K B : Type 0} (entries : List (K × Terms B)) (positions : List ℕ) (k : K) : Type 0 where
  pub position : ℕ
  pub member : Contains positions position
  pub has : HasKey entries position k

-- the entry at i has no key after that of the entry at j
abbrev pub IsNotAfter : {K B : Type 0} → (K → K → Ordering) → List (K × Terms B) → ℕ → ℕ → Type 0
IsNotAfter {K} cmp entries i j = (a b : K) → HasKey entries i a → HasKey entries j b → is_gt (cmp a b) ≡ false

-- the positions are in the order of their entries' keys
pub record IsRising {K B : Type 0} (cmp : K → K → Ordering) (entries : List (K × Terms B)) (positions : List ℕ) : Type 0 where
  pub pairs : AllPairs (IsNotAfter cmp entries) positions

-- no key at the positions is before this one
abbrev pub AreFrom : {K B : Type 0} → (K → K → Ordering) → List (K × Terms B) → List ℕ → K → Type 0
AreFrom {K} cmp entries positions key = All (λ i. (k : K) → HasKey entries i k → is_gt (cmp key k) ≡ false) positions

-- the first n positions are those of the key, and the keys at the rest are after it
pub record IsCountOfKey {K B : Type 0} (cmp : K → K → Ordering) (entries : List (K × Terms B)) (positions : List ℕ) (key : K) (n : ℕ)
    : Type 0 where
  pub upto : n ≤ length positions
  pub same : All (λ i. HasKey entries i key) (take n positions)
  pub later : All (λ i. (k : K) → HasKey entries i k → cmp key k ≡ Less) (drop n positions)

-- the first n positions, of which there is one, are those of one key, and the keys at the rest are after it
pub record AreOfFirstKey {K B : Type 0} (cmp : K → K → Ordering) (entries : List (K × Terms B)) (positions : List ℕ) (n : ℕ) : Type 0 where
  pub key : K
  pub some : 0 < n
  pub count : IsCountOfKey cmp entries positions key n

-- the key is that of an entry at one of two lists of positions, and none there is before it
pub record IsFirstOfBoth {K B : Type 0} (cmp : K → K → Ordering) (xs : List (K × Terms B)) (left : List ℕ) (ys : List (K × Terms B))
    (right : List ℕ) (key : K) : Type 0 where
  pub has : AnyHasKey xs left key ⊎ AnyHasKey ys right key
  pub left_from : AreFrom cmp xs left key
  pub right_from : AreFrom cmp ys right key

-- these positions have the key, and those are later
pub record AreSplit {K B : Type 0} (cmp : K → K → Ordering) (entries : List (K × Terms B)) (positions : List ℕ) (key : K)
    (prefix later : List ℕ) : Type 0 where
  pub count : ℕ
  pub is_count : IsCountOfKey cmp entries positions key count
  pub prefix_is : prefix ≡ take count positions
  pub later_is : later ≡ drop count positions

-- it is the first, or there is none
abbrev pub IsFirstOrNone : {A : Type 0} → Type 0 → (A → Type 0) → Option A → Type 0
IsFirstOrNone none is_first None = none
IsFirstOrNone none is_first (Some first) = is_first first

-- the key is the first of two lists of positions, and these have it and those are later
pub record IsFirstKey {K B : Type 0} (cmp : K → K → Ordering) (xs : List (K × Terms B)) (left : List ℕ) (ys : List (K × Terms B))
    (right : List ℕ) (key : K) (left_prefix left_later right_prefix right_later : List ℕ) : Type 0 where
  pub first : IsFirstOfBoth cmp xs left ys right key
  pub left_split : AreSplit cmp xs left key left_prefix left_later
  pub right_split : AreSplit cmp ys right key right_prefix right_later

-- the positions of all entries, in the order of their keys
pub record AreAllByKey {K B : Type 0} (cmp : K → K → Ordering) (entries : List (K × Terms B)) (positions : List ℕ) : Type 0 where
  pub within : All (λ i. i < length entries) positions
  pub whole : (i : ℕ) → i < length entries → Contains positions i
  pub rising : IsRising cmp entries positions
