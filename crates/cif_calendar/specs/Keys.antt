-- Records with keys: a list of pairs of a key and the terms of one of its records.
use Rattle.std.specs.Prelude.{◌≡◌, ℕ, List, map, Some, Contains, slice_get}
use Rattle.std.specs.declared.{cmp.Ordering.Ordering, cmp.Ordering.TheVariants.Less}
use Rattle.cif_calendar.specs.{Clash.IsClearFrom, Clash.IsFirstClash, Terms.Terms}

-- each of the entries as its key and its terms
abbrev pub keyed : {E K B : Type 0} → (E → K) → (E → Terms B) → List E → List (K × Terms B)
keyed key terms entries = map (λ e. (key e, terms e)) entries

-- the records of key k
abbrev pub of_key : {K R : Type 0} → List (K × R) → K → R → Type 0
of_key entries k r = Contains entries (k, r)

-- the members are the positions of the records of key k
pub record ArePositionsOf {K B : Type 0} (entries : List (K × Terms B)) (k : K) (members : List ℕ) : Type 0 where
  pub found : (i : ℕ) → Contains members i → (r : Terms B) × (slice_get entries i ≡ Some (k, r))
  pub all : (i : ℕ) (r : Terms B) → slice_get entries i ≡ Some (k, r) → Contains members i

-- For each key, every day from `first` to `last` is clear.
pub record AreClear {K B : Type 0} (entries : List (K × Terms B)) (first last : ℕ) : Type 0 where
  pub key : (k : K) → IsClearFrom (of_key entries k) first last

-- The first clash from `first` to `last` is that of key k on day d: each key before k is clear on all these days, and k
-- on those before d. `cmp` is the order of the keys.
pub record IsFirstClashOf {K B : Type 0} (cmp : K → K → Ordering) (entries : List (K × Terms B)) (first last : ℕ)
    (k : K) (d : ℕ) : Type 0 where
  pub clash : IsFirstClash (of_key entries k) first last d
  pub clear_before : (j : K) → cmp j k ≡ Less → IsClearFrom (of_key entries j) first last
