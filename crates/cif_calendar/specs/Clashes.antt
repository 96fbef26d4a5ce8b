-- The keys with a clash in a window, each with its first day.
use Rattle.std.specs.Prelude.{◌≡◌, ℕ, List, Option, Some, AllPairs, Contains, map, slice_get}
use Rattle.std.specs.{Option.option_map, declared.cmp.Ordering.Ordering, declared.cmp.Ordering.TheVariants.Less}
use Rattle.cif_calendar.specs.{Clash.IsClearFrom, Clash.IsFirstClash, Keys.of_key, Terms.Terms, declared.key_clashes.KeyClash.KeyClash}

-- The clashes from `first` to `last`: the keys of which some day has one, rising, each once and with its first such day. A key that isn't
-- among them is clear on all these days. `cmp` is the order of the keys.
pub record AreClashes {K B : Type 0} (cmp : K → K → Ordering) (entries : List (K × Terms B)) (first last : ℕ) (found : List (K × ℕ))
    : Type 0 where
  pub rising : AllPairs (λ (x : K × ℕ) (y : K × ℕ). cmp x.0 y.0 ≡ Less) found
  pub clashes : (k : K) (d : ℕ) → Contains found (k, d) → IsFirstClash (of_key entries k) first last d
  pub others : (k : K) → ((d : ℕ) → ¬ Contains found (k, d)) → IsClearFrom (of_key entries k) first last

-- what a found clash stands for: the key of the entry at its position, and its day
abbrev pub key_and_day : {K B : Type 0} → List (K × Terms B) → KeyClash → Option (K × ℕ)
key_and_day entries clash = option_map (λ e. (e.0, clash.day)) (slice_get entries clash.position)

-- these stand for the clashes, one by one
pub record StandForClashes {K B : Type 0} (cmp : K → K → Ordering) (entries : List (K × Terms B)) (first last : ℕ) (found : List KeyClash)
    : Type 0 where
  pub clashes : List (K × ℕ)
  pub are : AreClashes cmp entries first last clashes
  pub stand_for : map (key_and_day entries) found ≡ map Some clashes
