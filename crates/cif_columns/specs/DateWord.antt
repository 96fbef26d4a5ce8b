-- A date as a word: six digits YYMMDD, or YYYY-MM-DD.
use Rattle.std.specs.Prelude.{List, [], codes, if◌then◌else◌, nat_lt, ℕ, ◌++◌, ◌∷◌, ◌≡◌, ◌⊎◌}
use Rattle.cif_columns.specs.Day.{StandsInYymmdd}

-- the first two digits of the year whose last two begin with this digit: years 60 to 99 are 1960 to 1999, and years 00 to 59 are 2000
-- to 2059
abbrev pub century : ℕ → List ℕ
century digit = if nat_lt digit 54 then codes "20" else codes "19"

-- the date YYYY-MM-DD of six digits YYMMDD
abbrev pub long_date : List ℕ → List ℕ
long_date (a ∷ b ∷ c ∷ d ∷ e ∷ f ∷ []) = century a ++ (a ∷ b ∷ 45 ∷ c ∷ d ∷ 45 ∷ e ∷ f ∷ [])
long_date other = []

-- YYYY-MM-DD names the day that its last six digits name
pub record StandsInLong (word : List ℕ) (n : ℕ) : Type 0 where
  pub digits : List ℕ
  pub stands : StandsInYymmdd digits n
  pub long : word ≡ long_date digits

-- the word names the day, in either way
abbrev pub IsDateWord : List ℕ → ℕ → Type 0
IsDateWord word n = StandsInYymmdd word n ⊎ StandsInLong word n
