-- What form 3 is: the fewest records, and a record that stands alone.
use Rattle.std.specs.Prelude.{◌≡◌, ◌≢◌, ℕ, ◌≤◌, List, Some, All, AllPairs, Contains, length}
use Rattle.cif_columns.specs.{Day.weekday_of, DaysRun.RunsOn, declared.stp.Stp.TheVariants.P}
use Rattle.cif_calendar.specs.{Applies.Applies, Keys.of_key, Runs.BodyRuns, Terms.Terms}
use Rattle.cif_weeks.specs.Window.{IsWithin, Window}

-- The records are permanent. The ranges of each two of one key with equal bodies, from the first to the last day, don't meet in the
-- window.
pub record DontOverlap {K B : Type 0} (window : Window) (entries : List (K × Terms B)) : Type 0 where
  pub permanent : All (λ e. e.1.letter ≡ P) entries
  pub apart : AllPairs (λ d e. d.0 ≡ e.0 → d.1.body ≡ e.1.body → (n : ℕ) → IsWithin window n → d.1.first ≤ n → n ≤ d.1.last →
      e.1.first ≤ n → ¬ (n ≤ e.1.last)) entries

-- the record is one of key k with body b, and it applies on a day of the window
pub record IsOneOf {K B : Type 0} (window : Window) (entries : List (K × Terms B)) (k : K) (b : B) (r : Terms B) : Type 0 where
  pub listed : of_key entries k r
  pub body : r.body ≡ Some b
  pub shows : (n : ℕ) × IsWithin window n × Applies r n

-- These entries have at most as many such records as others: a list of different ones isn't longer than a list that has all of the others'.
pub record HaveNoMore {K B : Type 0} (window : Window) (entries others : List (K × Terms B)) : Type 0 where
  pub no_more : (k : K) (b : B) (these those : List (Terms B)) → AllPairs (λ r s. r ≢ s) these →
      ((r : Terms B) → Contains these r → IsOneOf window entries k b r) → ((r : Terms B) → IsOneOf window others k b r → Contains those r) →
      length these ≤ length those

-- on day n of the window body b runs for key k
abbrev pub RunsWithin : {K B : Type 0} → Window → List (K × Terms B) → K → B → ℕ → Type 0
RunsWithin window entries k b n = IsWithin window n × BodyRuns (of_key entries k) n b

-- The record is the only one of key k. It is permanent, its first and its last day lie in the window, and on these and on a day of each
-- weekday in its mask it applies.
pub record IsOnlyRecord {K B : Type 0} (window : Window) (entries : List (K × Terms B)) (k : K) (r : Terms B) : Type 0 where
  pub listed : of_key entries k r
  pub only : (s : Terms B) → of_key entries k s → s ≡ r
  pub permanent : r.letter ≡ P
  pub seven : length r.days ≡ 7
  pub first_within : IsWithin window r.first
  pub last_within : IsWithin window r.last
  pub on_first : Applies r r.first
  pub on_last : Applies r r.last
  pub used : (weekday : ℕ) → RunsOn r.days weekday → (n : ℕ) × (weekday_of n ≡ weekday) × Applies r n
