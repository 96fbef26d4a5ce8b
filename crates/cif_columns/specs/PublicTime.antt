-- Public times: four columns as they stand.
use Rattle.std.specs.Prelude.{◌≡◌, ℕ, suc, Bool, ◌||◌, ◌⊎◌, List, replicate, Option, Some, None, slice_index, if◌then◌else◌}
use Rattle.cif_columns.specs.Clock.{IsHourMinute, clock_seconds, is_clock, is_blank}

-- four spaces, or an hour and a minute
abbrev pub IsPublicTime : List ℕ → Type 0
IsPublicTime columns = (columns ≡ replicate 4 32) ⊎ IsHourMinute columns

-- the columns are the public time
pub record StandsIn (columns time : List ℕ) : Type 0 where
  pub same : columns ≡ time
  pub form : IsPublicTime columns

-- whether four columns are a public time
abbrev pub is_public_time : List ℕ → Bool
is_public_time columns =
    is_blank columns
    || is_clock (slice_index columns 0) (slice_index columns 1) (slice_index columns 2) (slice_index columns 3)

-- the public time in four columns
abbrev pub public_time_in : List ℕ → Option (List ℕ)
public_time_in columns = if is_public_time columns then Some columns else None

-- the seconds from midnight to the time in four columns; none where they are blank, or midnight itself, which stands for no time
abbrev pub unless_midnight : Option ℕ → Option ℕ
unless_midnight (Some (suc seconds)) = Some (suc seconds)
unless_midnight seconds = None

abbrev pub public_seconds : List ℕ → Option ℕ
public_seconds columns = unless_midnight (clock_seconds columns)
