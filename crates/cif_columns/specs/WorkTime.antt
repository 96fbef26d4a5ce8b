-- Working times: five columns as they stand.
use Rattle.std.specs.Prelude.{Bool, List, None, Option, Some, [], if◌then◌else◌, option_map, replicate, slice_index, ℕ, ◌&&◌, ◌++◌, ◌+◌}
use Rattle.std.specs.Prelude.{◌==◌, ◌||◌, ◌∷◌, ◌≡◌, ◌⊎◌}
use Rattle.cif_columns.specs.Clock.{IsHourMinute, clock_seconds, is_clock, is_blank}

-- an hour and a minute, and then a space, or `H` for half a minute more
pub record IsTimed (columns : List ℕ) : Type 0 where
  pub clock : List ℕ
  pub half : ℕ
  pub spelled : columns ≡ clock ++ half ∷ []
  pub time : IsHourMinute clock
  pub mark : (half ≡ 32) ⊎ (half ≡ 72)

-- five spaces, or a time
abbrev pub IsWorkTime : List ℕ → Type 0
IsWorkTime columns = (columns ≡ replicate 5 32) ⊎ IsTimed columns

-- the columns are the working time
pub record StandsIn (columns time : List ℕ) : Type 0 where
  pub same : columns ≡ time
  pub form : IsWorkTime columns

-- whether five columns are a working time
abbrev pub is_work_time : List ℕ → Bool
is_work_time columns =
    is_blank columns
    || (is_clock (slice_index columns 0) (slice_index columns 1) (slice_index columns 2) (slice_index columns 3)
    && (slice_index columns 4 == 32 || slice_index columns 4 == 72))

-- the working time in five columns
abbrev pub work_time_in : List ℕ → Option (List ℕ)
work_time_in columns = if is_work_time columns then Some columns else None

-- the seconds from midnight to the time in five columns; none where they are blank
abbrev pub work_seconds : List ℕ → Option ℕ
work_seconds columns = option_map (λ seconds. seconds + (if slice_index columns 4 == 72 then 30 else 0)) (clock_seconds columns)
