-- How many records have a cut, or apply on a day of a clash.
use Rattle.std.specs.Prelude.{◌≡◌, ◌⊎◌, ◌+◌, ℕ, List, [], ◌∷◌}
use Rattle.cif_feed.specs.{Parts.IsCut, Parts.ended, Prepared.prepared_last, declared.holidays.Holidays.Holidays}
use Rattle.cif_feed.specs.Published.{AppliesAsPublished, IsHolidayOf, PublishedTerms}

-- a holiday is a cut of the published record, in a window that ends on this day
abbrev pub HasCut : {B : Type 0} → Holidays → ℕ → PublishedTerms B → Type 0
HasCut h window_last r = (d : ℕ) × IsCut (IsHolidayOf h r.code) (ended (prepared_last window_last r) r.terms) d

-- the published record applies on one of these days, in a window that ends on this day
abbrev pub AppliesOnAny : {B : Type 0} → (ℕ → Type 0) → Holidays → ℕ → PublishedTerms B → Type 0
AppliesOnAny Days h window_last r =
    (d : ℕ) × Days d × AppliesAsPublished h r.code (ended (prepared_last window_last r) r.terms) d

-- so many of the items have the property
abbrev pub IsCountOf : {A : Type 0} → (A → Type 0) → List A → ℕ → Type 0
IsCountOf P [] n = n ≡ 0
IsCountOf P (x ∷ xs) n = (P x × ((m : ℕ) × IsCountOf P xs m × (n ≡ m + 1))) ⊎ ((¬ P x) × IsCountOf P xs n)
