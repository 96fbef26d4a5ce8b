-- The clashes of keys, as they are found one after another. No public clause cites it.
use Rattle.std.specs.Prelude.{◌≡◌, ◌⊎◌, ℕ, List, Option, None, Some, [], ◌∷◌, ◌++◌}
use Rattle.cif_calendar.specs.{Clash.IsClearFrom, Clash.IsFirstClash, Clashes.key_and_day, Keys.of_key, Terms.Terms}
use Rattle.cif_calendar.specs.declared.{key_calendar.CalendarFault.CalendarFault, key_calendar.CalendarFault.TheVariants.Ambiguous}
use Rattle.cif_calendar.specs.declared.{key_calendar.CalendarFault.TheVariants.Memory, key_clashes.KeyClash.KeyClash}
use Rattle.cif_extract.specs.declared.fault.Clash.{Clash}

-- key k has its first clash on a day, which comes behind what was found
pub record IsClashAdded {K B : Type 0} (entries : List (K × Terms B)) (first last : ℕ) (k : K) (found more : List KeyClash) : Type 0 where
  pub day : ℕ
  pub clash : IsFirstClash (of_key entries k) first last day
  pub one : KeyClash
  pub stands_for : key_and_day entries one ≡ Some (k, day)
  pub added : more ≡ found ++ (one ∷ [])

-- key k is clear, and nothing was added; or else its first clash
abbrev pub IsAddedOfKey : {K B : Type 0} → List (K × Terms B) → ℕ → ℕ → K → List KeyClash → List KeyClash → Type 0
IsAddedOfKey entries first last k found more =
    (IsClearFrom (of_key entries k) first last × (more ≡ found)) ⊎ IsClashAdded entries first last k found more

-- the clash that a calendar's fault reports, with this position, came behind what was found
abbrev pub IsFaultAdded : ℕ → CalendarFault → List KeyClash → List KeyClash → Type 0
IsFaultAdded position (Ambiguous day) found more = more ≡ found ++ (record { position = position; day = day } ∷ [])
IsFaultAdded position Memory found more = ⊥

-- a clash by its name
abbrev pub named_if : {K : Type 0} → (K → ℕ → Clash) → Option (K × ℕ) → List Clash
named_if name None = []
named_if name (Some clash) = name clash.0 clash.1 ∷ []

abbrev pub named : {K B : Type 0} → (K → ℕ → Clash) → List (K × Terms B) → KeyClash → List Clash
named name entries clash = named_if name (key_and_day entries clash)
