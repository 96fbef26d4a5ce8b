-- The canonical records of all keys, whatever runs, in one list of pairs of a key and one of its records.
use Rattle.std.specs.Prelude.{◌≡◌, ℕ, ◌<◌, ◌⊎◌, List, map, Option, AllPairs}
use Rattle.std.specs.declared.{cmp.Ordering.Ordering, cmp.Ordering.TheVariants.Less}
use Rattle.cif_weeks.specs.declared.form.Form.{Form}
use Rattle.cif_weeks.specs.{HaveForm.HaveForm, Permanent.Permanent, WhatRuns.SayTheSame, WhatRuns.SayWhatRuns, Window.Window}
use Rattle.cif_calendar.specs.Keys.{of_key}

-- the records of one key, each with it
abbrev pub with_key : {K B : Type 0} → K → List (Permanent B) → List (K × Permanent B)
with_key k records = map (λ r. (k, r)) records

-- one comes before the other: by key, and for one key by first day; `cmp` is the order of the keys
abbrev pub Precedes : {K B : Type 0} → (K → K → Ordering) → K × Permanent B → K × Permanent B → Type 0
Precedes cmp (j, r) (k, s) = (cmp j k ≡ Less) ⊎ ((j ≡ k) × (r.first < s.first))

-- The list rises strictly by key and then first day, and the records of each key have the form.
pub record AreCanonical {K B : Type 0} (cmp : K → K → Ordering) (form : Form) (window : Window)
    (records : List (K × Permanent B)) : Type 0 where
  pub rising : AllPairs (Precedes cmp) records
  pub have_form : (k : K) → HaveForm form window (of_key records k)

-- For each key its records say what runs: `body_on` gives the body that runs for a key on a day, or none.
pub record SayWhatRunsByKey {K B : Type 0} (window : Window) (body_on : K → ℕ → Option B) (records : List (K × Permanent B))
    : Type 0 where
  pub say : (k : K) → SayWhatRuns window (body_on k) (of_key records k)

-- Two lists say the same for each key.
pub record SayTheSameByKey {K B : Type 0} (window : Window) (xs ys : List (K × Permanent B)) : Type 0 where
  pub same : (k : K) → SayTheSame window (of_key xs k) (of_key ys k)
