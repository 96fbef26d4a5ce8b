-- What the listing of a record's parts has come to.
use Rattle.std.specs.Prelude.{All, AllPairs, Bool, List, None, Option, Some, [], drop, if◌then◌else◌, length, map, min, nat_lt, slice_index}
use Rattle.std.specs.Prelude.{ℕ, ◌++◌, ◌+◌, ◌-◌, ◌<◌, ◌∷◌, ◌≡◌, ◌≤◌, ◌⊎◌}
use Rattle.std.specs.Ordering.{is_le, nat_cmp}
use Rattle.cif_columns.specs.{Day.weekday_of, DaysRun.RunsOn}
use Rattle.cif_calendar.specs.Terms.{Terms}
use Rattle.cif_feed.specs.Parts.{AreParts, HaveDay, IsBefore, IsCut, IsPart, Part}
use Rattle.cif_feed.specs.{Prepared.part_entry, PreparedRecord.terms_on, declared.prepared_record.PreparedRecord.PreparedRecord}

-- These are the first parts of the record: each of its days before this one is in one of them, or a cut.
pub record ArePartsBefore {B : Type 0} (Stops : ℕ → Type 0) (r : Terms B) (day : ℕ) (parts : List Part) : Type 0 where
  pub rising : AllPairs IsBefore parts
  pub are : All (IsPart Stops r) parts
  pub before : All (λ p. p.last < day) parts
  pub covered : (d : ℕ) → r.first ≤ d → d < day → HaveDay parts d ⊎ IsCut Stops r d

-- A part may begin on this day: it is the first of the record, or one after a cut, and not after the last.
pub record MayBegin {B : Type 0} (Stops : ℕ → Type 0) (r : Terms B) (day : ℕ) : Type 0 where
  pub from : r.first ≤ day
  pub upto : day ≤ r.last
  pub begins : (day ≡ r.first) ⊎ ((cut : ℕ) × (day ≡ cut + 1) × IsCut Stops r cut)

-- the part from a day to the one before a cut, if there is one
abbrev pub before_cut : ℕ → ℕ → List Part
before_cut first cut = if nat_lt first cut then record { first = first; last = cut - 1 } ∷ [] else []

-- the new ones are the old ones and then this record on these days
pub record IsPushed {E D : Type 0} (of : E) (first last : D) (old new : List (PreparedRecord E D)) : Type 0 where
  pub pushed : PreparedRecord E D
  pub items : new ≡ old ++ pushed ∷ []
  pub is_of : pushed.entry.now ≡ of
  pub is_first : pushed.first ≡ first
  pub is_last : pushed.last ≡ last

-- the prepared records by their keys and their terms
abbrev pub records_on : {E K B : Type 0} → (E → K) → (E → Terms B) → List (PreparedRecord E ℕ) → List (K × Terms B)
records_on key terms prepared = map (λ p. (key p.entry.now, terms_on (terms p.entry.now) p.first p.last)) prepared

-- behind those that were there comes the record on these days
abbrev pub IsAdded : {K B : Type 0} → K → Terms B → ℕ → ℕ → List (K × Terms B) → List (K × Terms B) → Type 0
IsAdded k r first last old new = new ≡ old ++ (k, terms_on r first last) ∷ []

-- the record on the part before a cut, if there is one
abbrev pub added_before : {K B : Type 0} → K → Terms B → ℕ → ℕ → List (K × Terms B)
added_before k r first cut = map (part_entry k r) (before_cut first cut)

-- behind those that were there come the parts of the record, which some days stop
abbrev pub AreAdded : {K B : Type 0} → (ℕ → Type 0) → K → Terms B → List (K × Terms B) → List (K × Terms B) → Type 0
AreAdded Stops k r old new = (own : List Part) × AreParts Stops r own × (new ≡ old ++ map (part_entry k r) own)

-- the days that are left are those from this one on, of days that don't fall
pub record IsLeftFrom (days : List ℕ) (from : ℕ) (left : List ℕ) : Type 0 where
  pub place : ℕ
  pub before : (k : ℕ) → k < place → slice_index days k < from
  pub behind : (k : ℕ) → place ≤ k → k < length days → from ≤ slice_index days k
  pub is : left ≡ drop place days

-- the sooner of two days, where there are both
abbrev pub sooner_of : Option ℕ → Option ℕ → Option ℕ
sooner_of None other = other
sooner_of (Some d) None = Some d
sooner_of (Some d) (Some e) = Some (min d e)

-- the first of the days, if it isn't after the last one
abbrev pub first_upto : ℕ → List ℕ → Option ℕ
first_upto last [] = None
first_upto last (d ∷ days) = if is_le (nat_cmp d last) then Some d else None

-- The days that are left begin with the next one from this one on whose weekday is in the mask, or with one after the last.
pub record IsFromNext (mask : List Bool) (from last : ℕ) (days left : List ℕ) : Type 0 where
  pub place : ℕ
  pub is : left ≡ drop place days
  pub passed : (k : ℕ) → k < place → (slice_index days k < from) ⊎ (¬ RunsOn mask (weekday_of (slice_index days k)))
  pub next : 0 < length left
      → (last < slice_index left 0) ⊎ ((from ≤ slice_index left 0) × RunsOn mask (weekday_of (slice_index left 0)))

-- day d stops a record on a weekday of the mask
pub record IsStopOn (Stops : ℕ → Type 0) (days : List Bool) (d : ℕ) : Type 0 where
  pub stops : Stops d
  pub on_weekday : RunsOn days (weekday_of d)
