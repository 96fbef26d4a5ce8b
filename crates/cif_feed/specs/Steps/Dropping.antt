-- The clash days of keys, by what stands for the keys.
use Rattle.std.specs.Prelude.{Contains, List, None, Option, Some, [], if◌then◌else◌, length, map, ℕ, ◌++◌, ◌+◌, ◌<◌, ◌∷◌, ◌≡◌, ◌⊎◌}
use Rattle.std.specs.{Cmp.Lexicographic.slice_cmp, Ordering.is_eq, Ordering.nat_cmp, declared.cmp.Ordering.Ordering}
use Rattle.cif_calendar.specs.{Entries.association_entries, Entries.schedule_entries, Ranks.IsNumberOf}
use Rattle.cif_extract.specs.{ExtractParts.ExtractParts, declared.fault.Clash.Clash}
use Rattle.cif_extract.specs.declared.fault.Clash.TheVariants as clash
use Rattle.cif_records.specs.{AssocKey.key_cmp, declared.association.AssocKey.AssocKey}
use Rattle.cif_feed.specs.Dropped.{AreClashDays, AreKeysWithDays, reported_as}
use Rattle.cif_feed.specs.{CutCount.AppliesOnAny, CutCount.IsCountOf, Prepared.ArePrepared, Published.IsHolidayOf, Published.PublishedTerms}
use Rattle.cif_feed.specs.PublishedParts.{PublishedParts, published_association_terms, published_associations, published_schedule_terms}
use Rattle.cif_feed.specs.PublishedParts.{published_schedules}
use Rattle.cif_feed.specs.declared.{dropped.DroppedKey.DroppedKey, holidays.HolidayCode.HolidayCode, holidays.Holidays.Holidays}
use Rattle.cif_feed.specs.declared.{prepared_record.RisingDays.RisingDays, published_extract.PublishedAssociation.PublishedAssociation}
use Rattle.cif_feed.specs.declared.{published_extract.PublishedSchedule.PublishedSchedule}

-- the days that were found for what stands for a key, if any were
abbrev pub days_in : Option RisingDays → List ℕ
days_in None = []
days_in (Some found) = found.days.items

-- what is found for each that stands for a key are the days of the key
abbrev pub ReadsDates : {R K : Type 0} → (R → K → Type 0) → (K → List ℕ) → (R → Option RisingDays) → Type 0
ReadsDates {R} {K} stands_for days found = (r : R) (k : K) → stands_for r k → days_in (found r) ≡ days k

-- the days of one key are these, and those of the others are as they were
abbrev pub days_with : {K : Type 0} → (K → K → Ordering) → K → List ℕ → (K → List ℕ) → K → List ℕ
days_with cmp k found days j = if is_eq (cmp k j) then found else days j

-- The key with its days, if it has one, is reported behind those that were known, and its days are found for what stands for it.
pub record IsReported {R K : Type 0} (cmp : K → K → Ordering) (name : K → ℕ → Clash) (stands_for : R → K → Type 0) (k : K) (found : List ℕ)
    (known all : List DroppedKey) (old new : R → Option RisingDays) : Type 0 where
  pub none : found ≡ [] → (all ≡ known) × ((r : R) → new r ≡ old r)
  pub reported : 0 < length found → all ≡ known ++ reported_as name (λ _. found) k ∷ []
  pub reads : 0 < length found → (days : K → List ℕ) → ReadsDates stands_for days old
      → ReadsDates stands_for (days_with cmp k found days) new

-- key k is reported with its days, if it has one
abbrev pub IsKeyReported : {R K : Type 0} → (K → K → Ordering) → (K → ℕ → Clash) → (R → K → Type 0) → (K → List ℕ → Type 0) → K
    → List DroppedKey → List DroppedKey → (R → Option RisingDays) → (R → Option RisingDays) → Type 0
IsKeyReported cmp name stands_for Are k known all old new =
    (found : List ℕ) × Are k found × IsReported cmp name stands_for k found known all old new

-- Behind what was known the keys that have a day are reported, and their days are found for what stands for the keys.
pub record AreFound {R K : Type 0} (cmp : K → K → Ordering) (name : K → ℕ → Clash) (stands_for : R → K → Type 0)
    (Are : K → List ℕ → Type 0) (known all : List DroppedKey) (found : R → Option RisingDays) : Type 0 where
  pub keys : List K
  pub days : K → List ℕ
  pub are : AreKeysWithDays cmp Are keys days
  pub added : all ≡ known ++ map (reported_as name days) keys
  pub reads : ReadsDates stands_for days found

-- the days of associations, and of trains, by what stands for their keys
abbrev pub ReadsAssociations : (AssocKey → List ℕ) → (AssocKey → Option RisingDays) → Type 0
ReadsAssociations days found = ReadsDates (λ (rank key : AssocKey). rank ≡ key) days found

abbrev pub ReadsTrains : (List ℕ → List ℕ) → (ℕ → Option RisingDays) → Type 0
ReadsTrains days found = ReadsDates IsNumberOf days found

-- the published entries by their keys
abbrev pub published_by : {A K B : Type 0} → (A → K) → (A → PublishedTerms B) → List A → List (K × PublishedTerms B)
published_by key published entries = map (λ e. (key e, published e)) entries

-- the clash days of the keys of a published extract are found, and the keys are reported behind those that were known
abbrev pub AreAllFound : Holidays → PublishedParts → List DroppedKey → List DroppedKey → (AssocKey → Option RisingDays)
    → (ℕ → Option RisingDays) → Type 0
AreAllFound h p known all associations trains = (between : List DroppedKey)
    × AreFound key_cmp clash.Association (λ (rank key : AssocKey). rank ≡ key)
    (AreClashDays h (published_associations p.associations) p.header.first (p.header.last + 1)) known between associations
    × AreFound (slice_cmp nat_cmp) clash.Train IsNumberOf
    (AreClashDays h (published_schedules p.schedules) p.header.first (p.header.last + 1)) between all trains

-- day d stops the records of key k with this code: a holiday of the code, or one of the days that the key has here
abbrev pub IsStopAmong : {K : Type 0} → Holidays → (K → List ℕ) → K → Option HolidayCode → ℕ → Type 0
IsStopAmong h days k code d = IsHolidayOf h code d ⊎ Contains (days k) d

-- the extract is cut at the holidays and at these days of its keys
pub record IsCutAt (h : Holidays) (p : PublishedParts) (associations : AssocKey → List ℕ) (trains : List ℕ → List ℕ) (x : ExtractParts)
    : Type 0 where
  pub header : x.header ≡ p.header
  pub tiplocs : x.tiplocs ≡ p.tiplocs
  pub cut_associations : ArePrepared (IsStopAmong h associations) p.header.last (published_associations p.associations)
      (association_entries x.associations)
  pub cut_schedules : ArePrepared (IsStopAmong h trains) p.header.last (published_schedules p.schedules) (schedule_entries x.schedules)

-- So many of the published associations and schedules apply on a day that is found for their key.
pub record AreCounted (h : Holidays) (p : PublishedParts) (associations : AssocKey → Option RisingDays) (trains : ℕ → Option RisingDays)
    (n : ℕ) : Type 0 where
  pub one : ℕ
  pub other : ℕ
  pub both : n ≡ one + other
  pub of_associations : (days : AssocKey → List ℕ) → ReadsAssociations days associations
      → IsCountOf (λ (a : PublishedAssociation). AppliesOnAny (Contains (days a.association.key)) h p.header.last
      (published_association_terms a)) p.associations one
  pub of_trains : (days : List ℕ → List ℕ) → ReadsTrains days trains
      → IsCountOf (λ (s : PublishedSchedule). AppliesOnAny (Contains (days s.schedule.uid)) h p.header.last
      (published_schedule_terms s)) p.schedules other
