-- What runs on a day, and when a train runs, as lines of text.
use Rattle.std.specs.Prelude.{◌≡◌, ◌↔◌, ◌<◌, ⊤, ℕ, List, [], ◌++◌, AllPairs, Contains}
use Rattle.std.specs.{Cmp.Lexicographic.slice_cmp, List.flat_map, Ordering.nat_cmp}
use Rattle.std.specs.declared.{cmp.Ordering.Ordering, cmp.Ordering.TheVariants.Less}
use Rattle.cif_calendar.specs.{Entries.association_entries, Entries.schedule_entries, Keys.of_key, Meaning.EntriesSayTheSame, Runs.BodyRuns}
use Rattle.cif_calendar.specs.{Terms.Terms}
use Rattle.cif_extract.specs.{Body.BodyLines, ExtractParts.ExtractParts}
use Rattle.cif_extract.specs.declared.{fault.Fault.Fault, fault.Fault.TheVariants.OutsideWindow, fault.Fault.TheVariants.Write}
use Rattle.cif_records.specs.{AssocKey.key_cmp, declared.association.AssocBody.AssocBody, declared.association.AssocKey.AssocKey}
use Rattle.cif_weeks.specs.{Canonical.AreCanonical, Permanent.Permanent, Permanent.permanent_entries, Window.IsWithin}
use Rattle.cif_weeks.specs.declared.form.Form.{Form}
use Rattle.cif_canon.specs.{Accepted.IsClearExtract, Asked.header_window, Fault.IsCanonFault, Rows.association_row}
use Rattle.cif_canon.specs.{Rows.schedule_row, Rows.train_row}
use Rattle.cif_rows.specs.{Row.row_text, declared.format.Format.TheVariants.Text}

-- What runs on day d, each key once and rising. `cmp` is the order of the keys.
pub record AreRunning {K B : Type 0} (cmp : K → K → Ordering) (entries : List (K × Terms B)) (d : ℕ) (running : List (K × B))
    : Type 0 where
  pub rising : AllPairs (λ (x : K × B) (y : K × B). cmp x.0 y.0 ≡ Less) running
  pub runs : (k : K) (b : B) → Contains running (k, b) ↔ BodyRuns (of_key entries k) d b

-- what is listed of a day: the heading, the text of an association that holds, and that of a train that runs
pub record DayTexts : Type 0 where
  pub heading : List ℕ
  pub association : AssocKey × AssocBody → List ℕ
  pub train : List ℕ × BodyLines → List ℕ

-- The day is in the window of the extract, which is clear, and the text has the heading, what is listed of each association that holds, and
-- then of each train that runs.
pub record IsDayListed (listed : DayTexts) (x : ExtractParts) (d : ℕ) (text : List ℕ) : Type 0 where
  pub within : IsWithin (header_window x.header) d
  pub clear : IsClearExtract x
  pub associations : List (AssocKey × AssocBody)
  pub hold : AreRunning key_cmp (association_entries x.associations) d associations
  pub trains : List (List ℕ × BodyLines)
  pub run : AreRunning (slice_cmp nat_cmp) (schedule_entries x.schedules) d trains
  pub text_is : text ≡ listed.heading ++ (flat_map listed.association associations ++ flat_map listed.train trains)

-- the view of a day: a line for each association that holds, and then for each train that runs
abbrev pub association_line : AssocKey × AssocBody → List ℕ
association_line e = row_text Text (association_row e)

abbrev pub train_line : List ℕ × BodyLines → List ℕ
train_line e = row_text Text (train_row e)

abbrev pub day_lines : DayTexts
day_lines = record { heading = []; association = association_line; train = train_line }

abbrev pub IsDayView : ExtractParts → ℕ → List ℕ → Type 0
IsDayView = IsDayListed day_lines

-- what is listed of a train: the heading, and the text of each of its canonical schedules
pub record TrainTexts : Type 0 where
  pub heading : List ℕ
  pub schedule : Permanent BodyLines → List ℕ

-- The extract is clear, and the text has the heading, and what is listed of each of the train's records among the canonical records of the
-- form, in order.
pub record IsTrainListed (listed : TrainTexts) (form : Form) (x : ExtractParts) (uid text : List ℕ) : Type 0 where
  pub clear : IsClearExtract x
  pub records : List (List ℕ × Permanent BodyLines)
  pub canonical : AreCanonical (slice_cmp nat_cmp) form (header_window x.header) records
  pub same_meaning : EntriesSayTheSame (schedule_entries x.schedules) (permanent_entries records) x.header.first x.header.last
  pub own : List (Permanent BodyLines)
  pub rising : AllPairs (λ r s. r.first < s.first) own
  pub are : (r : Permanent BodyLines) → Contains own r ↔ Contains records (uid, r)
  pub text_is : text ≡ listed.heading ++ flat_map listed.schedule own

-- the view of a train: a line for each of its canonical schedules
abbrev pub schedule_line : Permanent BodyLines → List ℕ
schedule_line r = row_text Text (schedule_row r)

abbrev pub train_lines : TrainTexts
train_lines = record { heading = []; schedule = schedule_line }

abbrev pub IsTrainView : Form → ExtractParts → List ℕ → List ℕ → Type 0
IsTrainView = IsTrainListed train_lines

-- why there is no view of a day: it is outside the window, or else the extract has no canonical form; a sink may fail too
abbrev pub IsDayFault : ExtractParts → ℕ → Fault → Type 0
IsDayFault x d OutsideWindow = ¬ IsWithin (header_window x.header) d
IsDayFault x d Write = IsWithin (header_window x.header) d
IsDayFault x d fault = IsWithin (header_window x.header) d × IsCanonFault x fault

-- and why there is none of a train
abbrev pub IsTrainFault : ExtractParts → Fault → Type 0
IsTrainFault x Write = ⊤
IsTrainFault x fault = IsCanonFault x fault
