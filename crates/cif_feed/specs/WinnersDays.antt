-- What the rows of winners say of a day.
use Rattle.std.specs.Prelude.{IsNone, List, Some, slice_get, ℕ, ◌↔◌, ◌≡◌}
use Rattle.cif_calendar.specs.{Runs.Runs}
use Rattle.cif_columns.specs.declared.stp.Stp.TheVariants.{C}
use Rattle.cif_feed.specs.{Published.CountOn, PublishedParts.PublishedParts, PublishedParts.published_schedules}
use Rattle.cif_feed.specs.declared.{holidays.Holidays.Holidays, published_extract.PublishedSchedule.PublishedSchedule}

-- The schedule at this position is the train's, and says what runs on day d: its body, or nothing exactly if it is a cancellation.
pub record SaysWhatRuns (h : Holidays) (p : PublishedParts) (train : List ℕ) (d position : ℕ) : Type 0 where
  pub schedule : PublishedSchedule
  pub at : slice_get p.schedules position ≡ Some schedule
  pub of_train : schedule.schedule.uid ≡ train
  pub runs : Runs (CountOn h (published_schedules p.schedules) train d) d schedule.schedule.body
  pub cancelled : IsNone schedule.schedule.body ↔ (schedule.schedule.letter ≡ C)
