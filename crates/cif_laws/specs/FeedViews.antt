-- What the commands show of what `prepare` writes, in the words of the feed.
use Rattle.std.specs.Cmp.Lexicographic.{slice_cmp}
use Rattle.std.specs.Ordering.{nat_cmp}
use Rattle.std.specs.Prelude.{Contains, List, Some, true, ℕ, ◌↔◌, ◌≡◌, ◌⊎◌}
use Rattle.cif_calendar.specs.{Clash.IsClash, DayState.IsDayState, Keys.of_key, Terms.Records, declared.day_state.DayState.DayState}
use Rattle.cif_calendar.specs.declared.day_state.DayState.TheVariants.{NoneApplies}
use Rattle.cif_extract.specs.{Body.BodyLines, ExtractParts.ExtractParts}
use Rattle.cif_feed.specs.{Published.CountOn, PublishedParts.published_schedules}
use Rattle.cif_records.specs.declared.{association.AssocBody.AssocBody, association.AssocKey.AssocKey}
use Rattle.cif_views.specs.{Boards.IsBoardRow, declared.board.Board.Board, declared.board.BoardRow.BoardRow}
use Rattle.cif_weeks.specs.{Canonical.AreCanonical, Permanent.Permanent, WhatRuns.HasBody, Window.IsWithin, Window.Window}
use Rattle.cif_weeks.specs.declared.form.Form.{Form}
use Rattle.cif_laws.specs.PublishedFeed.{AssociationRuns, PublishedFeed, TrainRuns}

-- These are the associations and the trains that a feed says run on day d, with their bodies, and no other.
pub record AreRunningByFeed (p : PublishedFeed) (d : ℕ) (associations : List (AssocKey × AssocBody)) (trains : List (List ℕ × BodyLines))
    : Type 0 where
  pub associations_hold : (k : AssocKey) (b : AssocBody) → Contains associations (k, b) ↔ AssociationRuns p k d (Some b)
  pub trains_run : (uid : List ℕ) (b : BodyLines) → Contains trains (uid, b) ↔ TrainRuns p uid d (Some b)

-- These are the canonical records of the trains of a feed, in this form: on each day of the window one with body b applies exactly if the
-- feed says that b runs.
pub record AreRecordsOfFeed (form : Form) (window : Window) (p : PublishedFeed) (records : List (List ℕ × Permanent BodyLines))
    : Type 0 where
  pub canonical : AreCanonical (slice_cmp nat_cmp) form window records
  pub says : (uid : List ℕ) (d : ℕ) (b : BodyLines) → IsWithin window d
      → HasBody (of_key records uid) d b ↔ TrainRuns p uid d (Some b)

-- the published records of a train that count on day d
abbrev pub train_counts : PublishedFeed → List ℕ → ℕ → Records BodyLines
train_counts p = CountOn p.holidays (published_schedules p.extract.schedules)

-- two winners of the train differ on day d, and clashes are dropped
abbrev pub IsDropped : PublishedFeed → List ℕ → ℕ → Type 0
IsDropped p uid d = (p.drops_clashes ≡ true) × IsClash (train_counts p uid d) d

-- What stands on day d by the published records of a train: that no record applies, if what clashes is dropped and they clash; or else
-- whether one applies, and the letter of its winners, or that these differ.
abbrev pub IsFeedState : PublishedFeed → List ℕ → ℕ → DayState → Type 0
IsFeedState p uid d state =
    (IsDropped p uid d × (state ≡ NoneApplies)) ⊎ ((¬ IsDropped p uid d) × IsDayState (train_counts p uid d) d state)

-- A row of a board of what is prepared is of a train that runs by the feed on its train date, with the body whose call it shows.
abbrev pub IsBoardRowOfFeed : PublishedFeed → ExtractParts → Board → BoardRow → Type 0
IsBoardRowOfFeed p x board row =
    (is : IsBoardRow x board row) × TrainRuns p row.key.uid row.key.train_date (Some is.body)
