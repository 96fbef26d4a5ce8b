-- What the reading of a feed has come to, content by content.
use Rattle.std.specs.Prelude.{◌≡◌, ℕ, ◌+◌, true, false, not, ◌&&◌, List, [], ◌∷◌, ◌++◌, Option, Some, None, Result, Ok, Err}
use Rattle.std.specs.List.{list_any}
use Rattle.cif_columns.specs.{Comment.is_comment, Line.IsLine, declared.refusal.Refusal.TheVariants.OutOfOrder}
use Rattle.cif_extract.specs.Steps.Reading.{IsTakenAs, Progress, progress_of}
use Rattle.cif_extract.specs.{Taken.HasTaken, Taken.refusal_at, declared.reading.TakeFault.TakeFault}
use Rattle.cif_extract.specs.{declared.reading.TakeFault.TheVariants.Memory, declared.reading.TakeFault.TheVariants.Refused}
use Rattle.cif_records.specs.{Kind.kind_in, declared.record.Kind.Kind}
use Rattle.cif_records.specs.declared.record.Kind.TheVariants.{Hd, Ti, Ta, Td, Aa, Bs}
use Rattle.cif_feed.specs.{FeedLayouts.feed_layouts, FeedLine.SpellsInFeed, FeedRefusal.line_refusal, Marks.mark_parts, Marks.marks_in}
use Rattle.cif_feed.specs.{RecordLines.is_basic, RecordLines.is_trailer, RecordLines.record_lines, Steps.Marks.mark_of}
use Rattle.cif_feed.specs.declared.{feed_line.Feed.Feed, feed_line.Feed.TheVariants.Update, feed_reading.FeedReading.FeedReading}
use Rattle.cif_feed.specs.declared.{holidays.HolidayCodes.HolidayCodes, mark.LineMark.LineMark, mark.Passed.Passed}

-- the reading has taken these contents
pub record HasTakenFeed (feed : Feed) (allowed : HolidayCodes) (contents : List (List ℕ)) (r : FeedReading) : Type 0 where
  pub taken : HasTaken (feed_layouts feed allowed) (record_lines contents) (progress_of r.reading)
  pub marks : mark_parts r.marks ≡ marks_in allowed contents
  pub basic : r.has_basic ≡ list_any (λ content. is_basic (kind_in content)) contents
  pub trailer : r.has_trailer ≡ list_any (λ content. is_trailer (kind_in content)) contents

-- what the step of a line that says a record comes to
abbrev pub IsRecordTaken : Feed → HolidayCodes → List ℕ → Progress → Result Unit TakeFault → Progress → Type 0
IsRecordTaken feed allowed line before =
    IsTakenAs (refusal_at (feed_layouts feed allowed) before.place line) (SpellsInFeed feed allowed line) before

-- the same, and what it says beyond the record
abbrev pub IsMarkedTaken : Feed → HolidayCodes → ℕ × List ℕ → Progress → Result LineMark TakeFault → Progress → Type 0
IsMarkedTaken feed allowed line before (Ok mark) after =
    IsRecordTaken feed allowed line.1 before (Ok tt) after × (mark ≡ mark_of allowed (kind_in line.1) line)
IsMarkedTaken feed allowed line before (Err fault) after = IsRecordTaken feed allowed line.1 before (Err fault) after

-- a line of this kind is read as one of an extract of this profile
abbrev pub IsOwn : Option Kind → Feed → Type 0
IsOwn (Some Hd) feed = ⊥
IsOwn (Some Ti) feed = ⊥
IsOwn (Some Ta) Update = ⊥
IsOwn (Some Td) Update = ⊥
IsOwn (Some Aa) feed = ⊥
IsOwn (Some Bs) feed = ⊥
IsOwn kind feed = Unit {0}

-- the kind whose place a line of this kind has
abbrev pub read_as : Feed → Kind → Kind
read_as Update Ta = Ti
read_as Update Td = Ti
read_as feed kind = kind

-- what comes of one line more: it is taken, or there is a reason to refuse it, or memory runs out
abbrev pub IsFeedTaken : Feed → HolidayCodes → List (List ℕ) → List ℕ → Result Unit TakeFault → FeedReading → Type 0
IsFeedTaken feed allowed contents line (Ok done) r =
    (line_refusal feed allowed contents line ≡ None) × HasTakenFeed feed allowed (contents ++ (line ∷ [])) r
IsFeedTaken feed allowed contents line (Err (Refused why)) r = line_refusal feed allowed contents line ≡ Some why
IsFeedTaken feed allowed contents line (Err Memory) r = Unit {0}

-- a line of a location on the way was taken
pub record IsStopTaken (feed : Feed) (allowed : HolidayCodes) (contents : List (List ℕ)) (line : List ℕ) (r : FeedReading) : Type 0 where
  pub is_line : IsLine line
  pub no_comment : is_comment line ≡ false
  pub stands : line_refusal feed allowed contents line ≡ None
  pub taken : HasTakenFeed feed allowed (contents ++ (line ∷ [])) r

-- the reading with these contents passed over
abbrev pub with_passed : FeedReading → Passed → FeedReading
with_passed r passed = record r { marks = record r.marks { passed = passed } }

-- a note was counted, or none may stand
abbrev pub IsNoteTaken : FeedReading → Result Unit TakeFault → FeedReading → Type 0
IsNoteTaken old (Ok done) new = ((old.has_basic && not old.has_trailer) ≡ true)
    × (new ≡ with_passed old (record old.marks.passed { notes = old.marks.passed.notes + 1 }))
IsNoteTaken old (Err (Refused why)) new = ((old.has_basic && not old.has_trailer) ≡ false) × (why ≡ OutOfOrder)
IsNoteTaken old (Err Memory) new = ⊥
