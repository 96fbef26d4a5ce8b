-- What the judging of lines has come to, content by content.
use Rattle.std.specs.Prelude.{Contains, Err, List, Ok, Result, Some, ℕ, ◌≢◌, ◌⊎◌}
use Rattle.cif_columns.specs.declared.{refusal.Refusal.Refusal, refusal.Refusal.TheVariants.OutOfOrder}
use Rattle.cif_columns.specs.declared.{refusal.Refusal.TheVariants.TooManyLines}
use Rattle.cif_extract.specs.{ExtractParts.extract_parts, Layouts.own_layouts, SpellsExtract.SpellExtract, Steps.Reading.progress_of}
use Rattle.cif_extract.specs.{Taken.HasTaken, declared.fault.Fault.Fault, declared.fault.Fault.TheVariants.Refused}
use Rattle.cif_extract.specs.FirstRefusal.{IsRefusedLine, IsTruncated, NoneRefused}
use Rattle.cif_feed.specs.{Judged.NoneHasReason, Reasons.ReportReasons, Reasons.reasons_of}
use Rattle.cif_feed.specs.declared.{judged.Judged.Judged, judged.Judging.Judging, judged.Order.Order}
use Rattle.cif_feed.specs.declared.judged.Judged.TheVariants as judged
use Rattle.cif_feed.specs.declared.judged.Order.TheVariants as order

-- one of the contents has a reason by itself
abbrev pub SomeHasReason : List (List ℕ) → Type 0
SomeHasReason contents = (why : Refusal) × Contains (reasons_of contents) (Some why)

-- what the order of these contents has come to
abbrev pub IsInOrder : ℕ → List (List ℕ) → Order → Type 0
IsInOrder max contents (order.Reading reading) =
    NoneHasReason contents × NoneRefused max contents × HasTaken own_layouts contents (progress_of reading)
IsInOrder max contents (order.OutOfOrder line) = NoneHasReason contents × IsRefusedLine max contents line OutOfOrder
IsInOrder max contents order.Refused = SomeHasReason contents

-- these contents are judged
pub record HasJudged (max : ℕ) (contents : List (List ℕ)) (j : Judging) : Type 0 where
  pub reported : ReportReasons (reasons_of contents) j.reasons
  pub order : IsInOrder max contents j.order

-- what is answered where these are all contents
abbrev pub IsFinished : ℕ → List (List ℕ) → Result Judged Fault → Type 0
IsFinished max contents (Ok (judged.Reasons reported)) = SomeHasReason contents × ReportReasons (reasons_of contents) reported
IsFinished max contents (Ok (judged.Extract x)) = NoneHasReason contents × SpellExtract contents (extract_parts x)
IsFinished max contents (Err (Refused line why)) =
    NoneHasReason contents × (IsRefusedLine max contents line why ⊎ IsTruncated max contents line why) × (why ≢ TooManyLines)
IsFinished max contents (Err fault) = ⊥
