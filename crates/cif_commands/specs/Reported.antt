-- What `prepare` and `update` say on standard error of their answer, and the status that they end with.
use Rattle.std.specs.Prelude.{Bool, Err, List, None, Ok, Option, Result, Some, [], codes, if◌then◌else◌, ℕ, ◌++◌}
use Rattle.std.specs.List.{flat_map}
use Rattle.cif_feed.specs.{Dropped.dropped_text, FeedAnswer.looks_prepared, FeedTexts.fault_text, Updated.refused_fault}
use Rattle.cif_feed.specs.declared.{changes.RefusedLine.RefusedLine, dropped.Dropped.Dropped, dropped.DroppedKey.DroppedKey}
use Rattle.cif_feed.specs.declared.{feed_fault.FeedFault.FeedFault, feed_fault.FeedFault.TheVariants.Extract}
use Rattle.cif_feed.specs.declared.{updates_in_turn.DoneUpdate.DoneUpdate, updates_in_turn.KeptUpdate.KeptUpdate}
use Rattle.cif_feed.specs.{Unreached.unreached_of, Unreached.unreached_text}
use Rattle.cif_feed.specs.declared.{prepare.KeptPrepare.KeptPrepare, unreached.Unreached.Unreached}
use Rattle.cif_commands.specs.Status.{status_of}

-- a line of an update that was waived
unfoldable pub waived_line : RefusedLine → List ℕ
waived_line line = codes "cif: " ++ fault_text (refused_fault line) ++ codes " (waived)\n"

-- all that one update waived, in its order
abbrev pub waived_lines : DoneUpdate → List ℕ
waived_lines update = flat_map waived_line update.outcome.waived.items

-- a key of which nothing runs on some dates
unfoldable pub dropped_line : DroppedKey → List ℕ
dropped_line key = codes "cif: dropped: " ++ dropped_text key ++ codes "\n"

-- the line that names a fault
unfoldable pub refused_line : FeedFault → List ℕ
refused_line fault = codes "cif: " ++ fault_text fault ++ codes "\n"

-- holidays that don't reach the window, if there are some
unfoldable pub unreached_line : Option Unreached → List ℕ
unreached_line None = []
unreached_line (Some unreached) = codes "cif: " ++ unreached_text unreached ++ codes "\n"

-- what `prepare` says of its answer, where it has left this: of a fault its line, and nothing else
abbrev pub reported_by_prepare : Result Dropped FeedFault → KeptPrepare → List ℕ
reported_by_prepare (Ok dropped) kept = flat_map unreached_line (unreached_of kept) ++ flat_map dropped_line dropped.keys.items
reported_by_prepare (Err fault) kept = refused_line fault

-- the line that says that FULL looks prepared, if it does
unfoldable pub prepared_line : Bool → List ℕ
prepared_line looks = if looks then codes "cif: FULL has no open end and no holiday code, as if it were prepared\n" else []

-- what `update` says of its answer, where it has left this
abbrev pub reported_by_update : Result (Unit {0}) FeedFault → KeptUpdate → List ℕ
reported_by_update (Ok done) kept = prepared_line (looks_prepared kept) ++ flat_map waived_lines kept.done.items
reported_by_update (Err fault) kept = refused_line fault

-- the status of a fault: that of an extract of this profile has its own, and each other is a refusal
abbrev pub feed_status_of : FeedFault → ℕ
feed_status_of (Extract fault) = status_of fault
feed_status_of fault = 3

-- the status that an answer ends with
abbrev pub reported_status : {A : Type 0} → Result A FeedFault → ℕ
reported_status (Ok done) = 0
reported_status (Err fault) = feed_status_of fault
