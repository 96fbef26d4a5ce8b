-- What inputs give, by their names and as they stand.
use Rattle.std.specs.Prelude.{List, None, Option, Some, [], false, if◌then◌else◌, ℕ, ⊤, ◌∷◌, ◌≡◌}
use Rattle.clap.specs.Words.{Text}
use Rattle.cif_columns.specs.{Source.reader_of, Source.source_ended, Source.source_failed, declared.source.Source.Source}
use Rattle.cif_commands.specs.declared.input.Device.{Device}
use Rattle.cif_commands.specs.declared.input.Device.TheVariants.{Closed, Ended, Opened, Standard, Unlocked}
use Rattle.cif_commands.specs.Job.{is_standard}

-- what the input of a name gives: `-` is the standard input, and each other name is a file's
abbrev pub given_by : Option (List ℕ) → (Text → Option (List ℕ)) → Text → Option (List ℕ)
given_by of_standard of_file name = if is_standard name then of_standard else of_file name

-- what is left of an input, as it stands: before its first read all that its name gives, and after its end nothing
abbrev pub device_remaining : {S D : Type 0} → (S → Option (List ℕ)) → (D → Option (List ℕ)) → Option (List ℕ) → Option (List ℕ) →
    Device S D → Option (List ℕ)
device_remaining standard file of_standard of_name Unlocked = of_standard
device_remaining standard file of_standard of_name (Standard reader) = standard reader
device_remaining standard file of_standard of_name Closed = of_name
device_remaining standard file of_standard of_name (Opened reader) = file reader
device_remaining standard file of_standard of_name Ended = Some []

-- The source is the input of this name, and nothing of it was read.
pub record IsOpened {R : Type 0} (remaining : R → Option (List ℕ)) (given : Text → Option (List ℕ)) (name : Text) (source : Source R) :
    Type 0 where
  pub gives : remaining (reader_of source) ≡ given name
  pub going : source_failed source ≡ false
  pub unread : source_ended source ≡ false

-- ---- the inputs by their roles, of their names in order

-- Of a job of extracts the first is its input, or the left one, and a second is the right one. A job with one input never reads another.
abbrev pub AreJobInputs : {R : Type 0} → (R → Option (List ℕ)) → (Text → Option (List ℕ)) → List Text → Source R → Source R → Type 0
AreJobInputs remaining given (name ∷ []) left right = IsOpened remaining given name left
AreJobInputs remaining given (name ∷ other ∷ names) left right =
    IsOpened remaining given name left × IsOpened remaining given other right
AreJobInputs remaining given [] left right = ⊥

-- of `prepare` the last is the extract, and one before it has the holidays
abbrev pub AreFeedInputs : {R : Type 0} → (R → Option (List ℕ)) → (Text → Option (List ℕ)) → List Text → Option (Source R) → Source R → Type 0
AreFeedInputs remaining given (name ∷ []) None source = IsOpened remaining given name source
AreFeedInputs remaining given (name ∷ file ∷ names) (Some holidays) source =
    IsOpened remaining given name holidays × IsOpened remaining given file source
AreFeedInputs remaining given names holidays source = ⊥

-- these are the inputs of these names, each in its place
abbrev pub AreOpened : {R : Type 0} → (R → Option (List ℕ)) → (Text → Option (List ℕ)) → List Text → List (Source R) → Type 0
AreOpened remaining given [] [] = ⊤
AreOpened remaining given (name ∷ names) (source ∷ sources) = IsOpened remaining given name source × AreOpened remaining given names sources
AreOpened remaining given names sources = ⊥

-- of `update` the first is the full extract, and the others are the updates
abbrev pub AreUpdateInputs : {R : Type 0} → (R → Option (List ℕ)) → (Text → Option (List ℕ)) → List Text → Source R → List (Source R) → Type 0
AreUpdateInputs remaining given (name ∷ names) full updates = IsOpened remaining given name full × AreOpened remaining given names updates
AreUpdateInputs remaining given [] full updates = ⊥
