-- What comes of an input whose lines are judged each by itself.
use Rattle.std.specs.Prelude.{All, Contains, Err, IsSomeAnd, List, None, Ok, Result, Some, false, length, true, ℕ, ⊤, ◌+◌, ◌<◌, ◌≡◌, ◌≤◌}
use Rattle.cif_columns.specs.JudgedContents.{IsGiven, MayGoOn, judged_contents}
use Rattle.cif_columns.specs.{Source.Unread, declared.refusal.Refusal.Refusal, declared.refusal.Refusal.TheVariants.TooManyLines}
use Rattle.cif_extract.specs.{ExtractParts.ExtractParts, ExtractParts.extract_parts, FirstRefusal.IsFirstRefusal, ReadCall.ReadCall}
use Rattle.cif_extract.specs.{ReadCall.reading, ReadFault.IsOfReading, ReadFault.is_read, SpellsExtract.BytesSpellWithin}
use Rattle.cif_extract.specs.declared.fault.Fault.{Fault}
use Rattle.cif_extract.specs.declared.fault.Fault.TheVariants.{Memory, Read, Refused}
use Rattle.cif_feed.specs.Reasons.{ReportReasons, own_reason, reasons_in}
use Rattle.cif_feed.specs.declared.{judged.Judged.Judged, judged.Judged.TheVariants.Extract, judged.Judged.TheVariants.Reasons}
use Rattle.cif_feed.specs.declared.{reasons.Reasons.Reasons as Reported}

-- none of these contents has a reason by itself
abbrev pub NoneHasReason : List (List ℕ) → Type 0
NoneHasReason contents = All (λ content. own_reason content ≡ None) contents

-- What a source gave of these bytes decides which lines are judged, whatever follows, where `after` is left: it reported its end, or
-- there is one too many among them, or one that is overlong.
abbrev pub IsJudgedWhole : ℕ → List ℕ → Unread → Type 0
IsJudgedWhole max bytes after = after.ended ≡ false → IsSomeAnd after.bytes (IsGiven (λ before. ¬ MayGoOn max before) bytes)

-- some of the lines have reasons, and this is reported of them
pub record HaveReasons (max : ℕ) (bytes : List ℕ) (after : Unread) (reported : Reported) : Type 0 where
  pub within : length (judged_contents bytes) ≤ max
  pub why : Refusal
  pub some : Contains (reasons_in bytes) (Some why)
  pub tell : ReportReasons (reasons_in bytes) reported
  pub whole : IsJudgedWhole max bytes after

-- none has, and the lines spell this extract
pub record HaveNone (max : ℕ) (bytes : List ℕ) (x : ExtractParts) : Type 0 where
  pub none : NoneHasReason (judged_contents bytes)
  pub spell : BytesSpellWithin max bytes x

-- what is answered of these bytes, where `after` is left
abbrev pub IsJudgedAs : ℕ → List ℕ → Unread → Judged → Type 0
IsJudgedAs max bytes after (Reasons reported) = HaveReasons max bytes after reported
IsJudgedAs max bytes after (Extract x) = HaveNone max bytes (extract_parts x)

-- a line is one too many, whatever reasons there are
pub record IsTooMany (max : ℕ) (bytes : List ℕ) (after : Unread) (line : ℕ) : Type 0 where
  pub over : max < length (judged_contents bytes)
  pub numbered : line ≡ max + 1
  pub whole : IsJudgedWhole max bytes after

-- no line has a reason, and this is the first refusal
pub record IsOutOfPlace (max : ℕ) (bytes : List ℕ) (after : Unread) (line : ℕ) (why : Refusal) : Type 0 where
  pub none : NoneHasReason (judged_contents bytes)
  pub first : IsFirstRefusal max bytes line why
  pub ended : after.ended ≡ true

-- Why nothing is answered of these bytes, where `after` is left then. No contract foretells that memory runs out.
abbrev pub IsJudgedFault : ℕ → List ℕ → Unread → Fault → Type 0
IsJudgedFault max bytes after (Refused line TooManyLines) = IsTooMany max bytes after line
IsJudgedFault max bytes after (Refused line why) = IsOutOfPlace max bytes after line why
IsJudgedFault max bytes after Read = IsSomeAnd after.bytes (IsGiven (MayGoOn max) bytes)
IsJudgedFault max bytes after Memory = Unit {0}
IsJudgedFault max bytes after _ = ⊥

-- what is answered where the bytes spell an extract of these parts: it, unless the source fails or memory runs out
abbrev pub IsReadAsJudged : ExtractParts → Result Judged Fault → Type 0
IsReadAsJudged x (Ok (Extract extract)) = extract_parts extract ≡ x
IsReadAsJudged x (Ok (Reasons reported)) = ⊥
IsReadAsJudged x (Err Read) = Unit {0}
IsReadAsJudged x (Err Memory) = Unit {0}
IsReadAsJudged x (Err _) = ⊥

-- an extract is answered at the end of an input, and reasons where the first lines have some
abbrev pub IsAtEnd : Judged → Type 0
IsAtEnd (Extract x) = ⊤
IsAtEnd (Reasons reported) = ⊥

-- judging each line by itself, where `after` is left
abbrev pub judging : ℕ → Unread → ReadCall Judged Fault
judging max after =
    record (reading is_read (λ bytes. IsJudgedAs max bytes after) (IsJudgedFault max) (IsOfReading max)) { IsWhole = IsAtEnd }
