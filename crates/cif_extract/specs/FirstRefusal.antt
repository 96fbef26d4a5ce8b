-- The first refused line of an input, and its reason.
use Rattle.std.specs.Prelude.{All, List, None, Option, Some, [], length, nat_lt, slice_index_or, take, ℕ, ◌++◌, ◌+◌, ◌<◌, ◌==◌, ◌∷◌, ◌≡◌}
use Rattle.std.specs.{List.list_all, Prelude.◌≢◌, Prelude.◌⊎◌}
use Rattle.cif_columns.specs.{Contents.contents_of, FirstLine.is_printable, GivenLines.AreLinesToFailure, declared.refusal.Refusal.Refusal}
use Rattle.cif_columns.specs.declared.refusal.Refusal.TheVariants.{BadLength, BadByte, OutOfOrder, Truncated, TooManyLines}
use Rattle.cif_extract.specs.{OrderOfRecords.may_stand, OrderOfRecords.place_behind, declared.place.Place.Place}
use Rattle.cif_records.specs.{Checks.first_of, Checks.unless, Kind.kind_in, Record.record_refusal}
use Rattle.cif_records.specs.declared.{record.Kind.Kind, record.Kind.TheVariants.Zz}

-- why a line whose columns 1 and 2 name this kind may not stand there; one that names none is refused as a record
abbrev pub order_refusal : Place → Option Kind → Option Refusal
order_refusal place None = None
order_refusal place (Some kind) = unless (may_stand place kind) OutOfOrder

-- The first reason to refuse a content that comes after these, where max lines may come: it is one too many, it isn't eighty
-- bytes, one of them may stand in no line, its kind may not stand there, or it is refused as a record, for its kind or for a field.
unfoldable pub refusal_of : ℕ → List (List ℕ) → List ℕ → Option Refusal
refusal_of max before content = first_of (
    unless (nat_lt (length before) max) TooManyLines
    ∷ unless (length content == 80) BadLength
    ∷ unless (list_all is_printable content) BadByte
    ∷ order_refusal (place_behind before) (kind_in content)
    ∷ record_refusal content
    ∷ [])

-- there is no reason to refuse any of these contents, each after those before it
pub record NoneRefused (max : ℕ) (contents : List (List ℕ)) : Type 0 where
  pub fine : (k : ℕ) → k < length contents → refusal_of max (take k contents) (slice_index_or contents k []) ≡ None

-- The content of this number, counted from 1, is the first of the contents that is refused, and why is its first reason.
pub record IsRefusedLine (max : ℕ) (contents : List (List ℕ)) (number : ℕ) (why : Refusal) : Type 0 where
  pub before : List (List ℕ)
  pub content : List ℕ
  pub after : List (List ℕ)
  pub parts : contents ≡ before ++ content ∷ after
  pub fine : NoneRefused max before
  pub numbered : number ≡ length before + 1
  pub reason : refusal_of max before content ≡ Some why

-- No content is refused and none is a trailer: the line after the last is missing.
pub record IsTruncated (max : ℕ) (contents : List (List ℕ)) (number : ℕ) (why : Refusal) : Type 0 where
  pub fine : NoneRefused max contents
  pub no_trailer : All (λ content. kind_in content ≢ Some Zz) contents
  pub numbered : number ≡ length contents + 1
  pub reason : why ≡ Truncated

-- the first refused line of an input, and its reason
abbrev pub IsFirstRefusal : ℕ → List ℕ → ℕ → Refusal → Type 0
IsFirstRefusal max bytes number why = IsRefusedLine max (contents_of bytes) number why ⊎ IsTruncated max (contents_of bytes) number why

-- A source failed before a refused line was decided: of these bytes it gave all but those unread. What it gave are whole lines,
-- none of them refused, and then a rest, which decides no line.
pub record IsCutBeforeRefusal (max : ℕ) (bytes unread : List ℕ) : Type 0 where
  pub lines : List (List ℕ)
  pub given : AreLinesToFailure max bytes unread lines
  pub fine : NoneRefused max lines
