-- What a clause reads of a `ContentReader`, and what a `next` answers.
use Rattle.std.specs.Prelude.{◌≡◌, ◌≢◌, ℕ, ◌+◌, ◌<◌, true, false, List, [], length, Option, Some, IfSome, IfOk, Result, Ok, Err}
use Rattle.std.specs.Io.KnownBytes.{Keeps, prepend_known}
use Rattle.cif_columns.specs.Ahead.{AnswersNext, content_bytes, held_bytes, known_left}
use Rattle.cif_columns.specs.{Contents.BeginOverlong, Contents.DecideNoContent, Contents.most_by, declared.source.Source.Source}
use Rattle.cif_columns.specs.Source.{HasFailedToRead, HasReadOn, reader_of, source_ended, source_failed}
use Rattle.cif_columns.specs.declared.{ahead.ContentReader.ContentReader, ahead.Most.Most, ahead.Most.TheVariants.Of}
use Rattle.cif_columns.specs.declared.{ahead.NextContent.NextContent, refusal.LineFault.LineFault, refusal.LineFault.TheVariants.Read}
use Rattle.cif_columns.specs.declared.{refusal.LineFault.TheVariants.Refused, refusal.Refusal.TheVariants.TooManyLines}
use Rattle.cif_columns.specs.declared.ahead.NextContent.TheVariants.{Content, Overlong, End}

-- the bytes that are held: read, and not yet given
abbrev pub held : ContentReader → List ℕ
held r = held_bytes r.ahead

-- the content that was given last
abbrev pub content : ContentReader → List ℕ
content r = content_bytes r.ahead

-- how many contents were given
abbrev pub given : ContentReader → ℕ
given r = r.given

-- how many contents there may be
abbrev pub limit : ContentReader → ℕ
limit r = r.limit

-- with how many bytes without a line feed a content is overlong
abbrev pub most_of : ContentReader → ℕ
most_of r = r.most

-- the bytes that are left: those held, and then those that the reader has left, where these are known
abbrev pub left : {R : Type 0} → (R → Option (List ℕ)) → ContentReader → Source R → Option (List ℕ)
left remaining r s = known_left remaining r.ahead s

-- what a call that may answer a fault of the lines owes its source: it fails to read exactly where it answers Read
abbrev pub LineReads : {R A : Type 0} → (R → Option ℕ) → Source R → Source R → Result A LineFault → Type 0
LineReads errors old new (Ok done) = HasReadOn errors old new
LineReads errors old new (Err (Refused number why)) = HasReadOn errors old new
LineReads errors old new (Err Read) = HasFailedToRead errors old new

-- Of the bytes that were left, where they are known, the reader has these left, and has given the others. They decide the first content,
-- after so many of at most max.
pub record GivenDecideContent (most : Most) (max count : ℕ) (bytes unread : Option (List ℕ)) : Type 0 where
  pub given : List ℕ
  pub parts : Keeps bytes (prepend_known given unread)
  pub decided : ¬ DecideNoContent (most_by most given) max count given

-- what a call answers, where these bytes are left, and what is left after it
abbrev pub AnswersContent : Most → List ℕ → Result NextContent LineFault → List ℕ → Option (List ℕ) → Type 0
AnswersContent most bytes (Ok next) content after = AnswersNext most bytes next content after
AnswersContent most bytes (Err (Refused number why)) content after = 0 < length bytes
AnswersContent most bytes (Err Read) content after = after ≡ Some bytes

-- what a call answers by what is held then, and how many contents it has given
abbrev pub HoldsNext : Most → ContentReader → Result NextContent LineFault → ContentReader → Type 0
HoldsNext most old (Ok Content) new = (given old < limit old) × (given new ≡ given old + 1)
HoldsNext most old (Ok Overlong) new =
    (given old < limit old) × (given new ≡ given old) × BeginOverlong (most_by most (held new)) (held new)
HoldsNext most old (Ok End) new = given new ≡ given old
HoldsNext most old (Err (Refused number why)) new =
    (given old ≡ limit old) × (given new ≡ given old) × (number ≡ given old + 1) × (why ≡ TooManyLines)
HoldsNext most old (Err Read) new =
    (given new ≡ given old) × DecideNoContent (most_by most (held new)) (limit old) (given old) (held new)

-- What a call that gives the next content promises: with how many bytes one is overlong, its reader and its source before, the answer,
-- and both after.
pub record IsNextWithin {R : Type 0} (remaining : R → Option (List ℕ)) (errors : R → Option ℕ) (most : Most) (old : ContentReader)
    (from : Source R) (result : Result NextContent LineFault) (new : ContentReader) (to : Source R) : Type 0 where
  -- the answer is the first content of the bytes that are left, and the bytes after it are left then
  pub answer : IfSome (left remaining old from) (λ bytes. AnswersContent most bytes result (content new) (left remaining new to))
  pub holds : HoldsNext most old result new
  pub limit_now : limit new ≡ limit old
  pub most_now : most_of new ≡ most_of old
  -- what isn't a failure is decided by the bytes so far, or by the end that the source reported
  pub decided : result ≢ Err Read → source_ended to ≡ false →
      GivenDecideContent most (limit old) (given old) (left remaining old from) (remaining (reader_of to))
  -- a source that fails is reported; one that has failed has no end, and gives no bytes where none are held
  pub device : LineReads errors from to result
  pub ended : result ≡ Ok End → (source_failed from ≡ false) × (source_ended to ≡ true)
  pub fresh : held old ≡ [] → IfOk result (λ next. source_failed from ≡ false)

-- the same, with as many bytes as the reader says
abbrev pub IsNextOf : {R : Type 0} → (R → Option (List ℕ)) → (R → Option ℕ) → ContentReader → Source R → Result NextContent LineFault
    → ContentReader → Source R → Type 0
IsNextOf remaining errors old from result new to = IsNextWithin remaining errors (Of (most_of old)) old from result new to
