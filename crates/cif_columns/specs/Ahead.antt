-- What is read ahead of the lines, and the content that stands first in it.
use Rattle.std.specs.Prelude.{IfOk, IfSome, List, MatchResult, Ok, OnErr, Option, Result, Some, [], false, length, slice_index, slice_range}
use Rattle.std.specs.Prelude.{take, true, ℕ, ◌<◌, ◌≡◌}
use Rattle.std.specs.Io.KnownBytes.{Keeps, prepend_known}
use Rattle.cif_columns.specs.Contents.{AreUndecided, BeginOverlong, ComesFirst, EndsAtFeed, most_by}
use Rattle.cif_columns.specs.{Line.ArePrintable, declared.ahead.Ahead.Ahead, declared.ahead.Most.Most}
use Rattle.cif_columns.specs.{declared.ahead.NextContent.NextContent, declared.source.ReadFault.ReadFault, declared.source.Source.Source}
use Rattle.cif_columns.specs.Source.{HasFailedToRead, HasReadOn, reader_of, source_ended, source_failed}
use Rattle.cif_columns.specs.declared.ahead.NextContent.TheVariants as next

-- the bytes that are read and not yet given
abbrev pub held_bytes : Ahead → List ℕ
held_bytes a = slice_range a.buf a.start a.end

-- the content that was passed last
abbrev pub content_bytes : Ahead → List ℕ
content_bytes a = slice_range a.buf a.first a.last

-- the bytes that are held, and then those that the reader has left, where they are known
abbrev pub known_left : {R : Type 0} → (R → Option (List ℕ)) → Ahead → Source R → Option (List ℕ)
known_left remaining a s = prepend_known (held_bytes a) (remaining s.reader)

-- the held bytes begin with this line, and a line feed
pub record BeginWithLine (held line : List ℕ) : Type 0 where
  pub is : line ≡ take 80 held
  pub printable : ArePrintable line
  pub within : 80 < length held
  pub feed : slice_index held 80 ≡ 10

-- ---- the next content

-- what held bytes decide of the content that stands first, whatever follows them: it, and what is held after it
abbrev pub PassesFirst : ℕ → List ℕ → NextContent → List ℕ → List ℕ → Type 0
PassesFirst most held next.Content content rest = EndsAtFeed most held content rest
PassesFirst most held next.Overlong content rest = BeginOverlong most held × (rest ≡ held)
PassesFirst most held next.End content rest = ⊥

-- what held bytes are, where no others follow
abbrev pub IsLast : List ℕ → NextContent → List ℕ → List ℕ → Type 0
IsLast held next.Content content rest = (0 < length held) × (content ≡ held) × (rest ≡ [])
IsLast held next.Overlong content rest = ⊥
IsLast held next.End content rest = (held ≡ []) × (rest ≡ [])

-- what a call answers, where these bytes are left: the content, and what is left after it
abbrev pub AnswersNext : Most → List ℕ → NextContent → List ℕ → Option (List ℕ) → Type 0
AnswersNext most bytes next.Content content after =
    (rest : List ℕ) × (after ≡ Some rest) × ComesFirst (most_by most bytes) bytes content rest
AnswersNext most bytes next.Overlong content after = (after ≡ Some bytes) × BeginOverlong (most_by most bytes) bytes
AnswersNext most bytes next.End content after = (bytes ≡ []) × (after ≡ Some [])

-- of the bytes that were left, where they are known, the reader has these left, and has given the others, which decide a content
pub record GivenDecided (most : Most) (bytes unread : Option (List ℕ)) : Type 0 where
  pub given : List ℕ
  pub parts : Keeps bytes (prepend_known given unread)
  pub decided : ¬ AreUndecided (most_by most given) given

-- What a call that passes the next content promises: what is held and the source before, the answer, and both after.
pub record CutsNext {R : Type 0} (remaining : R → Option (List ℕ)) (errors : R → Option ℕ) (most : Most) (old : Ahead) (from : Source R)
    (result : Result NextContent ReadFault) (new : Ahead) (to : Source R) : Type 0 where
  pub answer : IfSome (known_left remaining old from)
      (λ bytes. MatchResult result (λ next. AnswersNext most bytes next (content_bytes new) (known_left remaining new to))
      (λ fault. known_left remaining new to ≡ Some bytes))
  pub overlong : result ≡ Ok next.Overlong → BeginOverlong (most_by most (held_bytes new)) (held_bytes new)
  -- what isn't a failure is decided by the bytes so far, or by the end that the source reported
  pub decided : IfOk result (λ next. source_ended to ≡ false → GivenDecided most (known_left remaining old from) (remaining (reader_of to)))
  pub undecided : OnErr result (AreUndecided (most_by most (held_bytes new)) (held_bytes new))
  -- a source that fails is reported; one that has failed has no end, and gives no bytes where none are held
  pub device : MatchResult result (λ next. HasReadOn errors from to) (λ fault. HasFailedToRead errors from to)
  pub ended : result ≡ Ok next.End → (source_failed from ≡ false) × (source_ended to ≡ true)
  pub fresh : held_bytes old ≡ [] → IfOk result (λ next. source_failed from ≡ false)
