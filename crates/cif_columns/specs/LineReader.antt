-- What a clause reads of a `LineReader`, and what a `next` answers.
use Rattle.std.specs.Prelude.{Bool, Err, IfErr, IfOk, IfSome, List, None, Ok, OnErr, OnSome, Option, Result, Some, [], drop, false}
use Rattle.std.specs.Prelude.{if◌then◌else◌, length, slice_index, take, true, ℕ, ◌+◌, ◌<◌, ◌∷◌, ◌≡◌, ◌≢◌}
use Rattle.cif_columns.specs.declared.{ahead.Most.Most, ahead.Most.TheVariants.InFeed, ahead.Most.TheVariants.Of, line.Line.Line}
use Rattle.cif_columns.specs.declared.{line_reader.Content.Content, line_reader.LineReader.LineReader, line_reader.Past.Past}
use Rattle.cif_columns.specs.declared.{refusal.LineFault.LineFault, refusal.LineFault.TheVariants.Read}
use Rattle.cif_columns.specs.declared.{refusal.LineFault.TheVariants.Refused, refusal.Refusal.Refusal, source.Source.Source}
use Rattle.cif_columns.specs.declared.ahead.NextContent.TheVariants as next
use Rattle.cif_columns.specs.declared.line_reader.Content.TheVariants as content
use Rattle.cif_columns.specs.declared.line_reader.Past.TheVariants.{Reading, Ended, Faulted}
use Rattle.cif_columns.specs.{Ahead.held_bytes, Ahead.known_left, Comment.is_comment, ContentReader.IsNextWithin, Line.ArePrintable}
use Rattle.cif_columns.specs.{Line.IsLine, Source.HasReadOn, Source.reader_of, Source.source_ended, Source.source_failed}
pub use Rattle.cif_columns.specs.ContentReader.{GivenDecideContent, LineReads}
use Rattle.cif_columns.specs.Contents.{DecideNoContent, contents_of, IsFirstContent, StandsFirst, HasLineReason, IsLineReason, most_by}

-- the bytes that are held: read, and not yet given
abbrev pub held : LineReader → List ℕ
held r = held_bytes r.contents.ahead

-- how many lines were given
abbrev pub given : LineReader → ℕ
given r = r.contents.given

-- how many lines there may be
abbrev pub limit : LineReader → ℕ
limit r = r.contents.limit

-- what the calls so far came to
abbrev pub past : LineReader → Past
past r = r.past

-- what a call's answer comes to
abbrev pub past_of : Result (Option Line) LineFault → Past
past_of (Ok (Some line)) = Reading
past_of (Ok None) = Ended
past_of (Err fault) = Faulted fault

-- what a call that reads into a line answers, as one that gives it
abbrev pub line_read : Result Bool LineFault → Line → Result (Option Line) LineFault
line_read (Ok true) line = Ok (Some line)
line_read (Ok false) line = Ok None
line_read (Err fault) line = Err fault

-- the bytes that are left: those held, and then those that the reader has left, where these are known
abbrev pub left : {R : Type 0} → (R → Option (List ℕ)) → LineReader → Source R → Option (List ℕ)
left remaining r s = known_left remaining r.contents.ahead s

-- after so many lines of at most max the line stands first in the bytes, and rest after it
pub record IsNextLine (max count : ℕ) (bytes line rest : List ℕ) : Type 0 where
  pub room : count < max
  pub is_line : IsLine line
  pub stands : StandsFirst bytes line rest
  pub contents : contents_of bytes ≡ line ∷ contents_of rest

-- after so many lines of at most max the first content of the bytes is no line, and its number and the reason
pub record IsNextRefusal (max count : ℕ) (bytes : List ℕ) (number : ℕ) (why : Refusal) : Type 0 where
  pub next : number ≡ count + 1
  pub content : List ℕ
  pub others : List (List ℕ)
  pub contents : contents_of bytes ≡ content ∷ others
  pub reason : HasLineReason max number content why

-- what a call answers after so many lines of at most max, where these bytes are left, and what is left after it
abbrev pub Answers : ℕ → ℕ → List ℕ → Result (Option Line) LineFault → Option (List ℕ) → Type 0
Answers max count bytes (Ok (Some line)) after = (rest : List ℕ) × (after ≡ Some rest) × IsNextLine max count bytes line rest
Answers max count bytes (Ok None) after = (bytes ≡ []) × (after ≡ Some [])
Answers max count bytes (Err (Refused number why)) after = IsNextRefusal max count bytes number why
Answers max count bytes (Err Read) after = after ≡ Some bytes

-- the faults of a call after so many lines, for any source: a refusal names the next line, and one of the reasons of lines
abbrev pub IsNextFault : ℕ → LineFault → Type 0
IsNextFault count (Refused number why) = (number ≡ count + 1) × IsLineReason why
IsNextFault count Read = Unit {0}

-- What a call that gives the next line promises: with how many bytes a content is overlong, its reader and its source before, the answer,
-- and both after.
pub record IsNextBy {R : Type 0} (remaining : R → Option (List ℕ)) (errors : R → Option ℕ) (most : Most) (old : LineReader)
    (from : Source R) (result : Result (Option Line) LineFault) (new : LineReader) (to : Source R) : Type 0 where
  -- the answer is the first line of the bytes that are left, and the bytes after it are left then
  pub answer : past old ≡ Reading → IfSome (left remaining old from) (λ bytes.
      Answers (limit old) (given old) bytes result (left remaining new to))
  -- What isn't a failure is decided by the bytes so far, or by the end that the source reported.
  pub decided : past old ≡ Reading → result ≢ Err Read → source_ended to ≡ false →
      GivenDecideContent most (limit old) (given old) (left remaining old from) (remaining (reader_of to))
  -- A source that fails is reported where the bytes before the failure decide nothing. One that has failed has no end, and an end is
  -- reported where the source reported it.
  pub device : past old ≡ Reading → LineReads errors from to result
  pub undecided : past old ≡ Reading → result ≡ Err Read →
      DecideNoContent (most_by most (held new)) (limit old) (given old) (held new)
  pub endless : past old ≡ Reading → result ≡ Ok None → source_failed from ≡ false
  pub reported : past old ≡ Reading → result ≡ Ok None → source_ended to ≡ true
  -- for any source: a refusal names the next line, and one of the reasons of lines
  pub fault : past old ≡ Reading → IfErr result (IsNextFault (given old))
  -- after the end, and after a fault, it is answered again, and nothing is read
  pub past_now : past new ≡ past_of result
  pub again : past old ≢ Reading → past_of result ≡ past old
  pub still : past old ≢ Reading → new ≡ old
  pub unread : past old ≢ Reading → to ≡ from
  pub limit_now : limit new ≡ limit old
  pub counted : IfOk result (λ line. OnSome line (given new ≡ given old + 1))
  pub ended : result ≡ Ok None → given new ≡ given old
  pub refused : OnErr result (given new ≡ given old)

-- the same, where contents are lines: one is overlong with two bytes more than a line has
abbrev pub IsNext : {R : Type 0} → (R → Option (List ℕ)) → (R → Option ℕ) → LineReader → Source R → Result (Option Line) LineFault
    → LineReader → Source R → Type 0
IsNext remaining errors old from result new to = IsNextBy remaining errors (Of 82) old from result new to

-- These columns stand first in what is held, a line feed follows them, and a line may come.
pub record AreAhead (r : LineReader) (columns : List ℕ) : Type 0 where
  pub reading : past r ≡ Reading
  pub room : given r < limit r
  pub first : columns ≡ take 80 (held r)
  pub within : 80 < length (held r)
  pub feed : slice_index (held r) 80 ≡ 10

-- The line that was ahead was given: it and its line feed aren't held any more.
pub record HasPassed (old new : LineReader) : Type 0 where
  pub held_now : held new ≡ drop 81 (held old)
  pub counted : given new ≡ given old + 1
  pub limit_now : limit new ≡ limit old
  pub past_now : past new ≡ past old

-- A line was ahead, and was given.
pub record HasReadAhead (old : LineReader) (line : List ℕ) (new : LineReader) : Type 0 where
  pub ahead : AreAhead old line
  pub printable : ArePrintable line
  pub passed : HasPassed old new

-- ---- comments

-- what a line is
abbrev pub content_of : List ℕ → Content
content_of line = if is_comment line then content.Comment else content.Line

-- the first content of the bytes is no comment
abbrev pub BeginWithoutComment : List ℕ → Type 0
BeginWithoutComment bytes = (one : List ℕ) (others : List (List ℕ)) → contents_of bytes ≡ one ∷ others → is_comment one ≡ false

-- where a content may come, no comment stands first in the bytes that are left
abbrev pub IsNoComment : {R : Type 0} → (R → Option (List ℕ)) → LineReader → Source R → Type 0
IsNoComment remaining old from = past old ≡ Reading → given old < limit old →
    IfSome (left remaining old from) BeginWithoutComment

-- a comment stood first, and was passed
pub record HasPassedComment {R : Type 0} (remaining : R → Option (List ℕ)) (errors : R → Option ℕ) (old : LineReader) (from : Source R)
    (new : LineReader) (to : Source R) : Type 0 where
  pub reading : past old ≡ Reading
  pub comment : IfSome (left remaining old from) (λ bytes. (content rest : List ℕ) × (is_comment content ≡ true)
      × (left remaining new to ≡ Some rest) × IsFirstContent bytes content rest)
  pub read_on : HasReadOn errors from to
  pub counted : given new ≡ given old + 1
  pub limit_now : limit new ≡ limit old
  pub past_now : past new ≡ past old

-- What a call that gives the next content promises, which is a line, put into `line`, or a comment: of all but a comment what a call
-- that gives the next line does.
abbrev pub IsNextContent : {R : Type 0} → (R → Option (List ℕ)) → (R → Option ℕ) → LineReader → Source R → Result Content LineFault → Line
    → LineReader → Source R → Type 0
IsNextContent remaining errors old from (Ok content.Comment) line new to = HasPassedComment remaining errors old from new to
IsNextContent remaining errors old from (Ok content.Line) line new to =
    IsNextBy remaining errors InFeed old from (Ok (Some line)) new to × (is_comment line ≡ false)
IsNextContent remaining errors old from (Ok content.End) line new to = IsNextBy remaining errors InFeed old from (Ok None) new to
IsNextContent remaining errors old from (Err fault) line new to =
    IsNextBy remaining errors InFeed old from (Err fault) new to × (fault ≢ Read → IsNoComment remaining old from)

-- What a call that passes the next content comes to: a content was given, which the others make a line or a comment; else it answers as
-- they do.
abbrev pub PassesContent : {R : Type 0} → (R → Option (List ℕ)) → (R → Option ℕ) → Most → LineReader → Source R → Result Bool LineFault
    → LineReader → Source R → Type 0
PassesContent remaining errors most old from (Ok true) new to = (past old ≡ Reading)
    × IsNextWithin remaining errors most old.contents from (Ok next.Content) new.contents to × (past new ≡ Reading)
PassesContent remaining errors most old from (Ok false) new to = IsNextBy remaining errors most old from (Ok None) new to
PassesContent remaining errors most old from (Err fault) new to = IsNextBy remaining errors most old from (Err fault) new to
    × (most ≡ InFeed → fault ≢ Read → IsNoComment remaining old from)
