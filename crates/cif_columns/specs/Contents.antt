-- The contents of bytes, the lines among them, and why a content is no line.
use Rattle.std.specs.Prelude.{◌≡◌, ◌≢◌, ◌⊎◌, ℕ, ◌<◌, ◌≤◌, List, [], ◌∷◌, ◌++◌, length, take, slice_index, All, if◌then◌else◌}
use Rattle.std.specs.{List.flat_map, Str.Lines.lines, Str.Lines.strip_carriage_return}
use Rattle.cif_columns.specs.{Comment.begins_comment, Line.ArePrintable}
use Rattle.cif_columns.specs.declared.{ahead.Most.Most, ahead.Most.TheVariants.InFeed, ahead.Most.TheVariants.Of, refusal.Refusal.Refusal}
use Rattle.cif_columns.specs.declared.refusal.Refusal.TheVariants.{BadLength, BadByte, TooManyLines}

-- The parts between line feeds, as `str::lines` gives them: an empty last part doesn't count, and a part that a line
-- feed follows loses one carriage return at its end.
abbrev pub contents_of : List ℕ → List (List ℕ)
contents_of bytes = lines bytes

-- the text of lines, each with a line feed
abbrev pub lines_text : List (List ℕ) → List ℕ
lines_text lines = flat_map (λ line. line ++ (10 ∷ [])) lines

-- the line stands first, rest after it: a line feed ends the line, or a carriage return and a line feed, or the end of the bytes
abbrev pub StandsFirst : List ℕ → List ℕ → List ℕ → Type 0
StandsFirst bytes line rest = (bytes ≡ line ++ 10 ∷ rest) ⊎ ((bytes ≡ line ++ 13 ∷ 10 ∷ rest) ⊎ ((bytes ≡ line) × (rest ≡ [])))

-- it is the first content of the bytes, and rest is left after it
pub record IsFirstContent (bytes content rest : List ℕ) : Type 0 where
  pub stands : StandsFirst bytes content rest
  pub contents : contents_of bytes ≡ content ∷ contents_of rest

-- why the content of this number, counted from 1, is refused where max lines may come: of the three reasons the first
abbrev pub HasLineReason : ℕ → ℕ → List ℕ → Refusal → Type 0
HasLineReason max number content TooManyLines = max < number
HasLineReason max number content BadLength = (number ≤ max) × (length content ≢ 80)
HasLineReason max number content BadByte = (number ≤ max) × (length content ≡ 80) × (¬ ArePrintable content)
HasLineReason max number content _ = ⊥

-- the three reasons
abbrev pub IsLineReason : Refusal → Type 0
IsLineReason TooManyLines = Unit {0}
IsLineReason BadLength = Unit {0}
IsLineReason BadByte = Unit {0}
IsLineReason _ = ⊥

-- ---- contents that have fewer than so many bytes up to their line feeds

-- With how many bytes and no line feed among them a content that begins as these do is overlong: in a feed a comment with two more than
-- it may have, any other with two more than a line has.
abbrev pub most_by : Most → List ℕ → ℕ
most_by (Of most) bytes = most
most_by InFeed bytes = if begins_comment bytes then 1002 else 82

-- none of the bytes is a line feed
abbrev pub HaveNoFeed : List ℕ → Type 0
HaveNoFeed bytes = All (λ b. b ≢ 10) bytes

-- a line feed stands at this place, and none before it, where fewer bytes stand
pub record IsFirstFeed (most : ℕ) (bytes : List ℕ) (place : ℕ) : Type 0 where
  pub short : place < most
  pub within : place < length bytes
  pub no_feed : HaveNoFeed (take place bytes)
  pub feed : slice_index bytes place ≡ 10

-- The content stands first in the bytes, and rest after it: a line feed ends it, without the carriage return before that.
pub record EndsAtFeed (most : ℕ) (bytes content rest : List ℕ) : Type 0 where
  pub part : List ℕ
  pub no_feed : HaveNoFeed part
  pub short : length part < most
  pub parts : bytes ≡ part ++ 10 ∷ rest
  pub is : content ≡ strip_carriage_return part

-- or the end of the bytes does
pub record EndsAtEnd (most : ℕ) (bytes content rest : List ℕ) : Type 0 where
  pub some : 0 < length bytes
  pub no_feed : HaveNoFeed bytes
  pub short : length bytes < most
  pub is : content ≡ bytes
  pub none : rest ≡ []

-- it comes first in one of these ways
abbrev pub ComesFirst : ℕ → List ℕ → List ℕ → List ℕ → Type 0
ComesFirst most bytes content rest = EndsAtFeed most bytes content rest ⊎ EndsAtEnd most bytes content rest

-- the bytes begin with a content that has so many bytes or more
pub record BeginOverlong (most : ℕ) (bytes : List ℕ) : Type 0 where
  pub long : most ≤ length bytes
  pub no_feed : HaveNoFeed (take most bytes)

-- the bytes decide no content, whatever follows them: no line feed ends one, and none is too long already
pub record AreUndecided (most : ℕ) (bytes : List ℕ) : Type 0 where
  pub no_feed : HaveNoFeed bytes
  pub short : length bytes < most

-- after so many contents of at most max: nor does one begin that is one too many
pub record DecideNoContent (most max given : ℕ) (bytes : List ℕ) : Type 0 where
  pub no_feed : HaveNoFeed bytes
  pub short : length bytes < most
  pub none_too_many : given ≡ max → bytes ≡ []
