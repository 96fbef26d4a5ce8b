-- The contents that a `LineReader` gives of bytes, one after another, and how that ends: contents of which P holds, and so lines alone.
use Rattle.std.specs.Prelude.{◌≡◌, ◌⊎◌, ℕ, ◌+◌, ◌≤◌, List, [], ◌∷◌, ◌++◌, length, All, IsSomeAnd, false}
use Rattle.cif_columns.specs.declared.{ahead.Most.Most, ahead.Most.TheVariants.Of, refusal.LineFault.LineFault}
use Rattle.cif_columns.specs.declared.{refusal.LineFault.TheVariants.Read, refusal.LineFault.TheVariants.Refused, refusal.Refusal.Refusal}
use Rattle.cif_columns.specs.Contents.{contents_of, HasLineReason, DecideNoContent, most_by}
use Rattle.cif_columns.specs.{Line.IsLine, Source.Unread}

-- bytes that end with a line feed, or that nothing follows: their last line doesn't go on
abbrev pub EndsLine : List ℕ → List ℕ → Type 0
EndsLine bytes after = ((prefix : List ℕ) × (bytes ≡ prefix ++ 10 ∷ [])) ⊎ (after ≡ [])

-- the bytes are these whole contents, each with its ending, and then a rest
pub record AreWholeContentsAndRest (P : List ℕ → Type 0) (bytes : List ℕ) (lines : List (List ℕ)) (rest : List ℕ) : Type 0 where
  pub whole : List ℕ
  pub parts : bytes ≡ whole ++ rest
  pub ended : (whole ≡ []) ⊎ EndsLine whole rest
  pub contents : contents_of whole ≡ lines
  pub are_lines : All P lines

-- the contents of the bytes are these, at most max
pub record AreAllContents (P : List ℕ → Type 0) (max : ℕ) (bytes : List ℕ) (lines : List (List ℕ)) : Type 0 where
  pub contents : contents_of bytes ≡ lines
  pub are_lines : All P lines
  pub within : length lines ≤ max

-- the contents of the bytes begin with these, at most max, and the next is refused, with its number and the reason
pub record AreContentsToRefusal (P : List ℕ → Type 0) (max : ℕ) (bytes : List ℕ) (lines : List (List ℕ)) (number : ℕ)
    (why : Refusal) : Type 0 where
  pub content : List ℕ
  pub others : List (List ℕ)
  pub contents : contents_of bytes ≡ lines ++ content ∷ others
  pub are_lines : All P lines
  pub within : length lines ≤ max
  pub next : number ≡ length lines + 1
  pub reason : HasLineReason max number content why

-- Before it failed the source gave all of the bytes but those unread. What it gave are these whole contents, at most max, and a rest,
-- which decides no content.
pub record AreContentsToCut (P : List ℕ → Type 0) (most : Most) (max : ℕ) (bytes unread : List ℕ) (lines : List (List ℕ)) : Type 0 where
  pub before : List ℕ
  pub rest : List ℕ
  pub parts : bytes ≡ before ++ unread
  pub whole_lines_and_rest : AreWholeContentsAndRest P before lines rest
  pub within : length lines ≤ max
  pub undecided : DecideNoContent (most_by most rest) max (length lines) rest

-- The content of this number, where at most max may come, is decided by what the source gave: all of the bytes but those unread. These
-- are the contents before it and a rest, which decides it.
pub record IsContentDecidedWithin (P : List ℕ → Type 0) (most : Most) (max : ℕ) (bytes unread : List ℕ) (number : ℕ) : Type 0 where
  pub lines : List (List ℕ)
  pub before : List ℕ
  pub rest : List ℕ
  pub parts : bytes ≡ before ++ unread
  pub whole_lines_and_rest : AreWholeContentsAndRest P before lines rest
  pub numbered : number ≡ length lines + 1
  pub decided : ¬ DecideNoContent (most_by most rest) max (length lines) rest

-- The content of this number is decided, whatever follows: by what the source gave of the bytes, or else by the end that it reported.
abbrev pub IsDecidedWithinOrLast : (List ℕ → Type 0) → Most → ℕ → List ℕ → Unread → ℕ → Type 0
IsDecidedWithinOrLast P most max bytes after number = after.ended ≡ false → IsSomeAnd after.bytes
    (λ unread. IsContentDecidedWithin P most max bytes unread number)

-- the contents that were given of the bytes before this fault, where `after` is left then
abbrev pub AreContentsToFault : (List ℕ → Type 0) → Most → ℕ → List ℕ → Unread → List (List ℕ) → LineFault → Type 0
AreContentsToFault P most max bytes after lines (Refused number why) =
    AreContentsToRefusal P max bytes lines number why × IsDecidedWithinOrLast P most max bytes after number
AreContentsToFault P most max bytes after lines Read =
    IsSomeAnd after.bytes (λ unread. AreContentsToCut P most max bytes unread lines)

-- ---- lines alone

abbrev pub AreAllLines : ℕ → List ℕ → List (List ℕ) → Type 0
AreAllLines max bytes lines = AreAllContents IsLine max bytes lines

abbrev pub AreLinesToFailure : ℕ → List ℕ → List ℕ → List (List ℕ) → Type 0
AreLinesToFailure max bytes unread lines = AreContentsToCut IsLine (Of 82) max bytes unread lines

abbrev pub IsDecided : ℕ → List ℕ → Unread → ℕ → Type 0
IsDecided max bytes after number = IsDecidedWithinOrLast IsLine (Of 82) max bytes after number

abbrev pub AreLinesToFault : ℕ → List ℕ → Unread → List (List ℕ) → LineFault → Type 0
AreLinesToFault max bytes after lines fault = AreContentsToFault IsLine (Of 82) max bytes after lines fault
