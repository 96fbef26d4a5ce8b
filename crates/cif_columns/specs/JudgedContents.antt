-- The contents that are judged one by one: each of any length, but the first that is overlong is the last.
use Rattle.std.specs.Prelude.{◌≡◌, ℕ, ◌≤◌, Bool, false, List, [], ◌∷◌, ◌++◌, length, nat_le, if◌then◌else◌}
use Rattle.std.specs.{List.list_any, List.slice_split, Str.Lines.lines_of_parts}
use Rattle.cif_columns.specs.{Contents.contents_of, FirstLine.is_line_feed}

-- the parts between line feeds
abbrev pub parts_of : List ℕ → List (List ℕ)
parts_of bytes = slice_split is_line_feed bytes

-- a part is so long that none of the first 10,000 bytes from where it begins is a line feed
abbrev pub is_overlong : List ℕ → Bool
is_overlong part = nat_le 10000 (length part)

-- the parts up to the first such
abbrev pub up_to_overlong : List (List ℕ) → List (List ℕ)
up_to_overlong [] = []
up_to_overlong (part ∷ parts) = part ∷ (if is_overlong part then [] else up_to_overlong parts)

-- the contents of these parts
unfoldable pub judged_contents : List ℕ → List (List ℕ)
judged_contents bytes = lines_of_parts (up_to_overlong (parts_of bytes))

-- one of the contents is overlong
unfoldable pub has_overlong : List ℕ → Bool
has_overlong bytes = list_any is_overlong (parts_of bytes)

-- Where at most max contents may come, more may follow these bytes: they are no more contents than that, and none of them is overlong.
pub record MayGoOn (max : ℕ) (bytes : List ℕ) : Type 0 where
  pub none_overlong : has_overlong bytes ≡ false
  pub within : length (contents_of bytes) ≤ max

-- A source gave all of these bytes but those unread, and this holds of what it gave.
pub record IsGiven (P : List ℕ → Type 0) (bytes unread : List ℕ) : Type 0 where
  pub before : List ℕ
  pub parts : bytes ≡ before ++ unread
  pub fact : P before
