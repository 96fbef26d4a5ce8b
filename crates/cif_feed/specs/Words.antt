-- The words of a text.
use Rattle.std.specs.Prelude.{ℕ, ◌==◌, nat_lt, Bool, List, length, filter}
use Rattle.std.specs.List.{slice_split}

-- a space
abbrev pub is_space : ℕ → Bool
is_space b = b == 32

-- what stands between spaces, where that isn't nothing
unfoldable pub words_in : List ℕ → List (List ℕ)
words_in bytes = filter (λ word. nat_lt 0 (length word)) (slice_split is_space bytes)
