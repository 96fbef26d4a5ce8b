-- Comments, which are contents that say nothing.
use Rattle.std.specs.Prelude.{ℕ, Bool, ◌&&◌, List, codes, length, nat_eq, nat_le}
use Rattle.std.specs.List.{starts_with}

-- the bytes begin with `/!!`
unfoldable pub begins_comment : List ℕ → Bool
begins_comment bytes = starts_with nat_eq bytes (codes "/!!")

-- it begins with `/!!`, and has at most 1,000 bytes, whatever they are
unfoldable pub is_comment : List ℕ → Bool
is_comment content = begins_comment content && nat_le (length content) 1000
