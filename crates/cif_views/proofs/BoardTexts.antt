-- The end of a train in a line of text.
use Rattle.cif_views.proofs.Names.{List, [], arith, length, length-take-le, refl, take, used, ℕ, ◌<◌, ◌≡◌, ◌≤◌}
use Rattle.cif_views.specs.Boards.{or_else}
use Rattle.std.specs.Prelude.{◌∷◌}

pub or-some : (cell other : List ℕ) → 0 < length cell → cell ≡ or_else cell other
or-some [] other some = absurd (omega (arith, some))
or-some (b ∷ cell) other some = refl

pub or-none : (cell other : List ℕ) → length cell ≤ 0 → other ≡ or_else cell other
or-none [] other none = refl
or-none (b ∷ cell) other none = absurd (omega (arith, none))
