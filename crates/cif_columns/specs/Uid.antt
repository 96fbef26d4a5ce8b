-- Unique identities: six columns as they stand.
use Rattle.std.specs.Prelude.{◌≡◌, ℕ, List, length}
use Rattle.cif_columns.specs.Line.{ArePrintable}

-- what an identity may be
pub record IsUid (uid : List ℕ) : Type 0 where
  pub width : length uid ≡ 6
  pub printable : ArePrintable uid

-- the columns are the identity
abbrev pub StandsIn : List ℕ → List ℕ → Type 0
StandsIn columns uid = columns ≡ uid
