-- The locations of a canonical extract.
use Rattle.std.specs.Prelude.{◌≡◌, ◌↔◌, List, AllPairs, Contains}
use Rattle.std.specs.{Cmp.Lexicographic.slice_cmp, Ordering.nat_cmp, declared.cmp.Ordering.TheVariants.Less}
use Rattle.cif_records.specs.declared.tiploc.Tiploc.{Tiploc}

-- these are the locations, each once, and they rise strictly by their columns
pub record AreDistinct (tiplocs distinct : List Tiploc) : Type 0 where
  pub rising : AllPairs (λ s t. slice_cmp nat_cmp s.columns t.columns ≡ Less) distinct
  pub members : (t : Tiploc) → Contains tiplocs t ↔ Contains distinct t
