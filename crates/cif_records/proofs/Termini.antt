-- A line spells the last location of a journey in one way at most, and there is no reason to refuse a line that spells one.
use Rattle.cif_records.proofs.Names.{FieldValue, List, None, Option, SpellsTerminus, Terminus, all_read, all_read-stands, ap, codes_value}
use Rattle.cif_records.proofs.Names.{columns_in, get_or, one_table, public_time_in-stands, refl, terminus_in, terminus_refusal}
use Rattle.cif_records.proofs.Names.{terminus_table, work_time_in-stands, ℕ, ◌≡◌}

-- the record of a table's values
abbrev terminus_of : List (Option FieldValue) → Terminus
terminus_of vs = record {
  location = columns_in (get_or vs 1 None);
  suffix = columns_in (get_or vs 2 None);
  arrival = columns_in (get_or vs 3 None);
  public_arrival = columns_in (get_or vs 4 None);
  platform = columns_in (get_or vs 5 None);
  path = columns_in (get_or vs 6 None);
  activities = codes_value (get_or vs 7 None);
}

pub one_terminus : (line : List ℕ) (r q : Terminus) → SpellsTerminus line r → SpellsTerminus line q → r ≡ q
one_terminus line r q p s = ap terminus_of (one_table line (terminus_table r) (terminus_table q) refl p s)

-- what a line spells is what stands in it
pub terminus_in-spells : (line : List ℕ) (r : Terminus) → SpellsTerminus line r → terminus_in line ≡ r
unfolding all_read
terminus_in-spells line r s = ap terminus_of (all_read-stands line (terminus_table r) s)

pub no_refusal : (line : List ℕ) (r : Terminus) → SpellsTerminus line r → terminus_refusal line ≡ None
unfolding terminus_refusal
no_refusal line r p = rw (p.0, work_time_in-stands _ _ p.1.1.1.0, public_time_in-stands _ _ p.1.1.1.1.0)
