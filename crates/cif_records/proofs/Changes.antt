-- A line spells a change of a train on the way of a journey in one way at most, and there is no reason to refuse a line that spells one.
use Rattle.cif_records.proofs.Names.{Change, FieldValue, List, None, Option, SpellsChange, all_read, all_read-stands, ap, change_in}
use Rattle.cif_records.proofs.Names.{change_refusal, change_table, columns_in, get_or, one_table, refl, ℕ, ◌≡◌}

-- the record of a table's values
abbrev change_of : List (Option FieldValue) → Change
change_of vs = record {
  location = columns_in (get_or vs 1 None);
  suffix = columns_in (get_or vs 2 None);
  category = columns_in (get_or vs 3 None);
  identity = columns_in (get_or vs 4 None);
  headcode = columns_in (get_or vs 5 None);
  course = columns_in (get_or vs 6 None);
  service_code = columns_in (get_or vs 7 None);
  sector = columns_in (get_or vs 8 None);
  power = columns_in (get_or vs 9 None);
  timing_load = columns_in (get_or vs 10 None);
  speed = columns_in (get_or vs 11 None);
  characteristics = columns_in (get_or vs 12 None);
  class = columns_in (get_or vs 13 None);
  sleepers = columns_in (get_or vs 14 None);
  reservations = columns_in (get_or vs 15 None);
  connection = columns_in (get_or vs 16 None);
  catering = columns_in (get_or vs 17 None);
  branding = columns_in (get_or vs 18 None);
  traction = columns_in (get_or vs 19 None);
  uic = columns_in (get_or vs 20 None);
  reserved_a = columns_in (get_or vs 21 None);
}

pub one_change : (line : List ℕ) (r q : Change) → SpellsChange line r → SpellsChange line q → r ≡ q
one_change line r q p s = ap change_of (one_table line (change_table r) (change_table q) refl p s)

-- what a line spells is what stands in it
pub change_in-spells : (line : List ℕ) (r : Change) → SpellsChange line r → change_in line ≡ r
unfolding all_read
change_in-spells line r s = ap change_of (all_read-stands line (change_table r) s)

pub no_refusal : (line : List ℕ) (r : Change) → SpellsChange line r → change_refusal line ≡ None
unfolding change_refusal
no_refusal line r p = rw p.0
