-- A line spells a location on the way of a journey in one way at most, and there is no reason to refuse a line that spells one.
use Rattle.cif_records.proofs.Names.{FieldValue, List, None, Option, SpellsStop, Stop, all_read, all_read-stands, ap, codes_value}
use Rattle.cif_records.proofs.Names.{columns_in, get_or, one_table, public_time_in-stands, refl, stop_in, stop_refusal, stop_table}
use Rattle.cif_records.proofs.Names.{work_time_in-stands, ℕ, ◌≡◌}

-- the record of a table's values
abbrev stop_of : List (Option FieldValue) → Stop
stop_of vs = record {
  location = columns_in (get_or vs 1 None);
  suffix = columns_in (get_or vs 2 None);
  arrival = columns_in (get_or vs 3 None);
  departure = columns_in (get_or vs 4 None);
  pass = columns_in (get_or vs 5 None);
  public_arrival = columns_in (get_or vs 6 None);
  public_departure = columns_in (get_or vs 7 None);
  platform = columns_in (get_or vs 8 None);
  line = columns_in (get_or vs 9 None);
  path = columns_in (get_or vs 10 None);
  activities = codes_value (get_or vs 11 None);
  engineering = columns_in (get_or vs 12 None);
  pathing = columns_in (get_or vs 13 None);
  performance = columns_in (get_or vs 14 None);
}

pub one_stop : (line : List ℕ) (r q : Stop) → SpellsStop line r → SpellsStop line q → r ≡ q
one_stop line r q p s = ap stop_of (one_table line (stop_table r) (stop_table q) refl p s)

-- what a line spells is what stands in it
pub stop_in-spells : (line : List ℕ) (r : Stop) → SpellsStop line r → stop_in line ≡ r
unfolding all_read
stop_in-spells line r s = ap stop_of (all_read-stands line (stop_table r) s)

pub no_refusal : (line : List ℕ) (r : Stop) → SpellsStop line r → stop_refusal line ≡ None
unfolding stop_refusal
no_refusal line r p =
    rw (
      p.0,
      work_time_in-stands _ _ p.1.1.1.0,
      work_time_in-stands _ _ p.1.1.1.1.0,
      work_time_in-stands _ _ p.1.1.1.1.1.0,
      public_time_in-stands _ _ p.1.1.1.1.1.1.0,
      public_time_in-stands _ _ p.1.1.1.1.1.1.1.0,
    )
