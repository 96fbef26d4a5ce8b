-- A line spells at most one first location, and there is no reason to refuse a line that spells one.
use Rattle.cif_records.proofs.Names.{FieldValue, List, None, Option, Origin, SpellsOrigin, all_read, all_read-stands, ap, codes_value}
use Rattle.cif_records.proofs.Names.{columns_in, get_or, one_table, origin_in, origin_refusal, origin_table, public_time_in-stands, refl}
use Rattle.cif_records.proofs.Names.{work_time_in-stands, ℕ, ◌≡◌}

-- the location of a table's values
abbrev origin_of : List (Option FieldValue) → Origin
origin_of vs = record {
  location = columns_in (get_or vs 1 None);
  suffix = columns_in (get_or vs 2 None);
  departure = columns_in (get_or vs 3 None);
  public_departure = columns_in (get_or vs 4 None);
  platform = columns_in (get_or vs 5 None);
  line = columns_in (get_or vs 6 None);
  engineering = columns_in (get_or vs 7 None);
  pathing = columns_in (get_or vs 8 None);
  activities = codes_value (get_or vs 9 None);
  performance = columns_in (get_or vs 10 None);
}

pub one_origin : (line : List ℕ) (r q : Origin) → SpellsOrigin line r → SpellsOrigin line q → r ≡ q
one_origin line r q p s = ap origin_of (one_table line (origin_table r) (origin_table q) refl p s)

-- what a line spells is what stands in it
pub origin_in-spells : (line : List ℕ) (r : Origin) → SpellsOrigin line r → origin_in line ≡ r
unfolding all_read
origin_in-spells line r s = ap origin_of (all_read-stands line (origin_table r) s)

pub no_refusal : (line : List ℕ) (r : Origin) → SpellsOrigin line r → origin_refusal line ≡ None
unfolding origin_refusal
no_refusal line r p = rw (p.0, work_time_in-stands _ _ p.1.1.1.0, public_time_in-stands _ _ p.1.1.1.1.0)
