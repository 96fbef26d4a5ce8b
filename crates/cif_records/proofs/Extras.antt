-- A line spells further details of a schedule in one way at most, and there is no reason to refuse a line that spells one.
use Rattle.cif_records.proofs.Names.{Extra, FieldValue, List, None, Option, SpellsExtra, all_read, all_read-stands, ap, columns_in}
use Rattle.cif_records.proofs.Names.{extra_in, extra_refusal, extra_table, get_or, one_table, refl, ℕ, ◌≡◌}

-- the record of a table's values
abbrev extra_of : List (Option FieldValue) → Extra
extra_of vs = record {
  traction = columns_in (get_or vs 1 None);
  uic = columns_in (get_or vs 2 None);
  operator_code = columns_in (get_or vs 3 None);
  timetable_code = columns_in (get_or vs 4 None);
  reserved_a = columns_in (get_or vs 5 None);
  reserved_b = columns_in (get_or vs 6 None);
}

pub one_extra : (line : List ℕ) (r q : Extra) → SpellsExtra line r → SpellsExtra line q → r ≡ q
one_extra line r q p s = ap extra_of (one_table line (extra_table r) (extra_table q) refl p s)

-- what a line spells is what stands in it
pub extra_in-spells : (line : List ℕ) (r : Extra) → SpellsExtra line r → extra_in line ≡ r
unfolding all_read
extra_in-spells line r s = ap extra_of (all_read-stands line (extra_table r) s)

pub no_refusal : (line : List ℕ) (r : Extra) → SpellsExtra line r → extra_refusal line ≡ None
unfolding extra_refusal
no_refusal line r p = rw p.0
