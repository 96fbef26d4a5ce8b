-- A line that passes the test of its kind.
use Rattle.cif_records.proofs.Names.{IsLine, IsPlainLineOf, Kind, List, Some, ap, record_table, sym, ℕ, ◌∙◌, ◌≡◌}
use Rattle.cif_records.proofs.Records.{kind_of, kind_there, no_refusal}
use Rattle.cif_records.{specs.Record.IsPlainAs, specs.declared.record.Record.Record}

-- a line that is the plain line of a record, which no line spells that is refused
pub plain_as : (kind : Kind) (line : List ℕ) (r : Record) → kind ≡ kind_of r → IsLine line → IsPlainLineOf (record_table r) line
    → IsPlainAs kind line
plain_as kind line r is is_line plain =
    record {
      is_line = is_line;
      kind_there = kind_there line r plain.0 ∙ ap Some (sym is);
      fine = no_refusal line r plain.0;
      of = record { value = r; stands = plain.0; same = sym plain.1; again = plain.0 };
    }
