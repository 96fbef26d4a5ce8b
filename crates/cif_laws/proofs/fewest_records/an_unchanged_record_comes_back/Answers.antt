-- What is made is canonical in the extract's window (`unchanged-is`).
use Rattle.std.specs.{Cmp.Lexicographic.slice_cmp, Ordering.nat_cmp}
use Rattle.cif_canon.specs.Asked.{header_window}
use Rattle.cif_laws.proofs.{CanonicalWindows.associations-in, CanonicalWindows.schedules-in, FewestRecords.unchanged-is}
use Rattle.cif_records.specs.AssocKey.{key_cmp}
use Rattle.cif_weeks.specs.declared.form.Form.TheVariants.{Three}
use Rattle.cif_laws.proofs.fewest_records.an_unchanged_record_comes_back.Goals as goal

pub returns-clause-associations : goal.returns-clause-associations
returns-clause-associations c x bytes made k b r only body = unchanged-is key_cmp (header_window x.header) _
    (associations-in Three x made.made made.same made.canonical.canonical) k _ made.same.agree.associations r b only body

pub returns-clause-schedules : goal.returns-clause-schedules
returns-clause-schedules c x bytes made k b r only body = unchanged-is (slice_cmp nat_cmp) (header_window x.header) _
    (schedules-in Three x made.made made.same made.canonical.canonical) k _ made.same.agree.schedules r b only body
