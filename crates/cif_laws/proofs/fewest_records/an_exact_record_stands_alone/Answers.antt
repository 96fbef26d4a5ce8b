-- What is made is canonical in the extract's window (`alone-is`).
use Rattle.std.specs.{Cmp.Lexicographic.slice_cmp, Ordering.nat_cmp}
use Rattle.cif_canon.specs.Asked.{header_window}
use Rattle.cif_laws.proofs.{CanonicalWindows.associations-in, CanonicalWindows.schedules-in, FewestRecords.alone-is}
use Rattle.cif_records.specs.AssocKey.{key_cmp}
use Rattle.cif_weeks.specs.declared.form.Form.TheVariants.{Three}
use Rattle.cif_laws.proofs.fewest_records.an_exact_record_stands_alone.Goals as goal

pub returns-clause-associations : goal.returns-clause-associations
returns-clause-associations c x bytes made k b first last days e all = alone-is key_cmp (header_window x.header) _
    (associations-in Three x made.made made.same made.canonical.canonical) k _ made.same.agree.associations b first last days e all

pub returns-clause-schedules : goal.returns-clause-schedules
returns-clause-schedules c x bytes made k b first last days e all = alone-is (slice_cmp nat_cmp) (header_window x.header) _
    (schedules-in Three x made.made made.same made.canonical.canonical) k _ made.same.agree.schedules b first last days e all
