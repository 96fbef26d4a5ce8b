-- What is made of the one is canonical in the other's window, and says the same (`no-more-of`).
use Rattle.std.specs.{Cmp.Lexicographic.slice_cmp, Ordering.nat_cmp}
use Rattle.cif_canon.proofs.SameExtracts.{same-trans}
use Rattle.cif_canon.specs.Asked.{header_window}
use Rattle.cif_laws.proofs.{CanonicalWindows.associations-in, CanonicalWindows.schedules-in, FewestRecords.no-more-of}
use Rattle.cif_records.specs.AssocKey.{key_cmp}
use Rattle.cif_weeks.specs.declared.form.Form.TheVariants.{Three}
use Rattle.cif_laws.proofs.fewest_records.form_three_has_the_fewest_records.Goals as goal

pub returns-clause-associations : goal.returns-clause-associations
returns-clause-associations c x y bytes made same d =
    let says = same-trans y x made.made same made.same in
    record {
      no_more = λ k b. no-more-of key_cmp (header_window y.header) _ (associations-in Three y made.made says made.canonical.canonical) k _
          says.agree.associations d b;
    }

pub returns-clause-schedules : goal.returns-clause-schedules
returns-clause-schedules c x y bytes made same d =
    let says = same-trans y x made.made same made.same in
    record {
      no_more = λ k b. no-more-of (slice_cmp nat_cmp) (header_window y.header) _
          (schedules-in Three y made.made says made.canonical.canonical)
          k _ says.agree.schedules d b;
    }
