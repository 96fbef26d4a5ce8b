-- Columns 3 to 60 are kept at once: `full-behind` and its like number them as in the line, for the type and for the table.
use Rattle.cif_records.proofs.Names.{IsPrintable, ap, arith, columns, ddmmyy_in, length-columns, lit<, refl, sym, ◌∙◌}
use Rattle.std.proofs.lemmas.List.Elements.{All-set}
use Rattle.cif_records.proofs.Headers.{digits_of, full-before, full-behind, full-there, full-wide, no_refusal, one_header}
use Rattle.cif_records.proofs.{Judging.only, Rows.◌&◌}
use Rattle.cif_records.proofs.header.Header.read_by.Goals as goal

pub invariant_of-result : goal.invariant_of-result
invariant_of-result c =
    let line = c.args.line.now in
    let old = c.columns_at-columns.ensures in
    let wide = length-columns 3 60 line old.line (omega arith) (omega arith) (omega arith) in
    let found = c.in-Ok.ensures.1 in
    record {
      wide = rw old.value (full-wide line wide);
      printable = All-set IsPrintable _ 44 70 (omega arith, omega arith) old.printable;
      full = rw old.value (full-there line wide);
      first_stands = rw old.value (ap ddmmyy_in (full-behind line wide 46 6 6 (lit< tt) refl) ∙ found.2);
      last_stands = rw old.value (ap ddmmyy_in (full-behind line wide 52 6 0 (lit< tt) refl) ∙ found.3);
      in_order = c.in-Ok.dates.in_order;
    }

pub returns-in-Ok-clause-exact : goal.returns-in-Ok-clause-exact
returns-in-Ok-clause-exact c =
    let line = c.args.line.now in
    let value = c.columns_at-columns.ensures.value in
    let is_line = c.columns_at-columns.ensures.line in
    let wide = length-columns 3 60 line is_line (omega arith) (omega arith) (omega arith) in
    let found = c.in-Ok.ensures.1 in
    c.in-Ok.ensures.0
    & found.0
    & rw value (sym (full-before line wide))
    & found.1
    & rw value (sym (full-behind line wide 45 1 12 (lit< tt) refl))
    & digits_of (columns 49 54 line) c.in-Ok.dates.first
    (length-columns 49 54 line is_line (omega arith) (omega arith) (omega arith)) found.2
    & digits_of (columns 55 60 line) c.in-Ok.dates.last
    (length-columns 55 60 line is_line (omega arith) (omega arith) (omega arith)) found.3
    & tt & tt

pub returns-in-Ok-clause-only : goal.returns-in-Ok-clause-only
returns-in-Ok-clause-only c r h =
    only _ _ _ (one_header c.args.line.now c.args.indicator.now) (no_refusal c.args.line.now c.args.indicator.now)
    (returns-in-Ok-clause-exact c) r h

pub returns-in-Err-clause-only : goal.returns-in-Err-clause-only
returns-in-Err-clause-only c r h =
    only _ _ _ (one_header c.args.line.now c.args.indicator.now) (no_refusal c.args.line.now c.args.indicator.now) c.in-Err.ensures r h
