-- The one file's bytes have to be named as a canonical form: then the other's uniqueness says that bytes that are equal after the
-- header's line mean the same, as both have the window that was asked for.
use Rattle.std.proofs.Common.{◌≡◌, ◌∙◌, ap, rules, subst, sym}
use Rattle.std.specs.Cmp.Lexicographic.{bytes_decides}
use Rattle.cif_columns.specs.Sink.{writer_of}
use Rattle.cif_weeks.specs.Window.{Window}
use Rattle.cif_weeks.specs.declared.form.Form.TheVariants.{Two}
use Rattle.cif_canon.specs.Meaning.{Agree}
use Rattle.cif_canon.specs.NormalForm.{IsNormalFormOf, after_first_line}
use Rattle.example_archive.specs.Archive.{AreCanonicalBytes, dates}
use Rattle.example_archive.proofs.Archived.{accepted, window_is}
use Rattle.example_archive.proofs.agree.Goals as goal

-- canonical bytes are unique, and the answer is whether they are equal after the header's line
pub returns : goal.returns
returns c =
    let from = c.args.from in
    let to = c.args.to in
    let one = c.in_ok-one.ensures in
    let other = c.in_ok-other.ensures in
    let one_bytes = (writer_of c.in_ok-one.one).items in
    let other_bytes = (writer_of c.in_ok-other.other).items in
    let normal : IsNormalFormOf Two (dates from to) c.args.one.now one_bytes =
    record { meant = one.1.meant; accepted = accepted from to c.args.one.now one_bytes one; canonical = one.1.canonical } in
    let window = window_is from to c.args.one.now one_bytes one in
    let other_window = window_is from to c.args.other.now other_bytes other in
    let unique = other.1.unique.after_header (dates from to) c.args.one.now one_bytes normal (window ∙ sym other_window) in
    let read : c.after_header.result.now ≡ after_first_line one_bytes = search rules in
    let read_other : c.after_header-2.result.now ≡ after_first_line other_bytes = search rules in
    let decided = bytes_decides c.after_header.result.now c.after_header-2.result.now in
    record {
      x = one.1.meant;
      x_accepted = accepted from to c.args.one.now one_bytes one;
      y = other.1.meant;
      y_accepted = accepted from to c.args.other.now other_bytes other;
      agree = (
        λ same. subst (λ (w : Window). Agree w one.1.meant other.1.meant) other_window
            (unique.0 (sym read ∙ (decided.0 (sym c.eq.ensures ∙ same) ∙ read_other))),
        λ agree. c.eq.ensures ∙ decided.1 (read ∙ (unique.1
            (subst (λ (w : Window). Agree w one.1.meant other.1.meant) (sym other_window) agree) ∙ sym read_other)),
      );
    }
