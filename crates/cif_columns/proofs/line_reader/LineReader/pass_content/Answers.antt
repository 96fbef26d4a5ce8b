-- What its contents gave is said of the lines by these lemmas.
use Rattle.cif_columns.proofs.Names.{ContentReader, Err, IsNextWithin, Ok, Overlong, ap, subst, sym, ◌+◌}
use Rattle.cif_columns.proofs.LineAnswers.{passes_fault, passes_overlong}
use Rattle.cif_columns.proofs.line_reader.LineReader.pass_content.Goals as goal

pub returns-in-Ok-Overlong : goal.returns-in-Ok-Overlong
returns-in-Ok-Overlong g c =
    let same = sym c.stop.ensures.contents in
    let next = rw c.in-Ok-Overlong.field-0-is at c.in-Ok-Overlong.ensures in
    rw c.stop.ensures.fault
    (passes_overlong c.in-Reading.is c.requires.some
    (subst (λ (r : ContentReader). IsNextWithin g.R.Read.remaining g.R.ReadDevice.read_errors c.args.most c.args.self.now.contents
    c.args.source.now (Ok Overlong) r c.next_within.new.source) same next) _ (ap (λ (r : ContentReader). r.given + 1) same)
    c.stop.ensures.past)

pub returns-in-Err : goal.returns-in-Err
returns-in-Err g c =
    let stop = c.stop-in-Err.ensures in
    rw stop.fault
    (passes_fault c.in-Reading.is c.in-Err.fault
    (subst (λ (r : ContentReader). IsNextWithin g.R.Read.remaining g.R.ReadDevice.read_errors c.args.most c.args.self.now.contents
    c.args.source.now (Err c.in-Err.fault) r c.next_within.new.source) (sym stop.contents) c.in-Err.ensures) stop.past)
