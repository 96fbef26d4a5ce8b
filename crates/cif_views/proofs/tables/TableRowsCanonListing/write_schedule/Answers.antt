-- The rows of the lines that follow are those of the schedule (`calls-of_lines`, `changes-of_lines`).
use Rattle.cif_views.proofs.Names.{ap, append-nil, false, flat_map, journey_rows, schedule_plain, sym, true, ◌∙◌}
use Rattle.cif_canon.proofs.AppendedTexts.{nothing, text-is}
use Rattle.cif_views.proofs.RowNames.{row_text}
use Rattle.cif_views.proofs.TableRows.{calls-of_lines, changes-of_lines}
use Rattle.cif_views.proofs.tables.TableRowsCanonListing.write_schedule.Goals as goal

pub returns-in-Schedules : goal.returns-in-Schedules
returns-in-Schedules g c = rw c.in-Schedules.is (text-is _ _ _ _ _ _ (sym (append-nil _)) c.write_schedule.ensures)

pub returns-in-Calls : goal.returns-in-Calls
returns-in-Calls g c = rw c.in-Calls.is
    (text-is _ _ _ _ _ _
    (ap (flat_map (row_text g.F.RowFormat.FORMAT))
    (ap (journey_rows true c.args.number) c.further.ensures ∙ calls-of_lines c.args.number (schedule_plain c.args.schedule.now)))
    c.write_journey.ensures)

pub returns-in-Changes : goal.returns-in-Changes
returns-in-Changes g c = rw c.in-Changes.is
    (text-is _ _ _ _ _ _
    (ap (flat_map (row_text g.F.RowFormat.FORMAT))
    (ap (journey_rows false c.args.number) c.further-in-Changes.ensures
    ∙ changes-of_lines c.args.number (schedule_plain c.args.schedule.now)))
    c.write_journey-in-Changes.ensures)

pub returns-in-Header : goal.returns-in-Header
returns-in-Header g c = rw c.in-Header.is (nothing _ _ _)

pub returns-in-Tiplocs : goal.returns-in-Tiplocs
returns-in-Tiplocs g c = rw c.in-Tiplocs.is (nothing _ _ _)

pub returns-in-Associations : goal.returns-in-Associations
returns-in-Associations g c = rw c.in-Associations.is (nothing _ _ _)
