-- What is listed of the runs is what is listed of their lines, with their numbers (`numbered-texts`).
use Rattle.cif_canon.proofs.Names.{CanonParts, ScheduleLines, ap, canon_lines, enumerate_from, flat_map, schedule_entries, ℕ, ◌∙◌}
use Rattle.cif_canon.proofs.{AppendedTexts.text-is, CanonLines.numbered-texts}
use Rattle.cif_canon.proofs.canonical_form.Canon.list_schedules.Goals as goal

pub returns : goal.returns
unfolding canon_lines
returns g c =
    let e = c.self.inside in
    let text = g.L.CanonListing.schedule_text c.args.listing.now in
    text-is _ _ _ _ _ _
    (numbered-texts text (schedule_entries e.extract.now.schedules.items) 1 e.schedules.items c.self.invariant.1
    ∙ ap (λ (v : CanonParts). flat_map (λ (s : ℕ × ScheduleLines). text s.0 s.1) (enumerate_from 1 v.lines.schedules)) c.self.view_is)
    (rw (c.as_slice.ensures.value, c.as_slice-2.ensures.value) at c.list_runs.ensures)
