-- Unless memory ran out, the schedule is put together from the steps, with the parts in the lines.
use Rattle.cif_extract.proofs.Names.{BodyLines, List, Progress, Schedule, Some, [], ap, progress_of, schedule_of, sym, ◌++◌, ◌∙◌, ◌∷◌}
use Rattle.cif_extract.proofs.Schedules.{closed_some}
use Rattle.cif_extract.proofs.reading.Reading.close.Goals as goal

pub returns : goal.returns
returns c =
    let before : Progress = progress_of c.args.self.now in
    let runs = c.requires.runs in
    ap (λ (schedules : List Schedule). record before { schedules = schedules })
    (c.in_ok-push.ensures.items ∙ ap (λ (s : Schedule). before.schedules ++ (s ∷ []))
    (c.of.ensures runs ∙ ap (λ (b : BodyLines). schedule_of c.args.terms (Some b) runs) c.in_ok-body.ensures)
    ∙ sym (closed_some before.schedules c.args.terms before.lines runs))
