-- A line more is reported as `report_more` says; there are fewer lines so far than a reader gives.
use Rattle.cif_feed.proofs.Names.{ap, arith, cond, get_or, is_for, nat_eq, set, ◌+◌, ◌∙◌}
use Rattle.cif_feed.proofs.ReportedReasons.{at_most_all, report_more}
use Rattle.cif_feed.proofs.reasons.Reasons.count.Goals as goal

pub overflow_add-self : goal.overflow_add-self
overflow_add-self c =
    let (reasons, reported, numbered) = c.requires.reported in
    omega (
      arith,
      reported.lines c.args.why,
      at_most_all (is_for c.args.why) reasons,
      numbered,
      c.requires.line,
      ap (λ n. get_or c.args.self.now.lines n 0) c.place_of-place.ensures.place,
    )

pub returns : goal.returns
returns c = λ reasons reported numbered.
    let old = c.args.self.now in
    let place = c.place_of-place.ensures.place in
    report_more reasons c.args.why c.args.line old _ reported numbered (ap (λ n. set old.lines n (get_or old.lines n 0 + 1)) place)
    (ap (set old.first c.place_of-place.result) c.first_of.ensures
    ∙ ap (λ n. set old.first n (cond (nat_eq (get_or old.lines n 0) 0) c.args.line (get_or old.first n 0))) place) (omega arith)
    (omega arith)
