-- Each kind of records is changed by itself.
use Rattle.cif_feed.proofs.Names.{ap, append_assoc, last_line, published_parts, refused_header, reported_once, update_parts, ◌++◌, ◌∙◌}
use Rattle.cif_feed.proofs.UpdatesInTurn.{reported-three}
use Rattle.cif_feed.proofs.published_extract.PublishedExtract.update.Goals as goal

pub returns-clause-refused : goal.returns-clause-refused
returns-clause-refused c =
    let first = refused_header (update_parts c.args.update) (published_parts c.args.self.now) in
    let ts = c.in_ok-of_tiplocs.of_tiplocs.items in
    let aas = c.in_ok-of_associations.of_associations.items in
    let ss = c.in_ok-of_schedules.of_schedules.items in
    record {
      tiplocs = ts;
      of_tiplocs = c.in_ok-of_tiplocs.ensures.refused;
      associations = aas;
      of_associations = c.in_ok-of_associations.ensures.refused;
      schedules = ss;
      of_schedules = c.in_ok-of_schedules.ensures.refused;
      are = rw (
        c.in_ok-report_once.ensures.reported,
        c.in_ok-last-2.ensures.reported,
        c.in_ok-last-2.ensures.last,
        c.in_ok-last.ensures.reported,
        c.in_ok-last.ensures.last,
        c.in_ok-refused.ensures,
        c.as_slice.ensures.value,
        c.as_slice-2.ensures.value,
        c.as_slice-3.ensures.value,
      )
          (append_assoc (first ++ reported_once 0 ts) (reported_once (last_line 0 ts) aas)
          (reported_once (last_line (last_line 0 ts) aas) ss)
          ∙ append_assoc first (reported_once 0 ts)
          (reported_once (last_line 0 ts) aas ++ reported_once (last_line (last_line 0 ts) aas) ss)
          ∙ ap (λ l. first ++ l) (reported-three ts aas ss));
    }
