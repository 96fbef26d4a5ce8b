-- The winners whose table isn't written whole.
use Rattle.cif_feed.proofs.Names.{sym, ◌∙◌}
use Rattle.cif_feed.{proofs.WrittenWinners.failed-so, specs.Steps.Deciding.rows_of}
use Rattle.cif_feed.proofs.published_extract.PublishedExtract.append_winners.Goals as goal

pub returns-then-failed : goal.returns-then-failed
returns-then-failed g c = (
  rows_of c.args.self.now.schedules.items c.in_ok-runs.runs.items,
  c.in_ok-runs.dropped,
  c.in_ok-runs.ensures.winners,
  failed-so g.W.Write.contents g.W.WriteDevice.write_errors _ _ _
      (rw (c.as_slice.ensures.value, c.as_slice-2.ensures.value) at c.append_table.ensures)
      (sym c.failed.ensures ∙ c.if-failed.true),
)
