-- The text is a fold over runs: one more goes behind it (`one-more`); each run has a record on its side.
use Rattle.cif_canon.proofs.Names.{HasSidedRecord, ap, keyed, sided_run_text, subst, sym, text_if}
use Rattle.cif_canon.proofs.AppendedTexts.{all-items, one-more, text-is}
use Rattle.cif_canon.proofs.difference_lines.write_sided_runs.Goals as goal

pub loop-run-preserved : goal.loop-run-preserved
loop-run-preserved g c =
    let text = g.L.Texts.text c.args.texts.now in
    one-more _ _ (sided_run_text text (keyed g.E.Entry.key g.E.Entry.terms c.args.left.now)
    (keyed g.E.Entry.key g.E.Entry.terms c.args.right.now))
    c.args.runs.now c.loop-run.run-index _ _ c.loop-run.invariant c.run-item.result _ c.loop-run-test.true c.run-item.is
    (text-is _ _ _ _ _ _ (ap (text_if (λ e. text (record { side = c.run-item.result.side; it = e }))) (sym c.sided_record-record.ensures))
    c.write.ensures)

pub sided_record-record-requires : goal.sided_record-record-requires
sided_record-record-requires g c =
    subst (HasSidedRecord (keyed g.E.Entry.key g.E.Entry.terms c.args.left.now) (keyed g.E.Entry.key g.E.Entry.terms c.args.right.now))
    (sym c.run-item.is)
    (c.requires c.loop-run.run-index c.run-item.result c.loop-run-test.true)

pub returns : goal.returns
returns g c =
    all-items _ _ (sided_run_text (g.L.Texts.text c.args.texts.now) (keyed g.E.Entry.key g.E.Entry.terms c.args.left.now)
    (keyed g.E.Entry.key g.E.Entry.terms c.args.right.now))
    c.args.runs.now c.loop-run.run-index _ _ c.loop-run.invariant c.loop-run-test.false
