-- The text is a fold over runs: one more goes behind it (`one-more`); each run has a record.
use Rattle.cif_canon.proofs.Names.{HasRecord, ap, keyed, run_text, subst, sym, text_if}
use Rattle.cif_canon.proofs.AppendedTexts.{all-items, one-more, text-is}
use Rattle.cif_canon.proofs.canonical_form.write_runs.Goals as goal

pub loop-run-preserved : goal.loop-run-preserved
loop-run-preserved g c =
    let text = g.L.Texts.text c.args.texts.now in
    one-more _ _ (run_text text (keyed g.E.Entry.key g.E.Entry.terms c.args.entries.now))
    c.args.runs.now c.loop-run.run-index _ _ c.loop-run.invariant c.run-item.result _ c.loop-run-test.true c.run-item.is
    (text-is _ _ _ _ _ _ (ap (text_if text) (sym c.record_of.ensures)) c.write.ensures)

pub record_of-requires : goal.record_of-requires
record_of-requires g c =
    subst (HasRecord (keyed g.E.Entry.key g.E.Entry.terms c.args.entries.now)) (sym c.run-item.is)
    (c.requires c.loop-run.run-index c.run-item.result c.loop-run-test.true)

pub returns : goal.returns
returns g c =
    all-items _ _ (run_text (g.L.Texts.text c.args.texts.now) (keyed g.E.Entry.key g.E.Entry.terms c.args.entries.now))
    c.args.runs.now c.loop-run.run-index _ _ c.loop-run.invariant c.loop-run-test.false
