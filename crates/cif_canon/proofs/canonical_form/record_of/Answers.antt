-- The record of the entry that was looked up, from its key and its body (`record-of_entry`).
use Rattle.cif_canon.proofs.Names.{Some, ap, keyed, option_copied, record_of, sym, terms_at, ◌∙◌}
use Rattle.cif_canon.proofs.RunTexts.{has-body, record-of_entry, record-within}
use Rattle.cif_canon.proofs.canonical_form.record_of.Goals as goal

pub unreachable-requires : goal.unreachable-requires
unreachable-requires g c =
    has-body (λ e. (g.E.Entry.key e, g.E.Entry.terms e)) c.args.entries.now c.args.run.now c.index-entries-run.result c.requires
    c.index-entries-run.is (sym c.body.ensures ∙ ap option_copied c.in-None.is)

pub returns : goal.returns
returns g c =
    let run = c.args.run.now in
    let b = c.in-Some.body.now in
    let x = c.index-entries-run.result in
    record-of_entry (keyed g.E.Entry.key g.E.Entry.terms c.args.entries.now) run (g.E.Entry.key x, g.E.Entry.terms x) b
    (terms_at (λ e. (g.E.Entry.key e, g.E.Entry.terms e)) c.args.entries.now run.source x
    (record-within (λ e. (g.E.Entry.key e, g.E.Entry.terms e)) c.args.entries.now run c.requires) c.index-entries-run.is)
    (sym c.body.ensures ∙ ap option_copied c.in-Some.is) ∙ ap (λ k. Some (k, record_of run b)) (sym c.key.ensures)
