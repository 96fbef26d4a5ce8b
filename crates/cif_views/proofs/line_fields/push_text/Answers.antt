-- Some of the bytes of a line are plain, as all are.
use Rattle.cif_views.proofs.Names.{subst, sym, ◌-◌}
use Rattle.cif_rows.specs.Steps.{IsPlain}
use Rattle.std.proofs.lemmas.List.Elements.{All-drop, All-take}
use Rattle.std.specs.Prelude.{All}
use Rattle.cif_views.proofs.line_fields.push_text.Goals as goal

pub push_plain_within-requires-clause-plain : goal.push_plain_within-requires-clause-plain
push_plain_within-requires-clause-plain g c json =
    let span = c.span_in.result in
    subst (All IsPlain) (sym c.columns_in.ensures.columns)
    (All-take IsPlain (span.1 - (span.0 - 1)) _ (All-drop IsPlain (span.0 - 1) c.args.line (c.requires.plain json)))
