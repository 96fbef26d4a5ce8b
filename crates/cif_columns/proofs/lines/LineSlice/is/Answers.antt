-- Lines are kept in one way: so they are the same exactly if what is kept is (`keep_view`).
use Rattle.cif_columns.proofs.Names.{ap, bytes_decides, kept_text, lines_in, sym, ◌∙◌}
use Rattle.cif_columns.proofs.KeptLines.{keep_view}
use Rattle.cif_columns.proofs.lines.LineSlice.is.Goals as goal

pub returns : goal.returns
returns c =
    let told = bytes_decides c.self.inside.kept.now c.other.inside.kept.now in
    let ours = keep_view c.self.inside.kept.now c.args.self.now c.self.invariant c.self.view_is in
    let its = keep_view c.other.inside.kept.now c.args.other.now c.other.invariant c.other.view_is in (
      λ same. sym c.self.view_is ∙ ap lines_in (told.0 (sym c.eq.ensures ∙ same)) ∙ c.other.view_is,
      λ same. c.eq.ensures ∙ told.1 (ours.is ∙ ap kept_text same ∙ sym its.is),
    )
