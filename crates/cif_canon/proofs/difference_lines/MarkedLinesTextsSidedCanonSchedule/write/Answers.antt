-- The marked text is that of the BS and then of the other lines (`marked-all`).
use Rattle.cif_canon.proofs.{AppendedTexts.both, AppendedTexts.text-is, MarkedTexts.marked-all, Names.[], Names.marked_text, Names.◌∷◌}
use Rattle.cif_canon.proofs.difference_lines.MarkedLinesTextsSidedCanonSchedule.write.Goals as goal

pub returns : goal.returns
returns g c =
    let s = c.args.item.now in
    text-is _ _ _ _ _ _ (marked-all s.side s.it _ _ c.basic.ensures c.further.ensures)
    (both _ _ (marked_text s.side (c.basic.result ∷ [])) (marked_text s.side c.further.result) _ _ _ c.write_marked.ensures
    c.write_marked_lines.ensures)
