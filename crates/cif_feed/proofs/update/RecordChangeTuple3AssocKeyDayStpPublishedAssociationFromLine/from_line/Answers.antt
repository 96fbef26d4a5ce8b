-- What the line does to the published association.
use Rattle.cif_feed.proofs.Names.{AssocKey, ap, change_by, ◌∙◌}
use Rattle.cif_feed.proofs.update.RecordChangeTuple3AssocKeyDayStpPublishedAssociationFromLine.from_line.Goals as goal

pub returns : goal.returns
returns c = record {
  published = c.from_line-published.result;
  is = c.from_line-published.ensures;
  change = c.change_by.ensures
      ∙ ap (λ (k : AssocKey). change_by c.args.mark.transaction c.args.mark.line
      (k, c.args.association.first, c.args.mark.letter)
      c.from_line-published.result) c.copy.ensures;
}
