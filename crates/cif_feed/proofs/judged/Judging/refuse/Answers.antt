-- Its reason is reported too, and the order decides nothing from here on.
use Rattle.cif_feed.proofs.Names.{ReportReasons, Some, ap, length-map, own_reason, reasons_of, subst, sym, ◌+◌, ◌∙◌}
use Rattle.cif_feed.proofs.ReportedReasons.{reasons_of_more, some_has_here}
use Rattle.cif_feed.proofs.judged.Judging.refuse.Goals as goal

pub returns : goal.returns
returns c = λ max contents line judged numbered own. record {
  reported = subst (λ reasons. ReportReasons reasons c.count.new.self) (sym (reasons_of_more contents line (Some c.args.why) own))
      (c.count.ensures (reasons_of contents) judged.reported (numbered ∙ ap (λ n. n + 1) (sym (length-map contents own_reason))));
  order = some_has_here contents line c.args.why own;
}
