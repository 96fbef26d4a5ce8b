-- The laws of `OwnReasons`.
use Rattle.cif_feed.proofs.ReportedReasons.{own_of_line, own_of_refusal}
use Rattle.cif_feed.proofs.reasons.Reasons.own_reasons.Goals as goal

pub returns-clause-lines : goal.returns-clause-lines
returns-clause-lines c = own_of_line

pub returns-clause-refusals : goal.returns-clause-refusals
returns-clause-refusals c = own_of_refusal
