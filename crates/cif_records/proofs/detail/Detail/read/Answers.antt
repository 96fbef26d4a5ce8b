-- Each text was found where its row says, and one detail stands in a line at most (`one_detail`).
use Rattle.cif_records.proofs.{Details.detail_stands, Details.one_detail, Rows.◌&◌}
use Rattle.cif_records.proofs.detail.Detail.read.Goals as goal

pub returns-clause-stands : goal.returns-clause-stands
returns-clause-stands c =
    c.text_at.ensures.found & c.text_at-2.ensures.found & c.text_at-3.ensures.found & c.text_at-4.ensures.found
    & c.text_at-5.ensures.found & c.text_at-6.ensures.found & c.text_at-7.ensures.found & c.text_at-8.ensures.found
    & c.text_at-9.ensures.found & c.text_at-10.ensures.found & c.text_at-11.ensures.found & c.text_at-12.ensures.found
    & c.text_at-13.ensures.found & c.text_at-14.ensures.found & c.text_at-15.ensures.found & c.text_at-16.ensures.found
    & c.text_at-17.ensures.found & tt

pub returns-clause-exact : goal.returns-clause-exact
returns-clause-exact c = one_detail c.args.line.now _ _ (returns-clause-stands c) (detail_stands c.args.line.now)
