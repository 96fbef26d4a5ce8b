-- The columns say which transaction it is (`association_read`).
use Rattle.cif_feed.proofs.{FeedSteps.association_read, Names.sym}
use Rattle.cif_feed.specs.declared.mark.Transaction.TheVariants.{New, Revised}
use Rattle.cif_feed.proofs.feed_line.read_association.Goals as goal

pub returns-in-Some-New : goal.returns-in-Some-New
returns-in-Some-New c allowed =
    let a = c.args in
    association_read a.feed allowed a.number a.line.now New (sym (rw c.in-Some-New.field-0-is at c.in-Some-New.ensures.exact))
    c.put_association.result c.put_association.ensures

pub returns-in-Some-Revised : goal.returns-in-Some-Revised
returns-in-Some-Revised c allowed =
    let a = c.args in
    let put = c.put_association-in-Some-Revised in
    association_read a.feed allowed a.number a.line.now Revised (sym (rw c.in-Some-Revised.field-0-is at c.in-Some-Revised.ensures.exact))
    put.result put.ensures
