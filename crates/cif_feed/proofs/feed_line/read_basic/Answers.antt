-- The columns say which transaction it is (`basic_read`).
use Rattle.cif_feed.proofs.{FeedSteps.basic_put, FeedSteps.basic_read, Names.sym}
use Rattle.cif_feed.specs.declared.mark.Transaction.TheVariants.{Deleted, New, Revised}
use Rattle.cif_feed.proofs.feed_line.read_basic.Goals as goal

pub returns-in-Some-New : goal.returns-in-Some-New
returns-in-Some-New c =
    let a = c.args in
    basic_read a.feed a.allowed a.number a.line.now New (sym (rw c.in-Some-New.field-0-is at c.in-Some-New.ensures.exact))
    c.put_basic.result (basic_put a.allowed a.number a.line.now New c.put_basic.result c.put_basic.ensures)

pub returns-in-Some-Revised : goal.returns-in-Some-Revised
returns-in-Some-Revised c =
    let a = c.args in
    let put = c.put_basic-in-Some-Revised in
    basic_read a.feed a.allowed a.number a.line.now Revised (sym (rw c.in-Some-Revised.field-0-is at c.in-Some-Revised.ensures.exact))
    put.result (basic_put a.allowed a.number a.line.now Revised put.result put.ensures)

pub returns-in-Some-Deleted : goal.returns-in-Some-Deleted
returns-in-Some-Deleted c =
    let a = c.args in
    basic_read a.feed a.allowed a.number a.line.now Deleted (sym (rw c.in-Some-Deleted.field-0-is at c.in-Some-Deleted.ensures.exact))
    c.deleted_basic.result (c.deleted_basic.ensures a.allowed)
