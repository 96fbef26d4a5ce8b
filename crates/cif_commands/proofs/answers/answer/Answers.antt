-- For each command the job that was matched is put in, and its function keeps each clause. A second source that it doesn't take is
-- left alone.
use Rattle.cif_commands.proofs.Names.{refl}
use Rattle.cif_commands.proofs.answers.answer.Goals as goal

pub returns-in-Normalise : goal.returns-in-Normalise
returns-in-Normalise g c =
    let e = c.answer_canonical.ensures in
    rw c.in-Normalise.is record { answer = e.answer; reads = (e.reads, refl); handed_on = e.handed_on }

pub returns-in-Check : goal.returns-in-Check
returns-in-Check g c =
    let e = c.answer_canonical-in-Check.ensures in
    rw c.in-Check.is record { answer = e.answer; reads = (e.reads, refl); handed_on = e.handed_on }

pub returns-in-CheckAll : goal.returns-in-CheckAll
returns-in-CheckAll g c =
    let e = c.answer_check_all.ensures in
    rw c.in-CheckAll.is record { answer = e.answer; reads = (e.reads, refl); handed_on = e.handed_on }

pub returns-in-Compare : goal.returns-in-Compare
returns-in-Compare g c =
    let e = c.answer_pair.ensures in
    rw c.in-Compare.is record { answer = e.answer; reads = e.reads; handed_on = e.handed_on }

pub returns-in-Diff : goal.returns-in-Diff
returns-in-Diff g c =
    let e = c.answer_pair-in-Diff.ensures in
    rw c.in-Diff.is record { answer = e.answer; reads = e.reads; handed_on = e.handed_on }

pub returns-in-Day : goal.returns-in-Day
returns-in-Day g c =
    let e = c.answer_day.ensures in
    rw c.in-Day.is record { answer = e.answer; reads = (e.reads, refl); handed_on = e.handed_on }

pub returns-in-Train : goal.returns-in-Train
returns-in-Train g c =
    let e = c.answer_train.ensures in
    rw c.in-Train.is record { answer = e.answer; reads = (e.reads, refl); handed_on = e.handed_on }

pub returns-in-Explain : goal.returns-in-Explain
returns-in-Explain g c =
    let e = c.answer_explain.ensures in
    rw c.in-Explain.is record { answer = e.answer; reads = (e.reads, refl); handed_on = e.handed_on }

pub returns-in-Calendar : goal.returns-in-Calendar
returns-in-Calendar g c =
    let e = c.answer_calendar.ensures in
    rw c.in-Calendar.is record { answer = e.answer; reads = (e.reads, refl); handed_on = e.handed_on }

pub returns-in-Clashes : goal.returns-in-Clashes
returns-in-Clashes g c =
    let e = c.answer_clashes.ensures in
    rw c.in-Clashes.is record { answer = e.answer; reads = (e.reads, refl); handed_on = e.handed_on }

pub returns-in-Table : goal.returns-in-Table
returns-in-Table g c =
    let e = c.answer_canonical-in-Table.ensures in
    rw c.in-Table.is record { answer = e.answer; reads = (e.reads, refl); handed_on = e.handed_on }
