-- Whichever key has these positions: a fault of the calendar is one of that key (`key_fault`), and the runs of its members, found with
-- or without a calendar, are the key's (`members-records`, `key-records`).
use Rattle.cif_canon.proofs.Names.{Contains-get_or, window_days}
use Rattle.cif_canon.proofs.KeyRecords.{key-records, key_fault, members-records}
use Rattle.cif_canon.proofs.extract_runs.add_runs_of_key.Goals as goal

pub returns-then-branch-clause-runs : goal.returns-then-branch-clause-runs
returns-then-branch-clause-runs g c k p =
    members-records g.E.Entry.key g.E.Entry.terms c.args.entries.now k c.args.members.now p c.args.form
    (window_days c.args.window.now) c.runs_of_few.new.runs.items
    (rw c.if-branch.true at c.in_ok-runs_of_few.ensures)

pub returns-in-Err-clause-fault : goal.returns-in-Err-clause-fault
returns-in-Err-clause-fault g c = rw c.fault_of.ensures (λ k p.
    key_fault g.E.Entry.key g.E.Entry.terms c.args.entries.now k c.args.members.now p g.E.NamedEntry.clash_of _
    (Contains-get_or c.args.members.now 0 0 c.requires.some) c.index-entries-members.result (c.requires.within 0 0 c.requires.some)
    c.index-entries-members.is c.args.window.now.first c.args.window.now.last c.in-Err.fault c.in-Err.ensures.fault)

pub returns-clause-runs : goal.returns-clause-runs
returns-clause-runs g c k p =
    key-records g.E.Entry.key g.E.Entry.terms c.args.entries.now k c.args.members.now p c.args.window.now.first c.args.window.now.last
    c.in-Ok.calendar c.in-Ok.ensures.calendar g.met.E.Entry.cancelled c.args.form
    c.in_ok-made.field-0.items c.in_ok-made.ensures
