-- A line that is taken leaves the order as it should be (`none_refused_more`); one that isn't is the first out of order (`refused_here`).
use Rattle.cif_feed.proofs.Names.{Err, Ok, Refused, arith, length, own_are, own_layouts, progress_of, taken_behind, ◌<◌}
use Rattle.cif_feed.proofs.ReportedReasons.{none_has_more, none_refused_more, refused_here, some_has_more}
use Rattle.cif_feed.proofs.judged.Order.take.Goals as goal

pub returns-in-Ok-clause-taken : goal.returns-in-Ok-clause-taken
returns-in-Ok-clause-taken c = λ max contents so_far numbered within own.
    let line = c.args.line.now in
    let here = rw c.in-Reading.is at so_far in
    let room : length contents < max = omega (arith, numbered, within) in
    let taken = taken_behind own_layouts own_are contents line (progress_of c.in-Reading.reading) here.2 (Ok tt)
    (progress_of c.take.new.self) c.in-Ok.ensures.taken in (
      none_has_more contents line here.0 own,
      none_refused_more max contents line own room here.1 taken.0,
      taken.1,
    )

pub returns-in-Err-Refused-clause-taken : goal.returns-in-Err-Refused-clause-taken
returns-in-Err-Refused-clause-taken c = λ max contents so_far numbered within own.
    let line = c.args.line.now in
    let here = rw c.in-Reading.is at so_far in
    let room : length contents < max = omega (arith, numbered, within) in
    let behind = rw c.in-Err-Refused.field-0-is at c.in-Err-Refused.ensures in
    let why = taken_behind own_layouts own_are contents line (progress_of c.in-Reading.reading) here.2 (Err (Refused _))
    (progress_of c.take.new.self) behind.taken in
    (none_has_more contents line here.0 own, refused_here max contents line own room here.1 _ why c.args.number numbered)

pub returns-in-Refused-clause-taken : goal.returns-in-Refused-clause-taken
returns-in-Refused-clause-taken c = λ max contents so_far numbered within own.
    let here = rw c.in-Refused.is at so_far in
    rw c.in-Refused.is (some_has_more contents c.args.line.now here)
