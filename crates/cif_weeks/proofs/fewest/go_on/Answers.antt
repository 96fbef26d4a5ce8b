-- The run goes on into the part of `next` up to `reach` (`longer`), if there is one (`same`); what comes after it is left (`left-part`).
use Rattle.cif_weeks.proofs.Names.{Shows, refl}
use Rattle.cif_weeks.proofs.FewestRuns.{HasAll, left-all, left-part, longer, same}
use Rattle.cif_weeks.proofs.fewest.go_on.Goals as goal
use Rattle.cif_weeks.proofs.fewest.go_on.Goals.{in-None, in-None-next_up_to, in-Some, in-Some-next_up_to}

pub returns : goal.returns
returns c spans source e f after gap =
    let on = Shows spans source in
    let run = c.args.run.now in
    let next = c.args.next.now in
    let reach = c.reach-reach.result in
    let is = c.reach-reach.ensures in
    let all : HasAll on run next e f after gap reach is c.match-part.longer = elim c.match-part.branch [
      | in-Some w ↦ rw w.longer-is (longer on run next e f after gap reach is w.in-Some.head _ w.in-Some.ensures.some refl refl refl
          w.union.ensures.width w.union.ensures.runs)
      | in-None w ↦ rw w.longer-is (same on run next e f after gap reach is w.in-None.ensures.none)
    ] in
    elim c.match-next_up_to.branch [
      | in-Some-next_up_to w ↦ rw w.left-is (left-part on run next e f after gap reach is _ all w.in-Some-next_up_to.day
          w.part-left.result w.in-Some-next_up_to.ensures.0 w.in-Some-next_up_to.ensures.1 w.part-left.ensures.some
          w.part-left.ensures.none)
      | in-None-next_up_to w ↦ rw w.left-is (left-all on run next e f after gap reach is _ all w.in-None-next_up_to.ensures)
    ]
