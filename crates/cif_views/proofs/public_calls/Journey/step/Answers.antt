-- A call is left two moments on, and none of its moments is later than a day behind those.
use Rattle.cif_views.proofs.Names.{arith, midnight, ◌*◌, ◌+◌}
use Rattle.cif_views.proofs.public_calls.Journey.step.Goals as goal

pub returns-clause-by : goal.returns-clause-by
returns-clause-by c = λ n by.
    let stay = c.in-Some.ensures.by n by.left in
    let shown = c.in_ok-shown.ensures in
    let early = by.early in
    let late = by.late in
    let (from, rising) = shown.from in
    let reached = stay.reached.early in
    let left = stay.left.early in
    record {
      left = stay.left;
      late = omega (arith, late, from, rising);
      early = shown.upto (midnight + 86400 * (n + 2 + 1)) (omega (arith, early)) (omega (arith, reached)) (omega (arith, left));
    }

pub returns-clause-shown : goal.returns-clause-shown
returns-clause-shown c =
    let (n, few, by) = c.requires in
    let early = (returns-clause-by c n by).early in
    let (from, rising) = c.in_ok-shown.ensures.from in
    record { arrival = omega (arith, by.late, from); departure = rising; early = omega (arith, few, early) }
