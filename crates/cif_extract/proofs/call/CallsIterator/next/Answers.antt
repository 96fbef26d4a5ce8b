-- Of the first of the lines and the others (`first_before_last`) `first_and_rest` and `first_call` tell what the view is.
use Rattle.cif_extract.proofs.Names.{ap, arith, before_last, length, ◌∷◌, ◌≡◌}
use Rattle.cif_extract.proofs.CallLines.{first_and_rest, first_before_last, first_call, some_lines}
use Rattle.cif_extract.proofs.call.CallsIterator.next.Goals as goal
use Rattle.cif_extract.proofs.call.CallsIterator.next.Goals.{After-first-first}

apart : (c : After-first-first) → before_last c.self.inside.lines ≡ c.first-first.result ∷ before_last c.rest-rest.result
apart c =
    first_before_last c.self.inside.lines c.rest-rest.result c.first-first.result
    (some_lines c.self.inside.lines _ c.is_empty.ensures c.if-is_empty.false) c.first-first.ensures
    c.rest-rest.ensures (some_lines c.rest-rest.result _ c.is_empty-2.ensures c.if-is_empty-2.false)

pub read-requires : goal.read-requires
read-requires c =
    (first_and_rest (before_last c.self.inside.lines) (before_last c.rest-rest.result) c.first-first.result
    (apart (goal.at.read-requires c).After-first-first) c.self.invariant).0

pub invariant_of-self : goal.invariant_of-self
invariant_of-self c =
    (first_and_rest (before_last c.self.inside.lines) (before_last c.rest-rest.result) c.first-first.result
    (apart (goal.at.invariant_of-self c).After-first-first) c.self.invariant).1

pub returns-clause-steps : goal.returns-clause-steps
returns-clause-steps c =
    first_call c.args.self.now (before_last c.self.inside.lines) (before_last c.rest-rest.result) c.first-first.result c.read.result
    c.self.view_is (apart (goal.at.returns-clause-steps c).After-first-first) c.read.ensures

pub rest-rest-requires : goal.rest-rest-requires
rest-rest-requires c = some_lines c.self.inside.lines _ c.is_empty.ensures c.if-is_empty.false

pub first-first-requires : goal.first-first-requires
first-first-requires c = some_lines c.self.inside.lines _ c.is_empty.ensures c.if-is_empty.false

pub returns-clause-goes : goal.returns-clause-goes
returns-clause-goes c =
    let shorter = ap length (returns-clause-steps c) in
    record { on = λ finite. (tt, tt, omega (arith, shorter)); keeps = tt; rests = λ finite. tt }
