-- `some_journey` tells of the lines from LO to LT: they are two at least, and those between spell calls.
use Rattle.cif_extract.proofs.Names.{All, SpellsSomeCall, ap, arith, before_last, call_in, drop, journey_in, length, length-drop, map}
use Rattle.cif_extract.proofs.Names.{slice_range, subst, sym, take, ◌-◌, ◌∙◌, ◌≡◌}
use Rattle.cif_extract.proofs.{Bodies.some_journey, extract.Body.calls.Goals.After-rest}
use Rattle.cif_extract.proofs.extract.Body.calls.Goals as goal

between : (c : After-rest) → before_last c.rest.result
    ≡ slice_range (journey_in c.args.self.now) 1 (length (journey_in c.args.self.now) - 1)
between c =
    let lines = journey_in c.args.self.now in
    let count : length (drop 1 lines) - 1 ≡ length lines - 1 - 1 = omega (arith, length-drop 1 lines) in
    ap before_last (c.rest.ensures ∙ ap (drop 1) c.journey.ensures.journey) ∙ ap (λ n. take n (drop 1 lines)) count

pub of_lines-requires : goal.of_lines-requires
of_lines-requires c = subst (All SpellsSomeCall) (sym (between c)) (some_journey c.args.self.now c.journey.ensures.keep).spelled

pub rest-requires : goal.rest-requires
rest-requires c = omega (arith, ap length c.journey.ensures.journey, (some_journey c.args.self.now c.journey.ensures.keep).longer)

pub returns : goal.returns
returns c = c.of_lines.ensures ∙ ap (map call_in) (between (goal.at.returns c).After-rest)
