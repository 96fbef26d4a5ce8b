-- One stretch more (`stretches-push`).
use Rattle.cif_calendar.proofs.{Names.arith, Names.◌+◌, Stretches.stretches-push}
use Rattle.cif_calendar.proofs.stretch.stretches_of_few.Goals as goal

pub loop-stretches-preserved : goal.loop-stretches-preserved
loop-stretches-preserved g c = let is = c.stretch_from-stretch.ensures in record {
  from = omega (arith, c.in-Some.ensures, is.stretch.in_order);
  upto = omega (arith, c.in-Some.ensures);
  alike = is.alike;
  stretches = rw c.in_ok-push.ensures.items (stretches-push c.args.members.now.terms _ _ _
      c.args.window.now.first _ _
      c.loop-stretches.stretches.items _ c.in-Some.ensures.1 is.stretch c.loop-stretches.invariant.stretches);
}

pub returns-in-None : goal.returns-in-None
returns-in-None g c = let is = c.stretch_from-stretch.ensures in record {
  alike = is.alike;
  stretches = rw c.in_ok-push.ensures.items (stretches-push c.args.members.now.terms _ _ _
      c.args.window.now.first _
      (c.args.window.now.last + 1) c.loop-stretches.stretches.items c.stretch_from-stretch.result
      (omega (arith, c.in-None.ensures, is.stretch.upto)) is.stretch c.loop-stretches.invariant.stretches);
}
