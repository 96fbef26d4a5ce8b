-- One stretch more of both halves together (`merged-more`), until all of a half are merged (`merged-all`).
use Rattle.std.proofs.lemmas.Result.{IfOk-from_err}
use Rattle.cif_calendar.proofs.Names.{AreStretchesOf, IsJoint, List, arith, length, refl, rules, subst, take-append-drop, ℕ}
use Rattle.cif_calendar.proofs.Names.{◌/◌}
use Rattle.cif_calendar.proofs.Standings.{looked-all}
use Rattle.cif_calendar.proofs.Stretches.{fewer-left, first-below, merged-all, merged-more, sooner}
use Rattle.cif_calendar.proofs.stretch.+stretches_of.Goals as goal
use Rattle.cif_calendar.proofs.stretch.+stretches_of.Given.{Over}
use Rattle.cif_calendar.proofs.stretch.+stretches_of.Goals.{After-look_at, After-one-item, In-len1-up-len1-up}

pub loop-left-init : goal.loop-left-init
loop-left-init g t c = record {
  alike = c.in_ok-rights.ensures.alike;
  merged = record {
    day = c.args.window.now.first;
    of_left = rw (c.as_slice-left.ensures.value, ← c.split_at.ensures.front) c.in_ok-lefts.ensures.stretches;
    of_right = rw (c.as_slice-right.ensures.value, ← c.split_at.ensures.back) c.in_ok-rights.ensures.stretches;
    of_both = rw c.new-stretches.ensures.items refl;
  };
}

pub bounds-one-0 : goal.bounds-one-0
bounds-one-0 g t c = search rules

pub bounds-other-0 : goal.bounds-other-0
bounds-other-0 g t c = search rules

pub look_at-requires-clause-below : goal.look_at-requires-clause-below
look_at-requires-clause-below g t c = first-below _ c.args.members.now.positions _ _ _ _ c.loop-left.left.now c.one-item.result
    (bounds-one-0 g t (goal.at.look_at-requires-clause-below g t c).In-len1-up-len1-up) c.one-item.is c.loop-left.invariant.merged.of_left

pub look_at-requires-clause-others : goal.look_at-requires-clause-others
look_at-requires-clause-others g t c = first-below _ c.args.members.now.positions _ _ _ _ c.loop-left.right.now c.other-item.result
    (bounds-other-0 g t (goal.at.look_at-requires-clause-others g t c).After-one-item) c.other-item.is c.loop-left.invariant.merged.of_right

-- the stretch of both ends with the sooner of them
joint : (g : Over) (t : ℕ) (c : After-look_at g t) → IsJoint c.args.members.now.terms
    c.args.members.now.positions
    c.one-item.result c.other-item.result (record { last = c.min-last.result; standings = c.look_at.new.standings })
joint g t c = let m = sooner c.one-item.result.last c.other-item.result.last c.min-last.result c.min-last.ensures in record {
  upto_one = m.0;
  upto_other = m.1;
  ends = m.2;
  below = c.look_at.ensures.below;
  each = λ w below. looked-all c.args.members.now.terms c.args.members.now.positions
      c.other-item.result.standings w _ _ below
      (rw c.of-days.ensures at (c.look_at.ensures.each w below));
}

pub loop-left-preserved : goal.loop-left-preserved
loop-left-preserved g t c = let at = goal.at.loop-left-preserved g t c in record {
  alike = c.look_at.ensures.alike;
  merged = merged-more c.args.members.now.terms c.args.members.now.positions _ _ _ _ _
      c.loop-left.left.now c.loop-left.right.now
      c.behind-left.result.now c.behind-right.result.now c.loop-left.stretches.items c.push.new.self.items c.one-item.result
      c.other-item.result (record { last = c.min-last.result; standings = c.look_at.new.standings })
      (bounds-one-0 g t at.In-len1-up-len1-up) (bounds-other-0 g t at.After-one-item) c.one-item.is c.other-item.is
      (joint g t at.After-look_at) c.behind-left.ensures c.behind-right.ensures c.in_ok-push.ensures.items c.loop-left.invariant.merged;
}

pub returns : goal.returns
returns g t c = record {
  alike = c.loop-left.invariant.alike;
  stretches = subst (λ (part : List ℕ). AreStretchesOf c.args.members.now.terms
      c.args.members.now.positions part
      c.args.window.now c.loop-left.stretches.items) (take-append-drop (length c.args.part.now / 2) c.args.part.now)
      (merged-all c.args.members.now.terms c.args.members.now.positions _ _ _ _ _ c.loop-left.left.now
      c.loop-left.right.now _
      (search rules) c.loop-left.invariant.merged);
}

pub loop-left-smaller : goal.loop-left-smaller
loop-left-smaller g t c = let at = goal.at.loop-left-smaller g t c in
    fewer-left c.loop-left.left.now c.loop-left.right.now c.behind-left.result.now c.behind-right.result.now
    c.one-item.result c.other-item.result (record { last = c.min-last.result; standings = c.look_at.new.standings })
    c.args.members.now.terms c.args.members.now.positions (bounds-one-0 g t at.In-len1-up-len1-up)
    (bounds-other-0 g t at.After-one-item) c.one-item.is c.other-item.is (joint g t at.After-look_at) c.behind-left.ensures
    c.behind-right.ensures

pub returns-then-part-le-MOST_DIRECT : goal.returns-then-part-le-MOST_DIRECT
returns-then-part-le-MOST_DIRECT g t c = record {
  alike = c.stretches_of_few.ensures.alike;
  stretches = c.stretches_of_few.ensures.stretches;
}

pub returns-in_err-lefts : goal.returns-in_err-lefts
returns-in_err-lefts g t c = record { alike = c.in_err-lefts.ensures.alike; stretches = IfOk-from_err _ _ c.from_residual.ensures.0 }

pub returns-in_err-rights : goal.returns-in_err-rights
returns-in_err-rights g t c =
    record { alike = c.in_err-rights.ensures.alike; stretches = IfOk-from_err _ _ c.from_residual-in_err-rights.ensures.0 }

pub returns-in_err-push : goal.returns-in_err-push
returns-in_err-push g t c = record { alike = c.look_at.ensures.alike; stretches = IfOk-from_err _ _ c.from_residual-in_err-push.ensures.0 }

pub stretches_of_few-requires-clause-alike : goal.stretches_of_few-requires-clause-alike
stretches_of_few-requires-clause-alike g t c = c.requires.alike

pub stretches_of_few-requires-clause-part : goal.stretches_of_few-requires-clause-part
stretches_of_few-requires-clause-part g t c = c.requires.part

pub look_at-requires-clause-alike : goal.look_at-requires-clause-alike
look_at-requires-clause-alike g t c = c.loop-left.invariant.alike

pub overflow_add-number : goal.overflow_add-number
overflow_add-number g t c = omega (arith, c.requires.part.within, c.args.members.now.few)
