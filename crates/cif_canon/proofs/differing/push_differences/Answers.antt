-- Where the calendars have the same bodies nothing is said by one alone (`only-none`); or the runs of either side go behind the others.
use Rattle.cif_canon.proofs.Names.{AreAppendedRuns, [], arith, map, on_ok_weaker, refl, sym}
use Rattle.cif_canon.proofs.{MergedSides.merged-none, OnlyRuns.only-none}
use Rattle.cif_canon.proofs.differing.push_differences.Goals as goal

pub returns-then-are_alike : goal.returns-then-are_alike
returns-then-are_alike g c =
    let first = c.requires.first in
    let last = c.requires.last in
    let alike = c.if-are_alike.ensures.0 refl in record {
      lefts = [];
      rights = [];
      left = only-none (map g.E.Entry.terms c.args.left.now) c.args.one.now (map g.E.Entry.terms c.args.right.now) c.args.other.now alike;
      right = only-none (map g.E.Entry.terms c.args.right.now) c.args.other.now (map g.E.Entry.terms c.args.left.now) c.args.one.now
          (λ d from upto. sym (alike d (omega (arith, first, from)) (omega (arith, last, upto))));
      appended = merged-none c.args.found.now.items;
    }

pub only_runs-requires-2 : goal.only_runs-requires-2
only_runs-requires-2 g c = record {
  first = sym c.requires.first;
  last = sym c.requires.last;
  left = c.requires.right;
  right = c.requires.left;
}

pub returns : goal.returns
returns g c =
    on_ok_weaker c.push_merged.result
    (λ (are : AreAppendedRuns c.as_slice.result.now c.as_slice-2.result.now c.args.found.now.items
    c.push_merged.new.found.items). record {
      lefts = c.in_ok-lefts.lefts.items;
      rights = c.in_ok-rights.rights.items;
      left = c.in_ok-lefts.ensures.runs;
      right = c.in_ok-rights.ensures.runs;
      appended = rw (c.as_slice.ensures.value, c.as_slice-2.ensures.value) at are;
    }) c.push_merged.ensures

pub are_alike-requires : goal.are_alike-requires
are_alike-requires g c = c.requires

pub only_runs-requires : goal.only_runs-requires
only_runs-requires g c = c.requires

pub push_merged-requires-clause-left : goal.push_merged-requires-clause-left
push_merged-requires-clause-left g c = rw c.as_slice.ensures.value c.in_ok-lefts.ensures.rising

pub push_merged-requires-clause-right : goal.push_merged-requires-clause-right
push_merged-requires-clause-right g c = rw c.as_slice-2.ensures.value c.in_ok-rights.ensures.rising
