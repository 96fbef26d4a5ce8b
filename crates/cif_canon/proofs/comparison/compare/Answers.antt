-- Extracts that are the same are clear; others are compared where they are.
use Rattle.cif_canon.proofs.Names.{AreClearIfSame, IsComparison, extract_parts, subst}
use Rattle.cif_canon.proofs.comparison.compare.Goals as goal

pub returns-in-Ok-Same-clause-ok : goal.returns-in-Ok-Same-clause-ok
returns-in-Ok-Same-clause-ok c =
    let x = extract_parts c.args.left.now in
    let y = extract_parts c.args.right.now in
    let is = c.in-Ok-Same.field-0-is in
    let clear = subst (AreClearIfSame x y) is c.in-Ok-Same.ensures.clear in record {
      window = c.in_ok-check_one_window.ensures.ok;
      left = clear.0;
      right = clear.1;
      compared = subst (IsComparison x y) is c.in-Ok-Same.ensures.found;
    }
