-- Each view is of what runs, and of locations by what they are (`SameViews`, `SameComparisons`).
use Rattle.cif_canon.proofs.SameExtracts.{same-sym}
use Rattle.cif_laws.proofs.SameComparisons.{compared-same, differences-same}
use Rattle.cif_laws.proofs.SameViews.{canon-same, day-same, train-same}
use Rattle.cif_laws.proofs.canonical.what_says_the_same_has_the_same_views.Goals as goal

pub returns-clause-day : goal.returns-clause-day
returns-clause-day c = λ x y listed day text same clear_x clear_y. (
  day-same x y same clear_y listed day text,
  day-same y x (same-sym x y same) clear_x listed day text,
)

pub returns-clause-train : goal.returns-clause-train
returns-clause-train c = λ x y listed form uid text same clear_x clear_y. (
  train-same x y same clear_y listed form uid text,
  train-same y x (same-sym x y same) clear_x listed form uid text,
)

pub returns-clause-canon : goal.returns-clause-canon
returns-clause-canon c = canon-same

pub returns-clause-compared : goal.returns-clause-compared
returns-clause-compared c = λ x y z w comparison same others clear_x clear_y clear_z clear_w. (
  compared-same x y z w same others clear_y clear_w comparison,
  compared-same y x w z (same-sym x y same) (same-sym z w others) clear_x clear_z comparison,
)

pub returns-clause-differences : goal.returns-clause-differences
returns-clause-differences c = λ x y z w d same others clear_x clear_y clear_z clear_w. (
  differences-same x y z w same others clear_y clear_w d,
  differences-same y x w z (same-sym x y same) (same-sym z w others) clear_x clear_z d,
)
