-- Spaces at the end change nothing (`used-behind`).
use Rattle.cif_columns.proofs.Names.{Decides-eqb, List, Some, [], ap, codes, is_space, refl, strip_suffix_is, sym, used, used_with, ℕ, ◌++◌}
use Rattle.cif_columns.proofs.Names.{◌∙◌, ◌∷◌, ◌≡◌}
use Rattle.cif_columns.proofs.lines.used_columns.Goals as goal

-- columns behind which spaces stand
used-behind : (columns spaces : List ℕ) → used spaces ≡ 0 → used (columns ++ spaces) ≡ used columns
used-behind [] spaces none = none
used-behind (c ∷ columns) spaces none = ap (used_with (is_space c)) (used-behind columns spaces none)

pub returns-in-Some-clause-value : goal.returns-in-Some-clause-value
returns-in-Some-clause-value c =
    let is = strip_suffix_is Decides-eqb c.args.columns.now (codes "        ") (Some c.in-Some.columns) c.in-Some.ensures.cases in
    c.count_used.ensures.value ∙ sym (ap used is ∙ used-behind c.in-Some.columns.now (codes "        ") refl)
