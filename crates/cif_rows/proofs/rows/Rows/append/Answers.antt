-- The columns go after the bytes.
use Rattle.cif_rows.proofs.Names.{List, ap, take, ℕ, ◌++◌, ◌∙◌}
use Rattle.cif_rows.proofs.rows.Rows.append.Goals as goal

pub returns : goal.returns
returns g c = c.put-self-inside.ensures.text ∙ ap (λ (l : List ℕ). l ++ take c.args.count c.args.columns.now) c.self.view_is
