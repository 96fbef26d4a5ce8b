-- What is kept is what no flag names.
use Rattle.cif_feed.proofs.{ChangeSteps.kept-by_flags, Names.rules}
use Rattle.cif_feed.specs.contracts.changes.fn.take_out.retain as closure
use Rattle.cif_feed.proofs.changes.take_out.Goals as goal

pub returns : goal.returns
returns g c = λ test are.
    let over : closure.Over = record { R = g.row.R; R-Destruct-dict = g.R.Destruct-dict } in
    kept-by_flags _ (λ p. (closure.captures over p).flags.rest.now) (λ p x b q k flag others is. search rules) test _ _ _ (search rules)
    c.retain.ensures.filtered
