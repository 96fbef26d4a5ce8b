-- At the end `printable_fact` and `printable_true` turn test into fact.
use Rattle.cif_columns.proofs.Names.{ap, arith, is_printable, list_all, sym, take, take_all, ◌∙◌, ◌≡◌}
use Rattle.cif_columns.proofs.PrintableBytes.{printable_fact, printable_true}
use Rattle.cif_columns.proofs.line.are_printable.Goals as goal

pub returns : goal.returns
returns c =
    let bytes = c.args.bytes.now in
    let whole : take c.loop-b.b-index bytes ≡ bytes = take_all _ bytes (omega arith) in
    let test : c.loop-b.all ≡ list_all is_printable bytes = c.loop-b.invariant ∙ ap (list_all is_printable) whole in
    (λ all. printable_fact bytes (sym test ∙ all), λ good. test ∙ printable_true bytes good)
