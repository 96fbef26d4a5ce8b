-- The digits are the number.
use Rattle.cif_rows.proofs.Names.{Apart, List, Number, ap, arith, decimal_digit, field_text, sym, ℕ, ◌∙◌}
use Rattle.cif_rows.proofs.AddedTexts.{added-is}
use Rattle.itoa.proofs.Decimal.{decimal_two}
use Rattle.cif_rows.proofs.rows.Rows.push_number.Goals as goal

pub returns-then-number-lt10 : goal.returns-then-number-lt10
returns-then-number-lt10 g c =
    let text : List ℕ → List ℕ =
    λ digits. field_text g.F.RowFormat.FORMAT (record { name = c.args.name.now; padding = Apart; shape = Number; columns = digits }) in
    added-is _ _ _ _ _ _ _ _ (ap text (sym (decimal_digit c.args.number c.if-number-lt10.true))) c.push.ensures

pub returns-then-number-lt100 : goal.returns-then-number-lt100
returns-then-number-lt100 g c =
    let text : List ℕ → List ℕ =
    λ digits. field_text g.F.RowFormat.FORMAT (record { name = c.args.name.now; padding = Apart; shape = Number; columns = digits }) in
    let two = decimal_two c.args.number (omega (arith, c.if-number-lt10.false)) c.if-number-lt100.true in
    added-is _ _ _ _ _ _ _ _ (ap text (c.digits_of.ensures ∙ sym two)) c.push-then-number-lt100.ensures
