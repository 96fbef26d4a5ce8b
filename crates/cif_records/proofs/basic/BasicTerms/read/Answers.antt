-- The schedule that the line spells has to be named: `terms_spell` builds it, with the detail in the columns or none.
use Rattle.cif_records.proofs.{Details.terms_spell, Names.basic_refusal, Names.sym, Rows.◌&◌}
use Rattle.cif_records.proofs.basic.BasicTerms.read.Goals as goal

pub returns : goal.returns
unfolding basic_refusal
returns c =
    let identity = c.in_ok-check_letters.ensures in
    let transaction = c.in_ok-check_letters-2.ensures in
    let dates = c.in_ok-dates.ensures in
    let days = c.in_ok-days.ensures.judged in
    let bank = c.in_ok-check_letters-3.ensures in
    let letter = c.in_ok-letter.ensures.judged in (
      rw (identity.0, transaction.0, dates.0, days.0, bank.0, letter.0),
      terms_spell c.args.line.now _
          (identity.1 & transaction.1 & sym c.uid_at.ensures & dates.1.0 & dates.1.1 & days.1 & bank.1 & tt)
          (tt & letter.1 & tt),
    )
