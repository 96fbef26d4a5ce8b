-- The digits are those of the word (`digits-of-long`).
use Rattle.cif_columns.proofs.{DateWords.digits-of-long, Names.List, Names.StandsInYymmdd, Names.rules, Names.subst, Names.sym, Names.◌≡◌, Names.◌∙◌}
use Rattle.cif_columns.proofs.day.day_in_long.Goals as goal

pub returns-then-eq-clause-only : goal.returns-then-eq-clause-only
returns-then-eq-clause-only c = λ n l.
    let is : c.args.columns.now ≡ c.long_date.result = search rules in
    let same = sym c.long_date.ensures ∙ sym is ∙ l.long in
    c.from_yymmdd.ensures.only n (subst (λ digits. StandsInYymmdd digits n) (digits-of-long _ _ _ _ _ _ l.digits n l.stands same) l.stands)
