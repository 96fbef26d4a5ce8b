-- A date fits six columns where it is a day of the hundred years: `is_day-yymmdd` has that from the digits that stand.
use Rattle.cif_columns.proofs.{DayDigits.is_day-yymmdd, Names.refl}
use Rattle.cif_columns.proofs.field.DayField.put_on.Goals as goal

pub returns-clause-fits : goal.returns-clause-fits
returns-clause-fits c = (refl, is_day-yymmdd _ _ c.to_yymmdd.ensures.stands)
