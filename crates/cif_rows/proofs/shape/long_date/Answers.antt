-- The digits are those of the columns (`date-is`), and can be shown if they can (`printable-date`).
use Rattle.cif_rows.proofs.{Names.ArePrintable, Names.subst, Names.sym, LongDates.date-is, LongDates.printable-date}
use Rattle.cif_rows.proofs.shape.long_date.Goals as goal

pub returns-clause-text : goal.returns-clause-text
returns-clause-text c = date-is c.args.yymmdd.now c.century.result c.century.ensures

pub returns-clause-printable : goal.returns-clause-printable
returns-clause-printable c printable =
    subst ArePrintable (sym (date-is c.args.yymmdd.now c.century.result c.century.ensures))
    (printable-date c.args.yymmdd.now c.requires printable)
