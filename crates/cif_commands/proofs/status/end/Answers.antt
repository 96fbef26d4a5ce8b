-- What came of writing the fault's line has to be named: the result of `report`; and the answer that was matched is put in.
use Rattle.cif_commands.proofs.Names.{Fault, ReportsFault, Result, subst, sym, ℕ}
use Rattle.cif_commands.proofs.status.end.Goals as goal

pub returns-in-Err-clause-line : goal.returns-in-Err-clause-line
returns-in-Err-clause-line g c =
    subst (λ (r : Result ℕ Fault). ReportsFault g.W.Write.contents g.W.WriteDevice.write_errors r c.args.errors.now c.report.new.sink)
    (sym c.in-Err.is) (c.report.result, c.report.ensures)
