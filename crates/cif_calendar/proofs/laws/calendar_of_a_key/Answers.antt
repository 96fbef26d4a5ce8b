-- The members' records are the key's (`positions-records`), so what a calendar says of them it says of the key (`KeyCalendar`).
use Rattle.cif_calendar.proofs.KeyCalendar.{key-clear, key-fault, key-runs, key-source}
use Rattle.cif_calendar.proofs.laws.calendar_of_a_key.Goals as goal

pub returns : goal.returns
returns g c = record {
  runs = λ entries k members first last calendar d o p says.
      key-runs g.E.Entry.key g.E.Entry.terms entries k members p first last calendar says g.met.E.Entry.cancelled d o;
  clear = λ entries k members first last calendar p. key-clear g.E.Entry.key g.E.Entry.terms entries k members p first last calendar;
  source = λ entries k members first last calendar d i p says.
      key-source g.E.Entry.key g.E.Entry.terms entries k members p first last calendar says d i;
  fault = λ entries k members first last fault p. key-fault g.E.Entry.key g.E.Entry.terms entries k members p first last fault;
}
