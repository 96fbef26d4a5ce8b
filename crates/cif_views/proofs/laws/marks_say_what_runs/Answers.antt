-- Laws of all explained records (`ExplainedMarks`), for an order of keys that is total and agrees with equality.
use Rattle.cif_views.proofs.Names.{AreLawful-of_key, keyed, same_key-cmp}
use Rattle.cif_views.proofs.ExplainedMarks.{equal-itself, wins-agree, wins-runs}
use Rattle.cif_views.proofs.laws.marks_say_what_runs.Goals as goal

pub returns-clause-runs : goal.returns-clause-runs
returns-clause-runs g c entries uid day explained e are in_e is =
    wins-runs g.E.Key.Ord.cmp g.E.ExplainedEntry.is_of (keyed g.E.Entry.key g.E.Entry.terms entries) uid day explained are e
    (AreLawful-of_key g.E.Entry.key g.E.Entry.terms g.met.E.Entry.cancelled entries e.key) in_e is

pub returns-clause-agree : goal.returns-clause-agree
returns-clause-agree g c entries uid day explained key are train =
    wins-agree g.E.Key.Ord.cmp g.E.ExplainedEntry.is_of entries uid day explained are
    (same_key-cmp g.E.Key.PartialEq.eq g.E.Key.Ord.cmp g.met.E.Key.Ord.matches_eq g.met.E.Entry.same_key)
    (λ k. equal-itself (g.E.Key.Ord.cmp k k) (g.met.E.Key.Ord.total.antisymm k k)) key train
