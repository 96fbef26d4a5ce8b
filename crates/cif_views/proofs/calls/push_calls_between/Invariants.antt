-- What is added are the calls so far, and with those to come they are all.
use Rattle.cif_views.proofs.Names.{List, call_text, calls_at, flat_map, ◌++◌, ◌≡◌}
use Rattle.cif_views.proofs.RowNames.{Adds, Field}
use Rattle.cif_views.specs.Steps.Rows.{IsRowText}
use Rattle.cif_views.proofs.calls.push_calls_between.Given as goal

abbrev pub invariant-loop-call : goal.invariant-loop-call
invariant-loop-call g l =
    ((fields : List Field) → IsRowText g.F.RowFormat.FORMAT fields l.row →
    Adds g.W.Write.contents g.W.WriteDevice.write_errors
    (flat_map (call_text g.F.RowFormat.FORMAT fields) (flat_map calls_at l.yielded)) l.initial.sink l.sink l.initial.rows l.rows)
    × (l.yielded ++ l.calls ≡ l.initial.calls)
