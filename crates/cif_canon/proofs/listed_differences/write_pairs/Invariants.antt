-- What is written is the text of what was listed so far, and with what the rest is listed as it is all; each run that is left has a record.
use Rattle.cif_canon.proofs.Names.{All, HasSidedRecord, IsAppended, List, Listed, Permanent, by_pairs, flat_map, keyed, length}
use Rattle.cif_canon.proofs.Names.{sided_records, ◌++◌, ◌≡◌}
use Rattle.cif_canon.proofs.listed_differences.write_pairs.Given as goal

abbrev pub invariant-loop-rest : goal.invariant-loop-rest
invariant-loop-rest g l =
    let xs = keyed g.E.Entry.key g.E.Entry.terms l.left in
    let ys = keyed g.E.Entry.key g.E.Entry.terms l.right in
    record {
      records : All (HasSidedRecord xs ys) l.rest;
      written : (done : List (Listed (g.row.E-Key.Denot × Permanent g.row.E-Body.Denot)))
          × (by_pairs g.E.Key.Ord.cmp (sided_records xs ys l.runs) ≡ done ++ by_pairs g.E.Key.Ord.cmp (sided_records xs ys l.rest))
          × IsAppended g.W.Write.contents g.W.WriteDevice.write_errors (flat_map (g.L.Texts.text l.texts) done) l.initial.sink l.sink;
    }

abbrev pub decreases-loop-rest : goal.decreases-loop-rest
decreases-loop-rest g l = length l.rest
