-- What is gone from `rest` was appended, and `rest` gets shorter.
use Rattle.cif_columns.proofs.Names.{Appends, List, false, length, ℕ, ◌++◌, ◌≡◌}
use Rattle.cif_columns.proofs.sink.Sink.write_all.Given as goal

abbrev pub invariant-loop-rest : goal.invariant-loop-rest
invariant-loop-rest g l =
    (done : List ℕ) × (l.bytes ≡ done ++ l.rest) × (l.self.failed ≡ false)
    × Appends (g.W.Write.contents l.initial.self.writer) (g.W.Write.contents l.self.writer) done
    × (g.W.WriteDevice.write_errors l.self.writer ≡ g.W.WriteDevice.write_errors l.initial.self.writer)

abbrev pub decreases-loop-rest : goal.decreases-loop-rest
decreases-loop-rest g l = length l.rest
