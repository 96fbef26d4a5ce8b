-- What is written to a sink, which keeps its failure.
pub use Rattle.cif_rows.specs.Appended.{IsAppended}
