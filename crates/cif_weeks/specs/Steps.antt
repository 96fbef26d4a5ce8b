-- What the contracts of the code's own steps speak of. No clause of a public function cites it, so nothing here has to be believed.
pub mod BodyRuns
pub mod Fewest
pub mod Growing
pub mod PieceSpans
pub mod Spans
pub mod WeekMasks
