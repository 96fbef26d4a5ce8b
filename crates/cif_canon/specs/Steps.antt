-- What the contracts of the code's own steps speak of. No clause of a public function cites it, so nothing here has to be believed.
pub mod ByPairs
pub mod Differences
pub mod OnlySides
pub mod Records
pub mod Sides
pub mod Texts
pub mod Views
