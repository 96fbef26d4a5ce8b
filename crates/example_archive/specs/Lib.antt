pub mod Archive
pub mod ByHand
