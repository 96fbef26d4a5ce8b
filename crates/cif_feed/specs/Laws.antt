-- Laws that an impl of a trait cites.
pub mod Deciding
