-- What the contracts of the code's own steps speak of. No clause of a public function cites it, so nothing here has to be believed.
pub mod Changes
pub mod Counting
pub mod Deciding
pub mod Dropping
pub mod FeedLine
pub mod FeedReading
pub mod HolidayReading
pub mod Judging
pub mod Marks
pub mod PartsSoFar
pub mod Written
