-- What the contracts of the code's own steps speak of. Of public functions `write_table` cites PublicCalls, and a law says what these
-- are. So nothing here has to be believed.
pub mod Boards
pub mod Clashes
pub mod Explanation
pub mod Columns
pub mod DifferenceHeads
pub mod DifferenceRows
pub mod PublicCalls
pub mod PublicRows
pub mod Rows
pub mod TableRows
pub mod WeekCalendar
