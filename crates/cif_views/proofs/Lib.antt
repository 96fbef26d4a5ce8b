mod AllFields
pub mod BoardRows
pub mod BoardTexts
pub mod CallRows
pub mod ClashLists
mod DifferingCells
pub mod DifferingFields
mod ExplainedMarks
mod ExplainedTexts
mod Explaining
pub mod LongDates
pub mod Moments
pub mod Named
mod OneDifference
mod PairedBodies
mod PairedJourneys
mod PublicMoments
pub mod Searched
pub mod PublicRows
pub mod Riders
mod RowLines
mod RowsOfDifferences
pub mod SameBoards
mod SameJourneys
mod SameSchedules
mod SameTables
pub mod Stops
pub mod TableRows
pub mod WeekLines
pub mod Names
mod RowNames
pub mod DifferenceFields
