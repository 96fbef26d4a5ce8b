pub mod Adds
pub mod Appended
pub mod Row
pub mod Steps
pub mod ToldRows
