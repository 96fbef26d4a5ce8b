pub mod Archived
