pub mod Answered
pub mod CheckedLines
pub mod CommandBuilt
pub mod KnownAnswers
pub mod Names
pub mod OpenedInputs
