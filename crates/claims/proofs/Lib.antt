pub mod Clock
pub mod Refresh
pub mod Entries
pub mod Interrupts
pub mod Runs
pub mod Answers
pub mod Words
pub mod ReadOnly
