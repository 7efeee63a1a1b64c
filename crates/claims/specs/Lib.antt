pub mod Entries
pub mod Interrupts
pub mod Answers
pub mod Runs
pub mod Words
pub mod Refresh
pub mod ReadOnly
