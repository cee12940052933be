-- How files are read, record by record, and the law of their layout.
pub mod Books
pub mod Stepping
pub mod Whole
pub mod Chunks
pub mod RuleGroups
pub mod Rows
pub mod Taking
pub mod Sites
pub mod Ending
pub mod Forward
pub mod Past
pub mod Images
pub mod Law
pub mod Chain
