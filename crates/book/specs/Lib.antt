pub mod Drafts
pub mod Tables
pub mod Books
pub mod Sealing
