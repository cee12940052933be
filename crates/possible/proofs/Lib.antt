-- Why the search answers whether a class is possible.
pub mod Undoing
