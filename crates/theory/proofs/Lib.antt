-- The proofs of the theory, and the lemmas that crates above cite.
pub mod Sound
pub mod Places
pub mod Range
pub mod Extended
pub mod Steps
pub mod Canon
pub mod Follow
pub mod Merely
pub mod One
pub mod Fixed
pub mod Clashes
pub mod Alone
pub mod Worked
mod Small
pub mod CaseTables
mod Pigeon
mod Triangle
pub mod Bound
