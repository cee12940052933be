-- The lemmas that several proofs share.
pub mod Joining
