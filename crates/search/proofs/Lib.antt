-- The laws behind the search: pairs and their places, rows, marks, turns of the loops, and the way back.
pub mod Pairs
pub mod Rules
pub mod Marking
pub mod Turns
pub mod Sowing
pub mod Working
pub mod Retracing
pub mod Ways
