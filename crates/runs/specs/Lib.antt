-- The law of every list of calls, and what a call that makes such a list promises.
pub mod Events
pub mod Law
pub mod Runs
pub mod Made
pub mod Accounts
