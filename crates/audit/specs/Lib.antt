-- What an audit writes, and what it says.
pub mod Audits
