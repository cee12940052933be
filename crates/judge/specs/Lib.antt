-- What verdicts and sheets mean, and what the calls on them answer.
pub mod Verdicts
pub mod Texts
pub mod Sheets
pub mod Judging
pub mod Asking
