mod Checks
pub mod Fitting
pub mod Lengths
pub mod Linked
mod Lists
pub mod Misfits
pub mod RecordLaws
pub mod Replayed
pub mod RowLaws
pub mod Sound
mod Worked
mod WorkedLogs
pub mod Unique
pub mod Walks
