pub mod AlignmentLaws
pub mod Allowed
pub mod Answering
pub mod Applied
pub mod Arrays
mod Behind
pub mod Carried
pub mod Cleaned
pub mod Confirmed
pub mod CutLinks
pub mod Dirty
pub mod DirtyLinks
pub mod Falling
mod Filters
mod Firsts
pub mod Fitting
pub mod HeldSame
pub mod Kept
mod Known
pub mod Mapped
mod Moved
pub mod Oldest
pub mod Orphaned
mod Pigeon
pub mod RecordLaws
pub mod Recorded
pub mod Records
pub mod Referring
pub mod Replayed
pub mod Restored
pub mod Searching
pub mod ShownLaws
pub mod Slots
pub mod StateLaws
pub mod Stepping
mod Together
pub mod TouchKept
pub mod Walking
mod Worked
mod WorkedRows
pub mod Zeros
