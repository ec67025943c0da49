pub mod Candidates
mod Changing
mod Mapped
mod Seeking
mod Shown
