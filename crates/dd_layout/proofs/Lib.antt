pub mod Superblocks
mod Worked
