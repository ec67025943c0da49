mod Coupled
mod Marking
mod Renewed
mod Roomy
mod Steps
mod Taken
mod Touched
mod Victims
