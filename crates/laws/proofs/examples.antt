-- Worked examples, each computed from the definitions.
mod Bases
mod Locks
mod Conditions
mod ReadersAndWriters
mod Semaphores
mod Latches
mod Marks
mod Naming
mod Histories
mod Pairs
