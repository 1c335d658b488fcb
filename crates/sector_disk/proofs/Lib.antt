mod Done
mod Following
mod Parted
mod Picking
mod Placed
mod Sparse
mod Undone
pub mod Moments
mod Passing
mod Recorded
mod Refused
pub mod ZeroEnds
