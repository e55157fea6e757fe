pub mod Pieces
mod Worded
mod Newest
mod Placed
mod First
