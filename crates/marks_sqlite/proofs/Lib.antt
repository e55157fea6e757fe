pub mod Found
pub mod Marks
pub mod MarksTold
pub mod Refusals
