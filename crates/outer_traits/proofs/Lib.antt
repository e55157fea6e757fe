pub mod Files
pub mod Fronts
pub mod Pieces
pub mod Stands
