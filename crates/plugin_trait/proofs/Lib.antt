pub mod BoardSteps
pub mod InTurn
pub mod PlacesAt
