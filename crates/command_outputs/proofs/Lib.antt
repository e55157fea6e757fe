pub mod Components
pub mod RequirementLines
pub mod Wholes
pub mod Joined
