pub mod Places
pub mod GuidLaws
pub mod Adding
pub mod Fresh
pub mod Claims
