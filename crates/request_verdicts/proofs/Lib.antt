pub mod Refusals
pub mod FewRequirements
