pub mod GuidTexts
pub mod Indexes
pub mod Lookups
pub mod Loop
pub mod Images
pub mod WordNames
pub mod FewRequirements
