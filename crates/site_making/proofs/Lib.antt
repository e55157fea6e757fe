pub mod Chains
pub mod Adding
pub mod NumberedNames
pub mod Turns
pub mod SheetLaws
pub mod MadeLaws
