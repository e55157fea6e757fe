pub mod BringingLaws
pub mod OpeningLaws
pub mod OverLaws
