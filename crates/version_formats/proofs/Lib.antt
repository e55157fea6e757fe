pub mod FormatLemmas
pub mod OrderLemmas
pub mod DigitLemmas
pub mod VersionLaws
pub mod RenderLaws
pub mod Accepted
