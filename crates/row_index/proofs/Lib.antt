pub mod Formers
pub mod Places
pub mod IndexLaws
