pub mod GuidLemmas
pub mod HardwareLemmas
