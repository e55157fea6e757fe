pub mod NextStep
pub mod Standing
