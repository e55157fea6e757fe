pub mod EndsSo
pub mod ExplainsSo
