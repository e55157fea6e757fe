pub mod AncestorLemmas
pub mod FirstLemmas
