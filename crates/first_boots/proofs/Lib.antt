pub mod FirstBoots
