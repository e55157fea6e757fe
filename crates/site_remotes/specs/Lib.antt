pub mod Remotes
pub mod Told
pub use Rattle.json_values.specs.Trees
pub use Rattle.release_catalogue.specs.Components
pub use Rattle.release_catalogue.specs.Reading
pub use Rattle.remote_set.specs.Merged
