pub mod Boards
pub mod Conditions
pub mod Images
pub mod Journals
pub mod Plans
pub use Rattle.block_pool.specs.Views
