pub mod Brought
pub mod Over
pub use Rattle.history_keeper.specs.Signs
