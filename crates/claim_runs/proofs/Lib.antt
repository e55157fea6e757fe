pub mod Made
pub mod Logs
pub mod Freed
pub mod Kept
pub mod AtTurns
pub mod Same
pub mod Taking
pub mod Clients
