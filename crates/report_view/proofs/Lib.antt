pub mod Places
pub mod EventTurns
pub mod RowTurns
pub mod PutPieces
pub mod TextTurns
pub mod EachOnce
pub mod Written
pub mod PagePut
