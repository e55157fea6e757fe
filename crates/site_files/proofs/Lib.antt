pub mod GoodReadings
pub mod JsonTexts
pub mod Loop
pub mod Named
pub mod SoundBoards
pub mod SoundSites
