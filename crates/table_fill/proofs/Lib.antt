pub mod Stores
pub mod Lifts
pub mod Outcomes
pub mod EntryStores
pub mod Levels
pub mod LevelLifts
