pub mod Responses
pub mod ResponseReading
pub mod Journals
pub mod JournalReading
pub mod JournalWords
