pub mod Codes
pub mod Commands
pub mod Headline
pub mod Refusals
pub mod Made
pub mod Answers
