pub mod Blocks
pub mod ByBlock
pub mod Lending
pub mod Texts
