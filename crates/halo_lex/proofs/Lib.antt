pub mod Runs
pub mod Lexing
pub mod Next
pub mod Cutting
pub mod Tiling
pub mod Splitting
