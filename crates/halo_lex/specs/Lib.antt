pub mod Lexeme
pub mod Run
pub mod Cut
pub mod Words
pub mod Laws
