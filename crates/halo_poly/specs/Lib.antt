pub mod Poly
pub mod Transform
pub mod Symmetric
