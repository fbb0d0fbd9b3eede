-- What a contract is, and which contracts can be valued.
pub mod PlainContract
pub mod Premium
pub mod ValidContract
