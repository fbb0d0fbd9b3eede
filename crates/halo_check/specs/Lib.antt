-- The definitions that the contracts of the checks cite.
pub mod Parts
pub mod Limits
pub mod Draft
pub mod DraftView
pub mod FormOrder
pub mod Checks
pub mod Checked
pub mod Addition
pub mod Sharing
pub mod CheckLaws
