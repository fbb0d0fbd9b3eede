pub mod CheckOrder
pub mod Deciding
pub mod DecidingParts
pub mod DecidingStatuses
pub mod DecidingChecks
