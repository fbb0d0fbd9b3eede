pub mod OneLine
pub mod NoLines
pub mod LineChoices
pub mod WordChoices
pub mod Slashes
pub mod Deep
pub mod Blanks
pub mod Cutting
