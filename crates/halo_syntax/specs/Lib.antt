-- The definitions that the contracts of the lines of files cite.
pub mod FileLines
pub mod Depth
pub mod Line
pub mod ProperLine
pub mod Forms
pub mod LineView
pub mod LinesLeft
pub mod LineReading
pub mod LineLaws
