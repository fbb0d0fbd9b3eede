pub mod Draws
pub mod OneByOne
pub mod SampleTables
pub mod SampleRecords
pub mod SampleWords
pub mod RecordsByPlace
