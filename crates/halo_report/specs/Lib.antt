-- The definitions that the contracts of the texts cite.
pub mod Lines
pub mod ValueText
pub mod Printed
pub mod ColumnsText
pub mod Laws
pub mod CoefficientText
pub mod PaysText
pub mod FormText
pub mod ExplainText
pub mod SampleText
