pub mod CsvFronts
pub mod CsvRecords
pub mod FixedFacts
mod Names
