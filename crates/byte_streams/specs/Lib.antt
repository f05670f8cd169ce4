pub mod CsvRecords
pub mod Digits
pub mod Streams
