pub mod HeadSteps
pub mod Repeats
pub mod LineRepeats
pub mod Purging
pub mod LastNumber
pub mod Reasons
pub mod SoundExamples
pub mod CasesLastNumber
pub mod Unfolded
mod Names
