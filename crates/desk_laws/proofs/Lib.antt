pub mod Doings
pub mod OnceRuns
pub mod Once
pub mod OnceBank
pub mod Awaiting
pub mod FilledLines
pub mod MatchedAgain
pub mod Gathered
pub mod SecondMatch
pub mod DismissedLines
pub mod KeptDismissals
pub mod ToldOwn
pub mod ReasonsTold
mod Names
