pub mod Adding
pub mod Collected
pub mod Covered
pub mod Entries
pub mod Exchange
pub mod Lefts
pub mod Funding
pub mod Keeping
pub mod Places
pub mod Seating
pub mod Store
pub mod Sums
pub mod Tested
pub mod Days
pub mod SeatOrder
pub mod Unfolded
mod Names
