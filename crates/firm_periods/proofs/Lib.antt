pub mod AccountRules
pub mod Accounts
pub mod Approvals
pub mod AccountsCovered
pub mod AccountsInOrder
pub mod ClientsNamed
pub mod PacketParts
pub mod NamedLists
pub mod ListedOnce
pub mod Named
pub mod OneJournal
pub mod Picks
pub mod PurgedApprovals
pub mod PurgedMoves
mod Names
