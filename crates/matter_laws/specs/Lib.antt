pub mod HeadLaws
pub mod Cases
pub mod CasesLines
pub mod CasesClaims
pub mod CasesPayments
pub mod CasesPurging
