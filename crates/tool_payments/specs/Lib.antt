pub mod Amount
pub mod Payments
pub mod Counts
pub mod Laws
pub mod Text
pub mod AmountLaws
