pub mod IdLaws
pub mod WithdrawLaws
