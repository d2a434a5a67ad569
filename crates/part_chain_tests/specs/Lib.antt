pub mod ListLaws
pub mod Made
pub mod Laws
