pub mod Normal
pub mod Place
pub mod PlaceLaws
pub mod Lookup
pub mod LookupLaws
