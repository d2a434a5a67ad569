pub mod Encode
pub mod Parse
pub mod Specimen
pub mod Lengths
pub mod Answer
