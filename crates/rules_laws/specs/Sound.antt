-- "Every call leaves a sound book": one law a step, so it holds for every rule tree.
pub mod Parts
pub mod Facts
pub mod Steps
pub mod Run
