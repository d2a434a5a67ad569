-- Steps take only what is sound: `enqueue`, `retain` and `attach` have a guard. No call ever comes to one that turns anything away.
pub mod Bare
pub mod Calls
