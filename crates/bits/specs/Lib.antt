-- What the contracts and laws of `bits` cite.
pub mod Rule
pub mod Step
pub mod Answer
pub mod Reading
pub mod Writing
