-- What the contracts and laws of `rbsp` cite.
pub mod Rule
pub mod Step
pub mod Answer
pub mod Promise
