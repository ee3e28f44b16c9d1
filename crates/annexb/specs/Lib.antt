-- What the contracts and laws cite.
pub mod Answer
pub mod Calls
pub mod Promise
pub mod Rule
pub mod Seen
pub mod Step
pub mod Syntax
