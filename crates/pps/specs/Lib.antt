-- What the contracts and laws of `pps` cite.
pub mod Rule
pub mod Step
pub mod Codes
pub mod Answer
