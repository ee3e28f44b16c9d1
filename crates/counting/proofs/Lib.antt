-- Laws that other crates cite, and what the proofs of the code cite.
pub mod Counting
pub mod Existing
pub mod Gaps
