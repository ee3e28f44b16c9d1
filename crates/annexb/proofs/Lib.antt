-- Laws that other crates cite, and what the proofs of the code cite.
pub mod Calling
pub mod Codes
pub mod Completing
pub mod Following
pub mod Framing
pub mod Laws
pub mod Reach
pub mod Resetting
pub mod Sheets
pub mod Streams
pub mod Table
pub mod Ways
