-- Laws, and what the proofs of the code cite.
pub mod Digits
pub mod Exact
pub mod Filling
pub mod Lines
pub mod Sheets
pub mod Standing
pub mod Carrying
pub mod Taking
pub mod Along
