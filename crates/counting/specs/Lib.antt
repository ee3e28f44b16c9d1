-- What the contracts and laws cite.
pub mod Listing
pub mod Tally
