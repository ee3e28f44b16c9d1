-- What the contracts and laws cite.
pub mod Listed
pub mod System
pub mod Text
