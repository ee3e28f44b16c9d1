-- What the contracts of `exports` cite.
pub mod Fronts
pub mod Escaping
pub mod Framing
pub mod Bits
pub mod Groups
