-- Laws that belong to no one function; `units` cites those of the rules and of the traces.
pub mod Back
pub mod Breaking
pub mod Decoding
pub mod Escaping
pub mod Legality
pub mod Mapping
pub mod Pushing
pub mod Reach
pub mod Rooms
pub mod Sheets
pub mod Showing
pub mod Traces
pub mod Unescaping
pub mod Unique
