-- Laws that other crates cite.
pub mod Accepting
pub mod Bytes
pub mod Choice
pub mod Cutting
pub mod Entering
pub mod Lists
pub mod Once
pub mod Pushing
pub mod Refusing
pub mod Restarting
pub mod Room
pub mod Running
pub mod Search
pub mod Taking
pub mod Unique
pub mod Ways
pub mod Writing
