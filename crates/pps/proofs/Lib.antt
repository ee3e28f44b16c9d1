-- Laws.
pub mod Rows
pub mod Ids
pub mod Below
pub mod Entry
pub mod Results
pub mod Local
pub mod Back
pub mod Table
pub mod Sheets
pub mod Reach
pub mod Codes
pub mod Calls
