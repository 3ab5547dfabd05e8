-- To be read in this order.
pub mod Sheets
pub mod Store
pub mod History
pub mod Back
