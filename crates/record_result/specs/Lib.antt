-- To be read in this order.
pub mod Framed
pub mod RecordResult
