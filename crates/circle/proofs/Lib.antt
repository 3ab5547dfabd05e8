pub mod Rows
pub mod Angle
pub mod Horner
