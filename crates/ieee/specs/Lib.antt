-- To be read in this order.
pub mod Numbers
pub mod Patterns
pub mod Signs
pub mod Finite
pub mod Table
pub mod Infix
pub mod Held
