-- The documented numbers have the documented product.
pub mod Documented
