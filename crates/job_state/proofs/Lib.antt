-- A record by the rule of its mark; the results of CH and RN, and of SH and SQ; the length of replies; and that SQ
-- returns what SH stored.
pub mod Records
pub mod Lent
pub mod Shelf
pub mod Most
pub mod Back
