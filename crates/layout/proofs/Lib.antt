-- How many numbers each structure has, and runs of stores into a list.
pub mod Numbers
pub mod Runs
