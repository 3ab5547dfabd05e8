-- Any history of the running join; a step on each element of a list.
pub mod Past
mod Each
