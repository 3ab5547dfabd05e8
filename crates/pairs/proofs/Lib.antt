pub mod Mirror
pub mod Pairs
pub mod Minus
pub mod PairForms
pub mod Even
