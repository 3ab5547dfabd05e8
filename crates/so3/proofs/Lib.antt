pub mod Entry
pub mod Even
