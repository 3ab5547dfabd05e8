pub mod Rising
pub mod Arm
pub mod Compare
