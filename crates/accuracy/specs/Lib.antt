-- To be read in this order.
pub mod Box
pub mod Action
pub mod Quaternions
pub mod ManyPoints
pub mod Norm
pub mod Rotation
pub mod Series
pub mod Domain
pub mod Rows
pub mod Exponential
pub mod CoefficientSizes
pub mod ClosedForm
pub mod ClosedArm
pub mod Numbers
