pub mod Converting
pub mod Running
pub mod Taking
pub mod Forms
pub mod Inputs
pub mod Driving
