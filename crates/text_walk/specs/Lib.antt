pub mod Text
pub mod BuiltIn
pub mod FaultName
pub mod Walking
pub mod Turning
pub mod Ask
pub mod Order
