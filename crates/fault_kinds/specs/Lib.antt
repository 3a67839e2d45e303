pub mod FaultName
