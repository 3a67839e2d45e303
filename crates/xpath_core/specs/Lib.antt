pub mod Judged
pub mod Ready
pub mod Left
pub mod Asked
