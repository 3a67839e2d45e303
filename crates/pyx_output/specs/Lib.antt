pub mod Bytes
pub mod Choosing
pub mod Declaring
pub mod FreeNumbers
pub mod Heading
pub mod Nesting
pub mod Numbered
pub mod Used
