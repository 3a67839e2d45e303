pub mod InOrder
