mod Rows
mod Chains
mod Reaching
mod Pushing
