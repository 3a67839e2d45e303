mod Continuing
mod Stepping
mod Running
mod Turning
mod Starting
