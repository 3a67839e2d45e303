mod Taking
mod Lines
