mod Equations
mod Naming
mod Operands
mod Contents
mod Bounds
mod ModeNodes
mod Graphs
