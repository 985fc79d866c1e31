-- The laws of growing ends and lacks: cells, strips, the stack.
pub mod Cells
pub mod Strips
pub mod Levels
pub mod Stacks
