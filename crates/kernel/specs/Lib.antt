pub mod Kernel
pub mod Change
pub mod KernelView
