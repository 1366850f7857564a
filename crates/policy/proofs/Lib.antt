pub mod Places
pub mod Numbers
pub mod Leaves
pub mod Stacks
