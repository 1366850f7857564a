pub mod Words
pub mod Refusals
pub mod Places
pub mod Leaves
pub mod Records
pub mod Names
