pub mod Checks
pub mod Records
pub mod Plans
