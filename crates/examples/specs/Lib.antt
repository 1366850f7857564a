pub mod Chains
pub mod Examples
