pub mod Flows
pub mod Places
pub mod Listing
