pub mod LabelTable
pub mod LabelPolicy
pub mod Flows
pub mod Listing
