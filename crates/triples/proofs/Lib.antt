pub mod Bits
pub mod Charted
