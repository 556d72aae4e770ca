pub mod Xof
