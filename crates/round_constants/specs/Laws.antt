-- The table of rc is its rule's; the constants that the bits make, of every round and as numbers.
pub mod RcBits
pub mod RoundConstants
