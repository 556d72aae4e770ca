pub mod SealCalls
