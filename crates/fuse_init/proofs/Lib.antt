pub mod SetBits
