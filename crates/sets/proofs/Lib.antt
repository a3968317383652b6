pub mod TrailingZeros
