pub mod Answer
pub mod Within
