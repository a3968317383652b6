pub mod Aboard
