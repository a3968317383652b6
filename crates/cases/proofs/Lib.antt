pub mod Changed
pub mod Cases
pub mod CasesRound
pub mod CasesHoppers
pub mod Longest
pub mod Greatest
