pub mod Refusal
pub mod Rule
pub mod ProRata
pub mod Rank
pub mod Figures
pub mod Quotients
pub mod Ranks
