pub mod LastFirst
pub mod Halved
pub mod Lasts
