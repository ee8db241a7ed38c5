pub mod Lives
pub mod Steps
