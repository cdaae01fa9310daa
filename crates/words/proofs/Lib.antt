pub mod WordLaws
pub mod LeastLaws
