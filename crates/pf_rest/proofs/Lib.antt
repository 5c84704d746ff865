pub mod WalkSteps
pub mod WalkEnds
pub mod FlipAlone
pub mod WalksLocated
pub mod ToldNotes
pub mod Near
pub mod Uncrossed
pub mod StarAround
