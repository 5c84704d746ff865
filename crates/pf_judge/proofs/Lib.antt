pub mod StarTurns
pub mod SpokesShown
pub mod StarFan
pub mod NewEdges
