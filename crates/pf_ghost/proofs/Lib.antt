mod ByOwner
mod Spreading
mod Unnamed
