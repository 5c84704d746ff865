pub mod Firsts
mod Leasts
mod Spokes
mod Mesh
