pub mod MeshLemmas
mod Alike
mod Entered
