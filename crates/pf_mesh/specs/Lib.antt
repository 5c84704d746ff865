pub mod Mesh
pub mod Room
pub use Rattle.pf_apply.specs.Run
