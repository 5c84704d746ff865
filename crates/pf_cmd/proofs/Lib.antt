pub mod InputLemmas
pub mod Reading
pub mod OutputLemmas
pub mod CutFiles
pub mod RunFacts
pub mod Said
