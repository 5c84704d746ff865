pub mod Numbers
pub mod WrittenRows
pub mod Again
pub mod ReadNode
pub mod ReadEle
pub mod WriteRows
pub mod Given
