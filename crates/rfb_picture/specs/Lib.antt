pub mod Rect
pub mod Grid
pub mod Loan
pub mod Box
pub mod Places
pub mod CellOrder
pub mod Area
pub mod layout
