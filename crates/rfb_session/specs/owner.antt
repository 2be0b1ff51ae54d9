pub mod Lines
pub mod Reader
pub mod OwnerStroke
pub mod ShareLines
