-- How rows and marks lie in memory: words of private contracts alone, which a reader can skip.
pub mod Lines
pub mod Turn
pub mod Runs
pub mod Cells
pub mod Plane
pub mod Marks
pub mod PlaceSet
pub mod Edges
