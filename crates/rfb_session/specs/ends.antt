-- A link and a world, step by step: words of private contracts alone, which a reader can skip.
pub mod Room
pub mod LinkDelivery
pub mod WorldStep
