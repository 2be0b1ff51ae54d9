-- What a piece of a server's bytes does: words of private contracts alone, which a reader can skip.
pub mod ItemDamage
pub mod FedBytes
pub mod ItemMoves
pub mod Sound
pub mod Steps
pub mod StepPromises
