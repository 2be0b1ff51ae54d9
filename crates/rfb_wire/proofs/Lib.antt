pub mod stream_laws
pub mod FieldLemmas
pub mod ClientLemmas
pub mod ServerLemmas
pub mod ServerLaws
pub mod RectLemmas
pub mod ClientStreamLaws
pub mod ServerMessageLaws
pub mod RectStreamLaws
pub mod PendingLaws
pub mod WaitLaws
mod StandardFacts
mod MessageFacts
mod PendingFacts
mod SessionFacts
mod BothFacts
