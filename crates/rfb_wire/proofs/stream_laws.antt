-- Laws of streams of bytes, whatever their items are.
pub mod PartLaws
pub mod RepeatLaws
pub mod HeadLemmas
pub mod HeadLaws
pub mod HeadedLaws
pub mod ReadingLaws
pub mod GrammarLaws
pub mod EndLaws
pub mod FeedLaws
pub mod PlacingLaws
pub mod SequelLaws
pub mod BothLaws
pub mod SessionLaws
pub mod PendingLaws
pub mod WaitLaws
