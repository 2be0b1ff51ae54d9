pub mod ChannelLemmas
pub mod FormatLemmas
pub mod FormatLaws
mod FieldsReadLemmas
pub mod ReadingLemmas
pub mod ReadingLaws
mod WideningLemmas
mod LaneLemmas
mod UnpackLemmas
mod PackLemmas
mod CountLemmas
mod DifferingLemmas
mod Pack565Lemmas
mod Pack233Lemmas
mod Unpack565Lemmas
mod Unpack233Lemmas
mod Pack888Lemmas
