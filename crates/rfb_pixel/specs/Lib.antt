pub mod Bytes
pub mod Channel
pub mod Format
pub mod FormatBytes
pub mod Rows
pub mod bits
