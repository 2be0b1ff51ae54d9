-- The words of the command line, one by one and by command.
pub mod Rules
pub mod Usage
pub mod Program
pub mod Values
pub mod PlayWords
pub mod ServeWords
pub mod ShareWords
pub mod ViewWords
pub mod HostingWords
pub mod RelayWords
pub mod DriveWords
