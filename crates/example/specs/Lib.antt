pub mod Reconnects
