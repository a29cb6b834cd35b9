pub mod Exchanges
pub mod Sessions
pub mod Answering
pub mod Standing
