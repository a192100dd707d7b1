pub mod Sessions
pub mod Promises
pub mod Lists
pub mod Exchanges
