pub mod Words
pub mod Judged
pub mod Promises
