pub mod Numbers
pub mod Outcomes
pub mod Goes
pub mod Held
pub mod Walking
pub mod Stored
