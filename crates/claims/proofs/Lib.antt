pub mod Typed
pub mod Readings
pub mod Grammar
pub mod Roomy
mod Numbers
pub mod Doors
mod Printable
pub mod Found
pub mod Exact
pub mod Further
pub mod WasRead
pub mod RoundTrips
pub mod Padded
pub mod Values
pub mod Places
pub mod Held
pub mod Program
pub mod Accepted
pub mod Refusals
pub mod Beyond
pub mod Cuts
pub mod Classes
pub mod Edges
pub mod Codes
pub mod Outcomes
