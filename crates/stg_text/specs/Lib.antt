-- Standard Task Graph text: its layout, what it says, how it is written, and what reading and writing it answer (order 9). Read in this order.
pub mod Fields
pub mod Layout
pub mod Says
pub mod Canonical
pub mod Answers
pub mod Refusals
pub mod GraphSaid
pub mod RoundTrip
