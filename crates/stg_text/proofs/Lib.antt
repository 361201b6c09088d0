-- What is proved of the definitions.
--
-- Lists of numbers, as they are laid out:
pub mod Pieces
pub mod Digits
pub mod Spaced
pub mod Those
pub mod Taken
pub mod Laid
pub mod Length
-- The refusals, and their order:
pub mod Refusing
-- The round trips:
pub mod Joined
pub mod RoundTrip
pub mod Got
pub mod Again
-- Texts and their answers, computed:
pub mod Worked
