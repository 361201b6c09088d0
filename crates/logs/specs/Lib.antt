-- What the entry answers; Keys is for private contracts alone.
pub mod Answers
pub mod Keys
