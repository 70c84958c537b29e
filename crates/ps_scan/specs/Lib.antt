pub mod Class
pub mod Fault
pub mod Names
pub mod Piece
pub mod Tokens
pub mod inside
