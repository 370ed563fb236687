pub mod Words
pub mod Symbols
pub mod Lexemes
pub mod Strings
pub mod Gaps
pub mod Next
pub mod Scanning
pub mod Laws
