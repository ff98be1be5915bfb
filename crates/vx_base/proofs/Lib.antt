pub mod Booleans
pub mod Integers
pub mod Lists
pub mod Numbers
pub mod Numerals
pub mod Ranges
pub mod Results
