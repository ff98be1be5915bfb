pub mod PieceActs
mod Alike
mod Written
