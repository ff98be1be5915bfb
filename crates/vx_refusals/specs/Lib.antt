pub mod ReplyTexts
pub mod Texts
