mod Held
mod Numbered
mod Split
mod Worded
