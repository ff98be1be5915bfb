mod Lined
mod Passed
mod Reasoned
mod Walked
mod Waits
