mod Accepted
mod Keeping
