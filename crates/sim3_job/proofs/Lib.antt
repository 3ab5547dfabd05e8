mod Underway
mod Nearer
mod Sent
