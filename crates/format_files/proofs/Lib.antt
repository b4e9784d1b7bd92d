mod Counting
mod Apart
