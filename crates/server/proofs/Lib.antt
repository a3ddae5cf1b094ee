mod Answering
mod Crossing
