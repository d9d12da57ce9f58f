mod Draining
mod Moves
