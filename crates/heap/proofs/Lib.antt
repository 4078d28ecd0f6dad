mod Moves
mod Swaps
mod Trees
