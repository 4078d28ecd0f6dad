mod Trails
mod Rounds
