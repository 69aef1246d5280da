mod Firsts
mod Turns
mod Befores
mod Steps
mod Chains
mod Groups
mod Holds
