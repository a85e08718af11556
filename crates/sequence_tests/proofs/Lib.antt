mod Exchanges
mod Loops
