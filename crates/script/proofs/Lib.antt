mod Decimals
mod Lines
