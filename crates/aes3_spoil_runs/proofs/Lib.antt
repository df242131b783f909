mod Adding
mod Lines
mod Reported
mod Wrongs
