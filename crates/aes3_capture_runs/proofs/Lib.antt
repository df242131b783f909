mod Lines
mod OptionValues
mod Pushes
mod Said
mod Telling
