pub mod Ends
pub mod ReversedEnds
pub mod ReversedOctets
