mod Words
mod StillWords
mod SameParts
pub mod SampleLevels
pub mod Taking
pub mod Reading
mod Writing
pub mod Beginning
pub mod Awaiting
pub mod Joining
mod FollowedAhead
mod Ahead
mod LaneBits
mod SetBits
mod DistanceSums
pub mod Turning
pub mod SameLevels
pub mod RunsBehind
pub mod RunsToEnd
pub mod Telling
mod Lines
mod Preambles
mod SmallDistances
mod TurnedRuns
pub mod Recovering
mod Keeping
mod OnLine
mod OnLineAhead
mod Lasting
pub mod Followed
pub mod Steady
pub mod WordBits
pub mod EndBytes
pub mod Queueing
pub mod States
pub mod Unfailing
pub mod Periods
mod Captured
pub mod Firsts
mod LongPairs
mod NearPeriods
mod TwoPeriods
mod Found
