pub mod GapLaws
pub mod WatchLaws
pub mod SumLaws
pub mod PeriodLaws
