pub mod Runs
pub mod Laws
pub mod ChangeLaws
pub mod DetailLaws
