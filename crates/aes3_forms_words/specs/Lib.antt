pub mod Forms
pub mod Lists
pub mod Reading
pub mod Laws
