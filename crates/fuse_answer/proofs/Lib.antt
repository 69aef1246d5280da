pub mod Forms
pub mod Readings
pub mod Listings
pub mod Answering
pub mod Packings
pub mod PlusPackings
pub mod ReadingBack
