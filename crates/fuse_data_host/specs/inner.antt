-- What only private functions cite (defined by this project).
pub mod Note
