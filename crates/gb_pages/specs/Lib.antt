pub mod Checked
pub mod Paths
pub mod Dates
pub mod FrontMatter
pub mod Layouts
pub mod Links
pub mod Listing
pub mod Contents
