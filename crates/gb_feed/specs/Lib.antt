pub mod Feed
pub mod Sites
pub mod SiteMap
