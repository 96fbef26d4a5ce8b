pub mod Fewest
pub mod Examples
pub mod PublishedFeed
pub mod Feeds
pub mod FeedDifferences
pub mod FeedViews
pub mod CanonicalAnswers
pub mod FeedChains
