pub mod CutLemmas
pub mod FeedLemmas
pub mod MoveLemmas
pub mod StepLemmas
