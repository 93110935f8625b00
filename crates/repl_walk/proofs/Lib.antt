-- where records end, and what is wrong after the last
pub mod Ends
pub mod Faults
pub mod Cuts
pub mod Timelines
-- a log after a record that is not known
pub mod PastAny
-- the rest of a record, page by page
pub mod RestPages
pub mod RestWalks
pub mod RestAnswers
pub mod RestImages
-- a walk over a piece
pub mod Walks
