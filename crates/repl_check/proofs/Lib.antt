-- where records begin
pub mod Starts
-- one end and one fault
pub mod Single
pub mod RestFaults
pub mod Verdicts
-- what a check has found
pub mod Stages
-- the log as it is read
pub mod Pieces
