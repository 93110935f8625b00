-- positions, bytes and headers of pages, and the log's bytes without these
pub mod Fields
pub mod Pages
pub mod Headers
pub mod Content
pub mod ContentFronts
-- the checksum, a byte at a time and by tables
pub mod ChecksumDivision
pub mod ChecksumPieces
pub mod ChecksumShifts
pub mod ChecksumTables
pub mod ChecksumTurns
-- where nothing is judged
pub mod JudgingCalm
-- a record's image has no fault
pub mod ImageRightFields
pub mod ImageRightFronts
pub mod ImageRight
-- a log that ends where a record does, with no fault, is its image
pub mod ImageMadeRecord
pub mod ImageMadeFields
pub mod ImageMadeGap
pub mod ImageMadeHeaders
pub mod ImageMade
-- how long an image is, and that an item has one at a place
pub mod ImageLength
pub mod OneImage
-- the log has one answer, and where records end in it
pub mod LogAnswers
pub mod LogEnds
pub mod LogChains
-- laying out a record
pub mod LayingBlocks
pub mod LayingRecord
-- a walker, which takes parts of headers, of records and of gaps
pub mod WalkerGoals
pub mod WalkerCounts
pub mod WalkerStands
pub mod WalkerAtEnds
pub mod WalkerHeader
pub mod WalkerRecord
pub mod WalkerRecordJudged
pub mod WalkerGap
pub mod WalkerSteps
pub mod WalkerAtOnce
