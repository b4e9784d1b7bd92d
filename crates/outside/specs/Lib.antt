-- What a stranger must believe: causes, and what each device holds and does.
pub mod Causes
pub mod Pictures
pub mod Cells
pub mod Changes
pub mod Lines
pub mod Contents
pub mod FaultLines
-- What the forms in memory are seen as, and what inner contracts use.
pub mod Calls
pub mod Reels
pub mod Stocks
pub mod Kept
pub mod Absent
