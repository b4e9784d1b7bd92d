-- What a stranger must believe: the site before each build, the last line of a report, and the
-- session of a demo.
pub mod Pictures
pub mod Reports
pub mod Demo
-- What inner contracts use.
pub mod Played
