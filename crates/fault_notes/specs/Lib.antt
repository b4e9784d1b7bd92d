-- What a stranger must believe: what a line of a report says, which faults are reported, what is
-- known of their values, the text for each, and what other programs read of them.
pub mod Lines
pub mod Meanings
pub mod Reports
pub mod Excerpts
pub mod Causes
pub mod Notes
pub mod Printed
